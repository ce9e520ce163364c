use Rattle.std.proofs.Common.{[], Bool, sym, ap, ◌∙◌}
use Rattle.std.specs.Prelude.{if◌then◌else◌}
use Rattle.hc_engines.specs.Engine.{Over}
use Rattle.hc_engines.specs.small.Entries.{without}
use Rattle.hc_engines.specs.small.BigHash.{ToWrite, ToEnd}
use Rattle.hc_engines.proofs.small.Fitting.{fits-without}
use Rattle.hc_bighash.proofs.Paging.{entries_are, len_is}
use Rattle.hc_bighash.proofs.pages.delete_plan.Goals as goal

pub without-requires-clause-fits : goal.without-requires-clause-fits
without-requires-clause-fits g c = fits-without c.args.page_size c.args.key.now c.args.entries c.requires

pub returns-clause-plan : goal.returns-clause-plan
returns-clause-plan g c =
    (λ i. ToWrite (entries_are c.args.page_size (without c.args.key.now c.args.entries) c.in_ok-page.page (fits-without c.args.page_size c.args.key.now c.args.entries c.requires) c.in_ok-page.ensures i) (c.new-losses.ensures.items i))
    ∙ ap (λ (b : Bool). if b then ToWrite (without c.args.key.now c.args.entries) [] else ToEnd Over) (sym c.if-not-has.false ∙ c.has.ensures)

pub returns-clause-fits : goal.returns-clause-fits
returns-clause-fits g c = len_is c.args.page_size (without c.args.key.now c.args.entries) c.in_ok-page.page (fits-without c.args.page_size c.args.key.now c.args.entries c.requires) c.in_ok-page.ensures
