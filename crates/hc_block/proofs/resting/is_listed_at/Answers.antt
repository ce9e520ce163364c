use Rattle.std.proofs.Common.{List, sym, ap, subst, ◌∙◌}
use Rattle.hc_engines.specs.large.Region.{Appended}
use Rattle.hc_engines.specs.large.Sound.{is_listed, IsRising}
use Rattle.hc_block.proofs.Listed.{none_past}
use Rattle.hc_block.proofs.resting.is_listed_at.Goals as goal

pub is_listed_in-requires : goal.is_listed_in-requires
is_listed_in-requires g c = (c.requires.0, subst (λ (xs : List Appended). IsRising 0 xs c.requires.0) (sym c.appended_at.ensures) c.requires.1)

pub returns-then-r-regions : goal.returns-then-r-regions
returns-then-r-regions g c = sym (none_past c.args.regions.now c.args.r c.args.hash c.args.offset c.if-r-regions.true)

pub returns : goal.returns
returns g c = c.is_listed_in.ensures ∙ ap (λ (xs : List Appended). is_listed c.args.hash c.args.offset xs) c.appended_at.ensures
