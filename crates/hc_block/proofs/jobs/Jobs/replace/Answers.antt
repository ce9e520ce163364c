use Rattle.std.proofs.Common.{◌≡◌, List, true, ap, sym, subst, ◌∙◌}
use Rattle.std.specs.Prelude.{is_some}
use Rattle.std.specs.Option.{option_copied_mut}
use Rattle.hc_engines.specs.large.Block.{Job, work_of}
use Rattle.hc_block.specs.Works.{jobs_of}
use Rattle.hc_block.proofs.Works.{write-is, not-missing}
use Rattle.hc_block.proofs.jobs.Jobs.replace.Goals as goal

pub unreachable-requires : goal.unreachable-requires
unreachable-requires g c =
    let there = subst (λ (js : List Job). is_some (work_of c.args.number js) ≡ true) (sym c.self.view_is) c.requires in
    not-missing c.args.number c.self.inside.works.entries there (sym c.get_mut.ensures.value ∙ ap option_copied_mut c.in-None.is)

pub returns : goal.returns
returns g c =
    rw (← c.self.view_is) (ap jobs_of (c.get_mut.follows.holds c.args.work).0 ∙ write-is c.args.number c.args.work c.in-Some.place.now c.self.inside.works.entries c.get_mut.ensures.ordered (sym c.get_mut.ensures.value ∙ ap option_copied_mut c.in-Some.is))
