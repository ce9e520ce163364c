use Rattle.std.proofs.Common.{sym, subst}
use Rattle.hc_pair.specs.Endings.{Ending, CanLeave}
use Rattle.hc_pair.proofs.Closing.{can_leave}
use Rattle.hc_pair.proofs.pair.Pair.end.Goals as goal

pub leave-requires : goal.leave-requires
leave-requires g c = subst (λ (e : Ending). CanLeave c.args.number e.gives_up e.rest c.args.self.now) (sym c.ending.view_is) (can_leave c.args.number c.requires.0 c.args.self.now c.args.ending c.requires.1)
