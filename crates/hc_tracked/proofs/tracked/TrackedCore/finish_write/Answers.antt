use Rattle.std.proofs.Common.{sym, subst, arith}
use Rattle.hc_machine.specs.World.{order_in}
use Rattle.hc_tracked.specs.Reading.{Tracked, WritesAs}
use Rattle.hc_tracked.proofs.Tracking.{write-tracks}
use Rattle.hc_tracked.proofs.tracked.TrackedCore.finish_write.Goals as goal

pub invariant_of-self-2 : goal.invariant_of-self-2
invariant_of-self-2 g c =
    let writes = subst (λ (t : Tracked). WritesAs g.G.Digest.of c.args.mark (order_in t.core.cache.nvm c.args.job) c.args.page) (sym c.self.view_is) c.requires.order in
    write-tracks _ _ _ _ _ _ _ _ _ _ c.self.inside.core _ writes c.in_ok-take.ensures.ok c.told_write-told.ensures.told c.remember.ensures.none (λ some within. c.remember.ensures.some some (grind (arith, within, c.len.ensures))) c.remember.ensures.others c.remember.ensures.many c.self.invariant

pub returns-clause-ok : goal.returns-clause-ok
returns-clause-ok g c = rw (← c.self.view_is) (record { told = _; told_is = c.told_write-told.ensures.failed; call = c.in_ok-take.ensures.ok })
