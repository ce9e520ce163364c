use Rattle.std.proofs.Common.{◌≡◌, ℕ, List, Some, sym, subst}
use Rattle.hc_flash.specs.Operations.{Read}
use Rattle.hc_machine.specs.World.{order_in}
use Rattle.hc_paged.specs.Devices.{mark_at}
use Rattle.hc_tracked.specs.Reading.{Tracked}
use Rattle.hc_tracked.proofs.Tracking.{read-tracks}
use Rattle.std.proofs.lemmas.Result.{IfOk-weaker}
use Rattle.hc_flash.specs.Seen.{result_of}
use Rattle.hc_tracked.proofs.tracked.TrackedCore.finish_read.Goals as goal

pub invariant_of-self : goal.invariant_of-self
invariant_of-self g c =
    let order = subst (λ (t : Tracked). order_in t.core.cache.nvm c.args.job ≡ Some (Read c.args.page)) (sym c.self.view_is) c.requires.order in
    read-tracks _ _ _ _ _ _ _ c.self.inside.core _ _ order c.finish.ensures.ok c.finish.ensures.err c.told_read-told.ensures.told (λ some. subst (λ (items : List ℕ). mark_at items c.args.page ≡ Some c.known-known.result) c.as_slice.ensures.value (c.known-known.ensures.some some)) c.self.invariant

pub returns-clause-ok : goal.returns-clause-ok
returns-clause-ok g c =
    rw (← c.self.view_is) (IfOk-weaker c.finish.result _ _ (λ take call. record { told = result_of c.told_read-told.result.0; told_is = c.told_read-told.ensures.failed; call = call }) c.finish.ensures.ok)
