use Rattle.std.proofs.Common.{refl, ap, arith}
use Rattle.hc_state.specs.Whole.{nvm_of}
use Rattle.hc_state.proofs.Stepping.{reclaim-step}
use Rattle.hc_state.proofs.state.State.reclaim.Goals as goal

pub returns-clause-ok : goal.returns-clause-ok
returns-clause-ok g c =
    let e = c.in_ok-region.ensures in
    rw (← c.self.view_is) (reclaim-step c.in-Some.nvm.nvm c.reclaim.new.self.nvm c.reclaim.new.pools c.in_ok-region.region _ _ (ap nvm_of c.in-Some.is) e.ok refl (omega (arith, c.open_charges-spare.ensures.value, e.room)))
