use Rattle.std.proofs.Common.{refl, ap, arith}
use Rattle.hc_nvm.specs.Seen.{take_of}
use Rattle.hc_state.specs.Whole.{nvm_of}
use Rattle.hc_state.proofs.Stepping.{writer-step}
use Rattle.hc_state.proofs.state.State.writer_take.Goals as goal

pub returns-clause-ok : goal.returns-clause-ok
returns-clause-ok g c =
    let e = c.in_ok-take.ensures in
    rw (← c.self.view_is) (writer-step c.in-Some.nvm.nvm c.writer_take.new.self.nvm c.writer_take.new.pools (take_of c.in_ok-take.take) _ _ (ap nvm_of c.in-Some.is) e.ok refl (omega (arith, c.open_charges-spare.ensures.value, e.room)))
