use Rattle.std.proofs.Common.{[], ap, ◌∙◌}
use Rattle.hc_state.specs.Whole.{nvm_of}
use Rattle.hc_state.specs.Resting.{of_parts, is_at_rest}
use Rattle.hc_state.proofs.HandedOut.{bare-rests}
use Rattle.hc_state.proofs.resting.Parts.take_nvm.Goals as goal

pub invariant_of-self : goal.invariant_of-self
invariant_of-self g c =
    let f = c.self.inside in
    ap (λ o. is_at_rest (of_parts f.config f.pools f.clock f.calls (nvm_of o))) c.take.ensures.after ∙ bare-rests (of_parts f.config f.pools f.clock f.calls (nvm_of f.nvm)) c.self.invariant

pub returns-clause-cache : goal.returns-clause-cache
returns-clause-cache g c =
    let f = c.self.inside in
    rw (← c.self.view_is) (λ i. record { config = f.config; memory = f.pools; now = f.clock; calls = f.calls; owed = []; nvm = nvm_of (c.take.ensures.after i) })
