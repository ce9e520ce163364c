use Rattle.hc_state.specs.Whole.{nvm_of}
use Rattle.hc_state.specs.Resting.{of_parts}
use Rattle.hc_state.proofs.ComingBack.{comes-back}
use Rattle.hc_state.proofs.resting.Parts.comes_back.Goals as goal

pub returns-clause-items : goal.returns-clause-items
returns-clause-items g c =
    let f = c.self.inside in
    rw (← c.self.view_is) (λ structured sized. comes-back (of_parts f.config f.pools f.clock f.calls (nvm_of f.nvm)) structured c.self.invariant sized c.made-made.ensures.again)
