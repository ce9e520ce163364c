use Rattle.hc_machine.specs.Cache.{Cache}
use Rattle.hc_state.specs.Whole.{nvm_of}
use Rattle.hc_state.proofs.HandedOut.{parts-rest, parts-same}
use Rattle.hc_state.proofs.state.State.into_parts.Goals as goal

pub invariant_of-parts : goal.invariant_of-parts
invariant_of-parts g c =
    let f = c.self.inside in
    let cache : Cache = record { config = f.config; memory = f.pools; now = f.clock; calls = f.calls; owed = f.replies; nvm = nvm_of f.nvm } in
    parts-rest cache (rw (← c.self.view_is) at c.requires)

pub returns-clause-parts : goal.returns-clause-parts
returns-clause-parts g c =
    let f = c.self.inside in
    let cache : Cache = record { config = f.config; memory = f.pools; now = f.clock; calls = f.calls; owed = f.replies; nvm = nvm_of f.nvm } in
    rw (← c.self.view_is) (parts-same cache (rw (← c.self.view_is) at c.requires))
