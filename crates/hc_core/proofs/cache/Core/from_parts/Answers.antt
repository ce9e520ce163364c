use Rattle.hc_core.proofs.Resumed.{resumed-holds}
use Rattle.hc_core.proofs.cache.Core.from_parts.Goals as goal

pub invariant_of-result : goal.invariant_of-result
invariant_of-result g c =
    let e = c.from_parts-state.ensures in
    resumed-holds c.from_parts-state.result c.args.parts (g.N.Listener.told c.args.notes) e.cache e.log e.rests c.requires.structured c.requires.guarded

pub returns-clause-core : goal.returns-clause-core
returns-clause-core g c = let e = c.from_parts-state.ensures in λ i. record { cache = e.cache i; log = e.log i }
