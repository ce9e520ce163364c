use Rattle.hc_state.proofs.set.Sets.{Going}
use Rattle.hc_state.proofs.state.State.make_way.Given as goal

-- so many went
abbrev pub invariant-loop : goal.invariant-loop
invariant-loop g l = Going l.pool l.want l.count l.counter l.fn.self l.self
