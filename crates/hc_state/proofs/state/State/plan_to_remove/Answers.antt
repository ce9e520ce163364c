use Rattle.std.proofs.Common.{None}
use Rattle.hc_state.proofs.state.State.plan_to_remove.Goals as goal

pub returns-in-Ok-clause-ok : goal.returns-in-Ok-clause-ok
returns-in-Ok-clause-ok g c = record { call_is = c.in_ok-call.ensures.ok; begin_is = c.in-Ok.ensures.note; clears = c.in_ok-clearing.ensures.clears None tt }
