use Rattle.hc_trace_text.proofs.Orders.{pool-is}
use Rattle.hc_trace_text.proofs.grammar.pool_in.Goals as goal

pub returns : goal.returns
returns c = rw (c.in_ok-bytes.ensures, pool-is c.in_ok-bytes.bytes.now c.in_ok-bytes.items.now) c.pool_with.ensures
