use Rattle.hc_trace_text.proofs.Orders.{get-is, del-is}
use Rattle.hc_trace_text.proofs.grammar.is_one_key.Goals as goal

pub returns-clause-get : goal.returns-clause-get
returns-clause-get c = rw c.is_key.ensures (get-is c.args.bytes.now)

pub returns-clause-del : goal.returns-clause-del
returns-clause-del c = rw c.is_key.ensures (del-is c.args.bytes.now)
