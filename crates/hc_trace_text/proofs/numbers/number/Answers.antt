use Rattle.hc_trace_text.proofs.Decimals.{is-number}
use Rattle.hc_trace_text.proofs.numbers.number.Goals as goal

pub returns-clause-decimal : goal.returns-clause-decimal
returns-clause-decimal c = rw c.plain.ensures (is-number c.args.text.now)
