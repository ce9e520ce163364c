use Rattle.hc_trace_meaning.proofs.Logs as by
use Rattle.hc_trace_meaning.proofs.laws.logs_are_right.Goals as goal

pub returns : goal.returns
returns c = by.logs_are_right
