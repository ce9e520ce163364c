use Rattle.hc_trace_meaning.proofs.Answered as by
use Rattle.hc_trace_meaning.proofs.laws.each_line_is_answered.Goals as goal

pub returns : goal.returns
returns c = by.each_line_is_answered
