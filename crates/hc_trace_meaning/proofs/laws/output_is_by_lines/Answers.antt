use Rattle.hc_trace_meaning.proofs.Same as by
use Rattle.hc_trace_meaning.proofs.laws.output_is_by_lines.Goals as goal

pub returns : goal.returns
returns c = by.output_is_by_lines
