use Rattle.hc_trace_meaning.proofs.Logs as by
use Rattle.hc_trace_meaning.proofs.laws.traces_are_runs.Goals as goal

pub returns : goal.returns
returns c = by.traces_are_runs
