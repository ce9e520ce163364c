use Rattle.hc_trace_meaning.proofs.Logs.{logs_are_right, traces_are_runs}
use Rattle.hc_trace.proofs.chunks.replay.Goals as goal

pub returns-in-Ok-write_out-clause-log : goal.returns-in-Ok-write_out-clause-log
returns-in-Ok-write_out-clause-log g c = logs_are_right

pub returns-clause-log : goal.returns-clause-log
returns-clause-log g c = logs_are_right

pub returns-in-Ok-write_out-clause-runs : goal.returns-in-Ok-write_out-clause-runs
returns-in-Ok-write_out-clause-runs g c = traces_are_runs

pub returns-clause-runs : goal.returns-clause-runs
returns-clause-runs g c = traces_are_runs
