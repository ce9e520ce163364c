use Rattle.hc_trace_meaning.proofs.Logs.{logs_are_right}
use Rattle.hc_trace_log.proofs.logged.log_of.Goals as goal

pub returns-in_err-line-clause-right : goal.returns-in_err-line-clause-right
returns-in_err-line-clause-right c = logs_are_right

pub returns-in-Fault-clause-right : goal.returns-in-Fault-clause-right
returns-in-Fault-clause-right c = logs_are_right

pub returns-in-Configured-clause-right : goal.returns-in-Configured-clause-right
returns-in-Configured-clause-right c = logs_are_right
