-- What is said of the log that a trace leaves.
use Rattle.std.specs.Prelude.{◌≡◌, Bool, true, false, List, Option, Some, None}
use Rattle.hc_types.specs.Config.{Config}
use Rattle.hc_history.specs.Note.{Note}
use Rattle.hc_history.specs.Told.{Log}
use Rattle.hc_trace_log.specs.Outcome.{Outcome, Whole, outcome_of}
use Rattle.hc_trace_meaning.specs.Trace.{Trace}
use Rattle.hc_verdict.specs.declared.verdict.Verdict.{Verdict}
use Rattle.hc_verdict.specs.Verdict.{IsVerdict}

-- the trace comes to its end
abbrev pub is_whole : Outcome → Bool
is_whole (Whole config heard) = true
is_whole outcome = false

-- the trace leaves a log, of which this is to be said
pub record IsJudged (trace : Trace) (verdict : Verdict) : Type 0 where
  pub config : Config
  pub log : List Note
  pub left : outcome_of trace ≡ Whole config (Log log)
  pub said : IsVerdict config log verdict

-- what is to be said of the log, or that there is none
abbrev pub IsSaid : Trace → Option Verdict → Type 0
IsSaid trace None = is_whole (outcome_of trace) ≡ false
IsSaid trace (Some verdict) = IsJudged trace verdict
