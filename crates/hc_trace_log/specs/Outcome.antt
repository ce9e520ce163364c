-- What a trace comes to, where its notes are kept.
use Rattle.std.specs.Prelude.{ℕ, List, Option, Some, None}
use Rattle.hc_types.specs.Config.{Config}
use Rattle.hc_types.specs.declared.refusal.Refusal.{Refusal}
use Rattle.hc_history.specs.Told.{Heard, Log}
use Rattle.hc_trace_meaning.specs.Actions.{Action}
use Rattle.hc_trace_meaning.specs.Trace as trace
use Rattle.hc_trace_meaning.specs.Trace.{Trace, Runs, Faulty, Actions, fresh, notes_of}
use Rattle.hc_trace_log.specs.declared.logged.Logged.{Logged}
use Rattle.hc_trace_log.specs.declared.logged.Logged.TheVariants as seen

pub data Outcome : Type 0 where
  -- the configuration, and what is heard of the log
  Whole : (config : Config) (heard : Heard) → Outcome
  -- the line that has a fault
  Fault : (line : ℕ) → Outcome
  -- the configuration is refused
  Refused : (refusal : Refusal) → Outcome

abbrev pub outcome_seen : Logged → Outcome
outcome_seen (seen.Whole config player) = Whole config player.log
outcome_seen (seen.Fault line) = Fault line
outcome_seen (seen.Refused refusal) = Refused refusal

-- the log of these lines, unless there is a fault behind them
abbrev pub ran : Config → List Action → Option ℕ → Outcome
ran config actions None = Whole config (Log (notes_of (fresh config) actions))
ran config actions (Some line) = Fault line

abbrev pub outcome_of : Trace → Outcome
outcome_of (Runs config rest) = ran config rest.actions rest.fault
outcome_of (trace.Refused refusal) = Refused refusal
outcome_of (Faulty line) = Fault line
