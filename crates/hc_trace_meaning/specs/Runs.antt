-- That a trace is a run of the steps of its lines.
use Rattle.std.specs.Prelude.{◌≡◌, List, [], ◌∷◌, None}
use Rattle.hc_types.specs.Config.{Config}
use Rattle.hc_types.specs.Limits.{first_wrong}
use Rattle.hc_machine.specs.World.{Line}
use Rattle.hc_machine.specs.Schedule.{run, log_of}
use Rattle.hc_theorem.specs.runs.Lines.{steps_of}
use Rattle.hc_theorem.specs.headlines.Headline.{Promised}
use Rattle.hc_trace_meaning.specs.Actions.{Action, Deed, Acts, Barred, Rests, deed_of}
use Rattle.hc_trace_meaning.specs.Trace.{fresh, notes_of}

-- the machine's lines, without those that are refused for their key, and without restarts
abbrev pub acted : Deed → List Line → List Line
acted (Acts line) lines = line ∷ lines
acted (Barred refusal) lines = lines
acted Rests lines = lines

abbrev pub acted_lines : List Action → List Line
acted_lines [] = []
acted_lines (action ∷ actions) = acted (deed_of action) (acted_lines actions)

-- The log of a trace is that of a run of the steps of its lines, which is promised to follow them.
pub record IsRun (config : Config) (actions : List Action) : Type 0 where
  pub log : notes_of (fresh config) actions ≡ log_of (run config [] (steps_of (acted_lines actions)))
  pub promised : Promised config [] (steps_of (acted_lines actions))

abbrev pub TracesAreRuns : Type 0
TracesAreRuns = (config : Config) (actions : List Action) → first_wrong config ≡ None → IsRun config actions
