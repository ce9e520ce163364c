-- What is true of every trace.
use Rattle.std.specs.Prelude.{◌≡◌, List, None, IsSome}
use Rattle.hc_types.specs.Config.{Config}
use Rattle.hc_types.specs.Limits.{first_wrong}
use Rattle.hc_history.specs.Note.{Note}
use Rattle.hc_history.specs.Lawful.{Legal}
use Rattle.hc_history.specs.Honest.{Honest}
use Rattle.hc_machine.specs.World.{World}
use Rattle.hc_trace_meaning.specs.Actions.{Action, act}
use Rattle.hc_trace_meaning.specs.Trace.{fresh, notes_of}

-- Whatever the lines, their log is legal and honest: the one whose losses are printed, that is counted at the end, and of
-- which the verdict speaks.
pub record IsRight (config : Config) (log : List Note) : Type 0 where
  pub legal : Legal config log
  pub honest : Honest log

abbrev pub LogsAreRight : Type 0
LogsAreRight = (config : Config) (actions : List Action) → first_wrong config ≡ None → IsRight config (notes_of (fresh config) actions)

-- each line has an answer, which is printed
abbrev pub EachLineIsAnswered : Type 0
EachLineIsAnswered = (w : World) (action : Action) → IsSome (act action w).answer
