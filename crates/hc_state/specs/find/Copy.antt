-- What a find answers that copies the value to a buffer.
use Rattle.std.specs.Prelude.{ℕ, List, length, Option, Some, None}
use Rattle.hc_memory.specs.Memory.{copied}
use Rattle.hc_history.specs.Note as note
use Rattle.hc_machine.specs.Cache.{Answer, Replied, Waits}
use Rattle.hc_state.specs.declared.answers.Copied.{Copied}
use Rattle.hc_state.specs.declared.answers.Copied.TheVariants.{Hit, Miss, Waiting}

-- what it answers where the machine's find answers so
abbrev pub copied_by : Answer → Option Copied
copied_by (Replied (note.Hit value)) = Some (Hit (length value))
copied_by (Replied note.Miss) = Some Miss
copied_by (Waits call) = Some (Waiting call)
copied_by answer = None

-- what it leaves in the buffer then
abbrev pub left_by : Answer → List ℕ → List ℕ
left_by (Replied (note.Hit value)) buffer = copied (Some value) buffer
left_by answer buffer = buffer
