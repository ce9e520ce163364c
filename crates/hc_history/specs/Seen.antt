-- How the code's notes are seen.
use Rattle.hc_types.specs.Loss.{scope_of, cause_of}
use Rattle.hc_history.specs.Note.{Op, Insert, Add, Find, Remove, Reply, Stored, Exists, Hit, Miss, FoundInMemory, NotInMemory, Note, Begin, Did, End, Lose, Charged, Linked, Freed, Queued, Unqueued, Writing, Written, Buried, Raised, Read, Wrote, Opened, Flushed, Cleared, Now}
use Rattle.hc_history.specs.declared.note.Op.{Op as Ops}
use Rattle.hc_history.specs.declared.note.Op.TheVariants as ops
use Rattle.hc_history.specs.declared.note.Reply.{Reply as Replies}
use Rattle.hc_history.specs.declared.note.Reply.TheVariants as replies
use Rattle.hc_history.specs.declared.note.Said.{Said}
use Rattle.hc_history.specs.declared.note.Said.TheVariants as said

abbrev pub op_of : {A : Type 0} → Ops A → Op
op_of (ops.Insert key value expiry) = Insert key value expiry
op_of (ops.Add key value expiry) = Add key value expiry
op_of (ops.Find key) = Find key
op_of (ops.Remove key) = Remove key

abbrev pub reply_of : {A : Type 0} → Replies A → Reply
reply_of replies.Stored = Stored
reply_of replies.Exists = Exists
reply_of (replies.Hit value) = Hit value
reply_of replies.Miss = Miss
reply_of replies.FoundInMemory = FoundInMemory
reply_of replies.NotInMemory = NotInMemory

abbrev pub note_of : {A : Type 0} → Said A → Note
note_of (said.Begin call client op) = Begin call client (op_of op)
note_of (said.Did call reply) = Did call (reply_of reply)
note_of (said.End call) = End call
note_of (said.Lose scope cause) = Lose (scope_of scope) (cause_of cause)
note_of (said.Charged charge key pool bytes) = Charged charge key pool bytes
note_of (said.Linked charge) = Linked charge
note_of (said.Freed charge) = Freed charge
note_of (said.Queued key) = Queued key
note_of (said.Unqueued key) = Unqueued key
note_of (said.Writing key) = Writing key
note_of (said.Written key) = Written key
note_of (said.Buried key) = Buried key
note_of (said.Raised key) = Raised key
note_of (said.Read page result) = Read page result
note_of (said.Wrote page bytes is_written) = Wrote page bytes is_written
note_of (said.Opened region) = Opened region
note_of (said.Flushed region) = Flushed region
note_of (said.Cleared region) = Cleared region
note_of (said.Now moment) = Now moment
