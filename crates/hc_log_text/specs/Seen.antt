-- How what was read is seen.
use Rattle.std.specs.Prelude.{Some, None}
use Rattle.hc_types.specs.Loss as loss
use Rattle.hc_history.specs.Note as note
use Rattle.hc_trace_text.specs.Seen.{bytes_of}
use Rattle.hc_log_text.specs.Reading.{page_bytes}
use Rattle.hc_log_text.specs.declared.line.OpText.{OpText}
use Rattle.hc_log_text.specs.declared.line.OpText.TheVariants as ops
use Rattle.hc_log_text.specs.declared.line.ReplyText.{ReplyText}
use Rattle.hc_log_text.specs.declared.line.ReplyText.TheVariants as replies
use Rattle.hc_log_text.specs.declared.line.ScopeText.{ScopeText}
use Rattle.hc_log_text.specs.declared.line.ScopeText.TheVariants as scopes
use Rattle.hc_log_text.specs.declared.line.CauseText.{CauseText}
use Rattle.hc_log_text.specs.declared.line.CauseText.TheVariants as causes
use Rattle.hc_log_text.specs.declared.line.NoteText.{NoteText}
use Rattle.hc_log_text.specs.declared.line.NoteText.TheVariants as notes

abbrev pub op_seen : OpText → note.Op
op_seen (ops.Insert key value expiry) = note.Insert key.now (bytes_of value) expiry
op_seen (ops.Add key value expiry) = note.Add key.now (bytes_of value) expiry
op_seen (ops.Find key) = note.Find key.now
op_seen (ops.Remove key) = note.Remove key.now

abbrev pub reply_seen : ReplyText → note.Reply
reply_seen replies.Stored = note.Stored
reply_seen replies.Exists = note.Exists
reply_seen (replies.Hit value) = note.Hit (bytes_of value)
reply_seen replies.Miss = note.Miss
reply_seen replies.FoundInMemory = note.FoundInMemory
reply_seen replies.NotInMemory = note.NotInMemory

abbrev pub scope_seen : ScopeText → loss.Scope
scope_seen (scopes.Key key) = loss.Key key.now
scope_seen (scopes.Bucket bucket) = loss.Bucket bucket
scope_seen (scopes.Hash kept) = loss.Hash kept None
scope_seen (scopes.HashBut kept key) = loss.Hash kept (Some key.now)

abbrev pub cause_seen : CauseText → loss.Cause
cause_seen (causes.Evicted pool want why) = loss.Evicted pool want why
cause_seen causes.BucketFull = loss.BucketFull
cause_seen (causes.Reclaimed region) = loss.Reclaimed region
cause_seen causes.NoCleanRegion = loss.NoCleanRegion
cause_seen (causes.Collision by) = loss.Collision by.now
cause_seen causes.Expired = loss.Expired
cause_seen causes.Fault = loss.Fault

abbrev pub note_seen : NoteText → note.Note
note_seen (notes.Begin call client op) = note.Begin call client (op_seen op)
note_seen (notes.Did call reply) = note.Did call (reply_seen reply)
note_seen (notes.End call) = note.End call
note_seen (notes.Lose scope cause) = note.Lose (scope_seen scope) (cause_seen cause)
note_seen (notes.Charged charge key pool bytes) = note.Charged charge key.now pool bytes
note_seen (notes.Linked charge) = note.Linked charge
note_seen (notes.Freed charge) = note.Freed charge
note_seen (notes.Queued key) = note.Queued key.now
note_seen (notes.Unqueued key) = note.Unqueued key.now
note_seen (notes.Writing key) = note.Writing key.now
note_seen (notes.Written key) = note.Written key.now
note_seen (notes.Buried key) = note.Buried key.now
note_seen (notes.Raised key) = note.Raised key.now
note_seen (notes.Read page text) = note.Read page (Some (page_bytes text.now))
note_seen (notes.ReadFailed page) = note.Read page None
note_seen (notes.Wrote page text is_written) = note.Wrote page (page_bytes text.now) is_written
note_seen (notes.Opened region) = note.Opened region
note_seen (notes.Flushed region) = note.Flushed region
note_seen (notes.Cleared region) = note.Cleared region
note_seen (notes.Now moment) = note.Now moment
