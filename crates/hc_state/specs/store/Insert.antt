-- What inserts come to.
use Rattle.std.specs.Prelude.{◌≡◌, ℕ, ◌+◌, Bool, true, false}
use Rattle.hc_memory.specs.Item.{Handle}
use Rattle.hc_history.specs.Note as note
use Rattle.hc_history.specs.Note.{Op, Insert, Add, Begin}
use Rattle.hc_history.specs.Told.{where_kept}
use Rattle.hc_machine.specs.Nvm.{Wish, ToFind, ToAdd}
use Rattle.hc_machine.specs.Cache.{Cache, Moved, Answer, Replied, Waits, answers, and_then}
use Rattle.hc_machine.specs.Calls.{begin, store}
use Rattle.hc_state.specs.Whole.{Whole}
use Rattle.hc_calls.specs.declared.answers.Inserted.{Inserted}
use Rattle.hc_calls.specs.declared.answers.Inserted.TheVariants.{Stored, Waiting}
use Rattle.hc_state.specs.declared.store.insert.Awaiting.{Awaiting}

abbrev pub inserted_answer : Inserted → Answer
inserted_answer Stored = Replied note.Stored
inserted_answer (Waiting call) = Waits call

-- what a call asks for that stores the handle's item: an add, or an insert
abbrev pub store_op : Bool → Handle → Op
store_op true handle = Add handle.key handle.value handle.expiry
store_op false handle = Insert handle.key handle.value handle.expiry

-- the call begins, and stores the handle's item
abbrev pub stored_step : Bool → ℕ → Handle → Cache → Moved
stored_step adds client handle cache = answers (Replied note.Stored) (and_then (begin client (store_op adds handle) cache) (store handle))

-- the call asks to store an item
abbrev pub is_add : Wish → Bool
is_add ToFind = false
is_add (ToAdd handle) = true

-- all that an add of the handle's item needs to wait
pub record AwaitsAdd {A : Type 0} (client : ℕ) (handle : Handle) (whole : Whole) (plan : Awaiting A) : Type 0 where
  pub call_is : plan.call ≡ whole.cache.calls + 1
  pub begin_is : plan.begin ≡ where_kept whole.log (Begin plan.call client (Add handle.key handle.value handle.expiry))
  pub key_is : plan.key ≡ handle.key
