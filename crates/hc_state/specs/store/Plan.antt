-- What an insert or a remove needs before it changes anything.
use Rattle.std.specs.Prelude.{◌≡◌, ℕ, ◌+◌, ◌*◌, ◌≤◌, List, Option, length}
use Rattle.hc_types.specs.FlashEntry.{FlashEntry}
use Rattle.hc_history.specs.Note.{Op, Begin}
use Rattle.hc_history.specs.Told.{is_log, where_kept}
use Rattle.hc_state.specs.wait.Courses.{AreCourses}
use Rattle.hc_state.specs.store.Clear.{ServesIn}
use Rattle.hc_state.specs.wait.Commit.{waiters_at}
use Rattle.hc_state.specs.store.Commit.{how_many}
use Rattle.hc_state.specs.Whole.{Whole}
use Rattle.hc_state.specs.declared.store.plan.Clearing.{Clearing}
use Rattle.hc_state.specs.declared.store.plan.Prepared.{Prepared}

-- all that the key needs to leave each place where it stood, and the calls that wait for it, where this is what it has then
pub record Clears {A : Type 0} (key : List ℕ) (there : Option FlashEntry) (whole : Whole) (plan : Clearing A) : Type 0 where
  pub outdates : ServesIn (is_log whole.log) key whole.cache.nvm plan.outdating
  pub serves : AreCourses (is_log whole.log) key whole.cache.now (waiters_at whole.cache.nvm key) there plan.courses.items

-- that, the number of the next call, and the note with which it begins
pub record Prepares {A : Type 0} (client : ℕ) (op : Op) (key : List ℕ) (there : Option FlashEntry) (whole : Whole) (plan : Prepared A) : Type 0 where
  pub call_is : plan.call ≡ whole.cache.calls + 1
  pub begin_is : plan.begin ≡ where_kept whole.log (Begin plan.call client op)
  pub clears : Clears key there whole plan.clearing

-- there is room for what such a call tells and buries
pub record HasRoomFor (key : List ℕ) (whole : Whole) : Type 0 where
  pub notes : 6 * how_many key whole + 8 + length whole.cache.memory.charges ≤ whole.notes
  pub stones : how_many key whole + 1 ≤ whole.spare.stones
