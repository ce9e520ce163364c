-- A value is stored in one step, where notes aren't kept and no call waits for its key.
use Rattle.std.specs.Prelude.{◌≡◌, ◌⊎◌, ℕ, ◌+◌, ◌*◌, ◌≤◌, Bool, not, ◌&&◌, List, [], ◌∷◌, length, Some, None, is_some}
use Rattle.hc_types.specs.Charge.{charge_of}
use Rattle.hc_types.specs.declared.refusal.Refusal.{Refusal}
use Rattle.hc_types.specs.declared.refusal.Refusal.TheVariants.{NoMemory}
use Rattle.hc_memory.specs.Item.{Handle}
use Rattle.hc_memory.specs.Memory.{victims_of, oldest_keys, after_room, after_put}
use Rattle.hc_history.specs.Note.{Linked, Stored}
use Rattle.hc_history.specs.Told.{Heard, told_more, told_count, is_log}
use Rattle.hc_history.specs.declared.stats.Kind.TheVariants as kind
use Rattle.hc_machine.specs.Cache.{Cache, Moved, Told, Answer, tells, and_then, with_memory}
use Rattle.hc_machine.specs.World.{inserted}
use Rattle.hc_machine.specs.Evicting.{allocate}
use Rattle.hc_machine.specs.Calls.{insert_or_replace, discard, replies_then}
use Rattle.hc_proof.specs.calls.Short.{leaving}
use Rattle.hc_state.specs.Answers.{refusal_in}
use Rattle.hc_state.specs.store.Clear.{ServesIn}
use Rattle.hc_state.specs.wait.Commit.{clear_by}
use Rattle.hc_state.specs.store.Commit.{fill_in}
use Rattle.hc_state.specs.Whole.{Whole, HasRoom, costs}
use Rattle.hc_state.specs.declared.set.short.SetPlan.{SetPlan}
use Rattle.hc_state.specs.declared.set.flash.FlashPlan.{FlashPlan}

-- an item is allocated that begins as the value, and inserted
abbrev pub set_step : ℕ → List ℕ → List ℕ → ℕ → Cache → Moved
set_step pool key value ttl cache = inserted (insert_or_replace 0) (allocate pool key value ttl cache)

-- an item was allocated, and is given up: room was made, and nothing is stored
abbrev pub give_up_step : ℕ → List ℕ → List ℕ → ℕ → Cache → Moved
give_up_step pool key value ttl cache = inserted discard (allocate pool key value ttl cache)

-- the call is refused as the machine refuses to allocate the item, or when out of memory
abbrev pub MayRefuse : Answer → Refusal → Type 0
MayRefuse answer refusal = (refusal_in answer ≡ Some refusal) ⊎ (refusal ≡ NoMemory)

-- there is no flash, and notes aren't kept
abbrev pub is_plain : Heard → Cache → Bool
is_plain log cache = not (is_some cache.nvm) && not (is_log log)

-- calls wait for the key from flash
abbrev pub is_awaited : Cache → List ℕ → Bool
is_awaited cache key = is_some (fill_in cache.nvm key)

-- no call waits for the key, and notes aren't kept
abbrev pub is_brief : List ℕ → Heard → Cache → Bool
is_brief key log cache = not (is_awaited cache key) && not (is_log log)

-- there is all that it takes to store the value under the key
pub record IsSetPlan {A : Type 0} (pool : ℕ) (key value : List ℕ) (whole : Whole) (plan : SetPlan A) : Type 0 where
  pub call : plan.call ≡ whole.cache.calls + 1
  pub number : plan.number ≡ whole.cache.memory.made + 1
  pub count : plan.count ≡ length (victims_of whole.cache.memory pool (charge_of key (length value)))
  pub bytes : plan.value ≡ value
  pub room : HasRoom (costs (2 * plan.count + 9 + length whole.cache.memory.charges) plan.count 1 0) whole

-- room was made in the pool, and so many items went
pub record IsRoomed (pool want count : ℕ) (old new : Whole) : Type 0 where
  pub cache : new.cache ≡ with_memory (after_room old.cache.memory pool want) old.cache
  pub log : new.log ≡ told_more old.log (leaving old.cache.now pool want (victims_of old.cache.memory pool want))
  pub notes : old.notes ≤ new.notes + 2 * count

-- the handle's item was put, by the call with this number
pub record IsPut (call : ℕ) (handle : Handle) (old new : Whole) : Type 0 where
  pub cache : new.cache ≡ record old.cache { memory = after_put old.cache.memory handle; calls = call }
  pub log : new.log ≡ told_count old.log kind.Stored
  pub notes : old.notes ≤ new.notes + 1

-- the number of a charge is gone, and nothing else
pub record IsSkipped (number : ℕ) (old new : Whole) : Type 0 where
  pub cache : new.cache ≡ record old.cache { memory = record old.cache.memory { made = number } }
  pub log : new.log ≡ old.log
  pub notes : old.notes ≤ new.notes

-- ---- where there is flash

-- there is all that a value needs beside that: its key once more, the keys of so many items that go, and what outdates its key
pub record IsFlashPlan {A : Type 0} (pool count : ℕ) (key : List ℕ) (whole : Whole) (plan : FlashPlan A) : Type 0 where
  pub copy : plan.copy ≡ key
  pub keys : plan.keys.items ≡ oldest_keys whole.cache.memory pool count
  pub outdates : ServesIn (is_log whole.log) key whole.cache.nvm plan.outdating

-- the handle's item was put, by the call with this number
abbrev pub put_in : Handle → ℕ → Cache → Cache
put_in handle call cache = record cache { memory = after_put cache.memory handle; calls = call }

-- the newest call stored the item with this number: its key left each place where it stood, and no call waits for it
abbrev pub stored_alone : ℕ → List ℕ → Cache → Told
stored_alone number key cache = and_then (and_then (clear_by None key cache) (tells (Linked number ∷ []))) (replies_then Stored (tells []))
