-- A value is stored in one step, and an item removed in one, where there is no flash.
use Rattle.std.specs.Prelude.{◌≡◌, ℕ, ◌+◌, false, List, [], ◌∷◌, ◌++◌, length, Option, None, if◌then◌else◌}
use Rattle.hc_types.specs.Charge.{charge_of}
use Rattle.hc_types.specs.Loss as loss
use Rattle.hc_memory.specs.Item.{Item, Handle}
use Rattle.hc_memory.specs.Memory.{Memory, linked_at, victims_of, after_room, after_put, after_unlink, handle_for}
use Rattle.hc_memory.specs.Sound.{Sound}
use Rattle.hc_machine.specs.items.Allocating.{refusal_of, expiry_of, cause_for}
use Rattle.hc_history.specs.Note.{Note, Reply, Insert, Remove, Stored, Freed, Lose, Charged, Begin, Linked, Did, End}
use Rattle.hc_history.specs.Told.{Heard, told_more, told_count, is_log}
use Rattle.hc_history.specs.declared.stats.Kind.TheVariants as kind
use Rattle.hc_machine.specs.Cache.{Cache, Moved, Discarded, Replied}
use Rattle.hc_machine.specs.Waiting.{freed_note}
use Rattle.hc_machine.specs.Calls.{insert_or_replace, discard, remove, remove_reply}
use Rattle.hc_machine.specs.Evicting.{allocate}
use Rattle.hc_machine.specs.World.{inserted}

-- what is told of the items that go
abbrev pub leaving : ℕ → ℕ → ℕ → List Item → List Note
leaving now pool want [] = []
leaving now pool want (item ∷ items) = Freed item.number ∷ ((if item.clean then [] else Lose (loss.Key item.key) (cause_for now pool want item) ∷ []) ++ leaving now pool want items)

abbrev pub handle_in : ℕ → List ℕ → List ℕ → ℕ → Cache → Handle
handle_in pool key value ttl cache = handle_for cache.memory pool key value (expiry_of cache.now ttl)

-- what is told of the item that is stored, in this memory
abbrev pub storing : Memory → Handle → ℕ → List Note
storing memory handle call =
    Charged handle.number handle.key handle.pool (charge_of handle.key (length handle.value)) ∷ Begin call 0 (Insert handle.key handle.value handle.expiry)
    ∷ (freed_note (linked_at handle.key memory.pools) ++ Linked handle.number ∷ Did call Stored ∷ End call ∷ [])

-- room is made, and the item is put
abbrev pub short_set : ℕ → List ℕ → List ℕ → ℕ → Cache → Moved
short_set pool key value ttl cache = by (after_room cache.memory pool (charge_of key (length value))) (handle_in pool key value ttl cache)
  where
    by : Memory → Handle → Moved
    by memory handle = record {
      cache = record cache { memory = after_put memory handle; calls = cache.calls + 1 };
      answer = Replied Stored;
      part = leaving cache.now pool (charge_of key (length value)) (victims_of cache.memory pool (charge_of key (length value))) ++ storing memory handle (cache.calls + 1);
    }

abbrev pub SetsAreShort : Type 0
SetsAreShort = (pool : ℕ) (key value : List ℕ) (ttl : ℕ) (cache : Cache) → cache.nvm ≡ None → Sound cache.memory.pools cache.memory.charges cache.memory.made → refusal_of cache.memory pool key (length value) ≡ None
    → inserted (insert_or_replace 0) (allocate pool key value ttl cache) ≡ short_set pool key value ttl cache

-- where the log isn't kept, all that is told of an item that is stored comes to one count
abbrev pub StoredIsCounted : Type 0
StoredIsCounted = (heard : Heard) (memory : Memory) (handle : Handle) (call : ℕ) → is_log heard ≡ false → told_more heard (storing memory handle call) ≡ told_count heard kind.Stored

-- room is made, and nothing is stored: a number of a charge is gone
abbrev pub short_give_up : ℕ → List ℕ → List ℕ → ℕ → Cache → Moved
short_give_up pool key value ttl cache = by (after_room cache.memory pool (charge_of key (length value))) (handle_in pool key value ttl cache)
  where
    by : Memory → Handle → Moved
    by memory handle = record {
      cache = record cache { memory = record memory { made = handle.number } };
      answer = Discarded;
      part = leaving cache.now pool (charge_of key (length value)) (victims_of cache.memory pool (charge_of key (length value))) ++ Charged handle.number key pool (charge_of key (length value)) ∷ Freed handle.number ∷ [];
    }

abbrev pub GivenUpIsShort : Type 0
GivenUpIsShort = (pool : ℕ) (key value : List ℕ) (ttl : ℕ) (cache : Cache) → cache.nvm ≡ None → Sound cache.memory.pools cache.memory.charges cache.memory.made → refusal_of cache.memory pool key (length value) ≡ None
    → inserted discard (allocate pool key value ttl cache) ≡ short_give_up pool key value ttl cache

-- ---- removes

-- what is told of a remove, in this memory
abbrev pub removing : Memory → ℕ → List ℕ → ℕ → Reply → List Note
removing memory client key call reply = Begin call client (Remove key) ∷ (freed_note (linked_at key memory.pools) ++ Did call reply ∷ End call ∷ [])

-- the key's item is taken out
abbrev pub short_remove : ℕ → List ℕ → Cache → Moved
short_remove client key cache = record {
  cache = record cache { memory = after_unlink cache.memory key; calls = cache.calls + 1 };
  answer = Replied (remove_reply (linked_at key cache.memory.pools));
  part = removing cache.memory client key (cache.calls + 1) (remove_reply (linked_at key cache.memory.pools));
}

abbrev pub RemovesAreShort : Type 0
RemovesAreShort = (client : ℕ) (key : List ℕ) (cache : Cache) → cache.nvm ≡ None → remove client key cache ≡ short_remove client key cache

-- where the log isn't kept, all that is told of a remove comes to one count
abbrev pub RemovedIsCounted : Type 0
RemovedIsCounted = (heard : Heard) (memory : Memory) (client : ℕ) (key : List ℕ) (call : ℕ) (there : Option Item) → is_log heard ≡ false → told_more heard (removing memory client key call (remove_reply there)) ≡ told_count heard kind.Removed
