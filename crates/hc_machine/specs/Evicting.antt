-- Room is made, and items are allocated.
use Rattle.std.specs.Prelude.{ℕ, ◌+◌, List, [], ◌∷◌, ◌++◌, length, Option, Some, None, if◌then◌else◌}
use Rattle.hc_types.specs.Charge.{charge_of}
use Rattle.hc_types.specs.Loss as loss
use Rattle.hc_types.specs.declared.refusal.Refusal.{Refusal}
use Rattle.hc_types.specs.FlashEntry.{FlashEntry}
use Rattle.hc_memory.specs.Item.{Item, Handle}
use Rattle.hc_memory.specs.Memory.{Memory, victims_of, after_room, blank_of}
use Rattle.hc_machine.specs.items.Allocating.{refusal_of}
use Rattle.hc_machine.specs.items.Allocating.{expiry_of, cause_for}
use Rattle.hc_history.specs.Note.{Lose, Freed, Charged}
use Rattle.hc_machine.specs.Nvm.{Nvm}
use Rattle.hc_machine.specs.Leaving.{Changed, evicted}
use Rattle.hc_machine.specs.Cache.{Cache, Moved, Refused, Opened, Told, tells, and_then, answers, stays, with_memory, with_nvm}

abbrev pub entry_of_item : Item → FlashEntry
entry_of_item item = record { key = item.key; value = item.value; pool = item.pool; expiry = item.expiry }

-- what flash did with it: a loss of its key covers no item, since its own is gone
abbrev pub left_in : Changed → Cache → Told
left_in change cache = tells change.part (with_nvm change.nvm cache)

-- an item without a copy on flash was evicted: it waits for flash, or its key is forgotten
abbrev pub leaves_for : Option Nvm → ℕ → ℕ → Item → Cache → Told
leaves_for None pool want item cache = tells (Lose (loss.Key item.key) (cause_for cache.now pool want item) ∷ []) cache
leaves_for (Some nvm) pool want item cache = left_in (evicted cache.now pool want (entry_of_item item) nvm) cache

-- an item was evicted: a clean one needs no more
abbrev pub leaves : ℕ → ℕ → Item → Cache → Told
leaves pool want item cache = if item.clean then tells [] cache else leaves_for cache.nvm pool want item cache

abbrev pub all_leave : ℕ → ℕ → List Item → Cache → Told
all_leave pool want [] cache = tells [] cache
all_leave pool want (item ∷ items) cache = and_then (tells (Freed item.number ∷ []) cache) (λ cache. and_then (leaves pool want item cache) (all_leave pool want items))

-- room is made in a pool
abbrev pub make_room : ℕ → ℕ → Cache → Told
make_room pool want cache = all_leave pool want (victims_of cache.memory pool want) (with_memory (after_room cache.memory pool want) cache)

-- an item is charged, for which there is room
abbrev pub with_charge : Memory → ℕ → List ℕ → ℕ → Memory
with_charge memory pool key size = record memory {
  charges = memory.charges ++ record { number = memory.made + 1; pool = pool; key = key; size = size } ∷ [];
  made = memory.made + 1;
}

abbrev pub charge : ℕ → List ℕ → ℕ → Cache → Told
charge pool key size cache = tells (Charged (cache.memory.made + 1) key pool (charge_of key size) ∷ []) (with_memory (with_charge cache.memory pool key size) cache)

abbrev pub make_charge : ℕ → List ℕ → ℕ → Cache → Told
make_charge pool key size cache = and_then (make_room pool (charge_of key size) cache) (charge pool key size)

-- the handle of the next item that is charged, once it is written
abbrev pub handle_for : Cache → ℕ → List ℕ → List ℕ → ℕ → Handle
handle_for cache pool key value expiry = record (blank_of cache.memory pool key (length value) expiry) { value = value }

abbrev pub allocate_by : Option Refusal → ℕ → List ℕ → List ℕ → ℕ → Cache → Moved
allocate_by (Some refusal) pool key value ttl cache = stays (Refused refusal) cache
allocate_by None pool key value ttl cache = answers (Opened (handle_for cache pool key value (expiry_of cache.now ttl))) (make_charge pool key (length value) cache)

-- an item is allocated, and written
abbrev pub allocate : ℕ → List ℕ → List ℕ → ℕ → Cache → Moved
allocate pool key value ttl cache = allocate_by (refusal_of cache.memory pool key (length value)) pool key value ttl cache
