-- Whatever the cache does, no charge is open for an item that is longer than an item may be.
use Rattle.std.proofs.Common.{◌≡◌, ℕ, ◌+◌, ◌≤◌, Bool, true, false, cond, not, ◌&&◌, List, [], ◌∷◌, ◌++◌, length, Option, Some, None, if◌then◌else◌, refl, sym, ap, subst, arith, le-ltb}
use Rattle.std.specs.Prelude.{is_some}
use Rattle.hc_types.specs.Charge.{charge_of}
use Rattle.hc_types.proofs.Tallies.{tally-append}
use Rattle.hc_types.specs.declared.refusal.Refusal.{Refusal}
use Rattle.hc_types.specs.declared.refusal.Refusal.TheVariants.{ForeignHandle, Exists as AlreadyExists}
use Rattle.hc_types.specs.FlashEntry.{FlashEntry}
use Rattle.hc_engines.specs.Engine.{IoResult}
use Rattle.hc_memory.specs.Item.{Open, Item, Handle}
use Rattle.hc_memory.specs.Charges.{closed}
use Rattle.hc_memory.specs.Memory.{Memory, linked_at, victims_of, after_room, after_link, after_unmark}
use Rattle.hc_memory.proofs.Making.{closed-less}
use Rattle.hc_history.specs.Note.{Note, Insert, Add, Reply, Stored, Linked, Lose}
use Rattle.hc_machine.specs.items.Allocating.{refusal_of}
use Rattle.hc_machine.specs.Nvm.{Nvm, Waiter, Wish, ToFind, ToAdd, Fill, fill_at, without_fill}
use Rattle.hc_machine.specs.Leaving.{Changed, unqueue, outdate}
use Rattle.hc_machine.specs.Takes as takes
use Rattle.hc_machine.specs.Takes.{Taken, Filled}
use Rattle.hc_machine.specs.Cache.{Owed, Cache, Moved, Refused, Discarded, Replied, Waits, answers, stays, Told, tells, and_then, on_flash_of, on_flash, with_memory, with_nvm, owed_at, takes_in, took_in, unmarked_by}
use Rattle.hc_machine.specs.Evicting.{leaves_for, leaves, all_leave, make_room, make_charge, handle_for, allocate_by, allocate}
use Rattle.hc_machine.specs.Waiting.{freed_note, clear, uproot, plant, free, live, find_reply, serve, there_after, serve_all, serve_fill, end_fill_of, end_fill, entry_of_handle}
use Rattle.hc_machine.specs.Calls.{begin, replies_then, wait_in, wait_for, is_known, discard, store, insert_or_replace, in_memory, must_wait, add, insert, used, find_now, find, remove, take_of, take_reply}
use Rattle.hc_machine.specs.Workers.{can_link, link_clean, bring, fill, after_take, take_on, reclaim_on, reclaim, after_finish, finish_on, finish}
use Rattle.hc_machine.specs.Call.{CacheCall, Allocates, Inserts, Adds, Discards, Finds, Removes, Replies, Ticks, Writes, Fills, Reclaims, Finishes, act}
use Rattle.hc_theorem.proofs.runs.Running.{short_value}
use Rattle.hc_core.specs.Holds.{is_long, AreShort}

-- a part of a step opens no charge for a longer item
abbrev Keeps : Cache → Cache → Type 0
Keeps old new = AreShort old.memory.charges → AreShort new.memory.charges

same : (old new : Cache) → new.memory.charges ≡ old.memory.charges → Keeps old new
same old new e h = subst AreShort (sym e) h

both : (cache : Cache) (first : Told) (f : Cache → Told) → Keeps cache first.cache → ((c : Cache) → Keeps c (f c).cache) → Keeps cache (and_then first f).cache
both cache first f p q h = q first.cache (p h)

closes : (old new : Cache) (number : ℕ) → new.memory.charges ≡ closed number old.memory.charges → Keeps old new
closes old new number e h = let less = closed-less (λ (c : Open). cond (is_long c) 1 0) number old.memory.charges in subst AreShort (sym e) (omega (arith, less, h))

-- ---- flash

unmarked : (notes : List Note) (memory : Memory) → (unmarked_by notes memory).charges ≡ memory.charges
unmarked [] memory = refl
unmarked (Lose scope cause ∷ notes) memory = unmarked notes (after_unmark memory scope)
unmarked (note ∷ notes) memory = unmarked notes memory

flash_keeps : (f : Nvm → Changed) (cache : Cache) → Keeps cache (on_flash f cache).cache
flash_keeps f cache = go cache.nvm
  where
    go : (nvm : Option Nvm) → Keeps cache (on_flash_of nvm f cache).cache
    go None h = h
    go (Some nvm) h = same cache (took_in (f nvm) cache).cache (unmarked (f nvm).part cache.memory) h

clear_keeps : (key : List ℕ) (cache : Cache) → Keeps cache (clear key cache).cache
clear_keeps key cache =
    both cache (on_flash (unqueue key) cache) (λ (c : Cache). and_then (tells (freed_note (linked_at key c.memory.pools)) c) (on_flash (outdate key))) (flash_keeps (unqueue key) cache)
    (λ (c : Cache). flash_keeps (outdate key) c)

uproot_keeps : (key : List ℕ) (cache : Cache) → Keeps cache (uproot key cache).cache
uproot_keeps key cache = clear_keeps key cache

plant_keeps : (handle : Handle) (cache : Cache) → Keeps cache (plant handle cache).cache
plant_keeps handle cache =
    both cache (clear handle.key cache) (λ (c : Cache). tells (Linked handle.number ∷ []) (with_memory (after_link c.memory false handle) c)) (clear_keeps handle.key cache)
    (λ (c : Cache). closes c (with_memory (after_link c.memory false handle) c) handle.number refl)

free_keeps : (number : ℕ) (cache : Cache) → Keeps cache (free number cache).cache
free_keeps number cache = closes cache (free number cache).cache number refl

-- ---- calls that wait are served

serve_keeps : (call : ℕ) (wish : Wish) (there : Option FlashEntry) (cache : Cache) → Keeps cache (serve call wish there cache).cache
serve_keeps call ToFind there cache h = h
serve_keeps call (ToAdd handle) (Some entry) cache h = free_keeps handle.number cache h
serve_keeps call (ToAdd handle) None cache h = plant_keeps handle cache h

serve_all_keeps : (waiters : List Waiter) (there : Option FlashEntry) (cache : Cache) → Keeps cache (serve_all waiters there cache).cache
serve_all_keeps [] there cache h = h
serve_all_keeps (waiter ∷ waiters) there cache h =
    both cache (serve waiter.call waiter.wish (live cache.now there) cache) (serve_all waiters (there_after waiter.wish (live cache.now there)))
    (serve_keeps waiter.call waiter.wish (live cache.now there) cache) (serve_all_keeps waiters (there_after waiter.wish (live cache.now there))) h

end_fill_keeps : (key : List ℕ) (there : Option FlashEntry) (cache : Cache) → Keeps cache (end_fill key there cache).cache
end_fill_keeps key there cache = go cache.nvm
  where
    by : (found : Option Fill) (nvm : Nvm) → Keeps cache (serve_fill found nvm there cache).cache
    by None nvm h = h
    by (Some fill) nvm h = serve_all_keeps fill.waiters there (with_nvm (record nvm { fills = without_fill fill.key nvm.fills }) cache) h

    go : (nvm : Option Nvm) → Keeps cache (end_fill_of nvm key there cache).cache
    go None h = h
    go (Some nvm) h = by (fill_at key nvm.fills) nvm h

-- ---- room is made

leaves_keeps : (pool want : ℕ) (item : Item) (cache : Cache) → Keeps cache (leaves pool want item cache).cache
leaves_keeps pool want item cache = go item.clean cache.nvm
  where
    go : (clean : Bool) (nvm : Option Nvm) → Keeps cache (if clean then tells [] cache else leaves_for nvm pool want item cache).cache
    go true nvm h = h
    go false None h = h
    go false (Some nvm) h = h

all_leave_keeps : (pool want : ℕ) (items : List Item) (cache : Cache) → Keeps cache (all_leave pool want items cache).cache
all_leave_keeps pool want [] cache h = h
all_leave_keeps pool want (item ∷ items) cache h =
    both cache (leaves pool want item cache) (all_leave pool want items) (leaves_keeps pool want item cache) (all_leave_keeps pool want items) h

last_short : (size : ℕ) (charges : List Open) (last : Open) → size ≤ 1048576 → last.size ≡ size → AreShort charges → AreShort (charges ++ last ∷ [])
last_short size charges last le is h =
    let f : Open → ℕ = λ c. cond (is_long c) 1 0 in
    let one : f last ≡ 0 = ap {B = ℕ} (λ b. cond b 1 0) (le-ltb 1048576 last.size (subst (λ n. n ≤ 1048576) (sym is) le)) in
    omega (arith, tally-append f charges (last ∷ []), one, h)

make_charge_keeps : (pool : ℕ) (key : List ℕ) (size : ℕ) (cache : Cache) → size ≤ 1048576 → Keeps cache (make_charge pool key size cache).cache
make_charge_keeps pool key size cache le h =
    let want : ℕ = charge_of key size in
    let roomy = (make_room pool want cache).cache in
    let room = all_leave_keeps pool want (victims_of cache.memory pool want) (with_memory (after_room cache.memory pool want) cache) h in
    last_short size roomy.memory.charges (record { number = roomy.memory.made + 1; pool = pool; key = key; size = size }) le refl room

-- ---- a fill is over

can_step : (a b : Bool) → (a && not b) ≡ true → b ≡ false
can_step true false e = refl
can_step true true e = absurd cc
can_step false b e = absurd cc

none_of : {X : Type 0} (o : Option X) → is_some o ≡ false → o ≡ None
none_of None e = refl
none_of (Some x) e = absurd cc

bring_keeps : (there : Option FlashEntry) (cache : Cache) → Keeps cache (bring there cache).cache
bring_keeps None cache h = h
bring_keeps (Some entry) cache h = go (can_link cache entry) refl h
  where
    go : (b : Bool) → can_link cache entry ≡ b
        → Keeps cache (if b then and_then (make_charge entry.pool entry.key (length entry.value) cache) (link_clean (handle_for cache entry.pool entry.key entry.value entry.expiry)) else tells [] cache).cache
    go false e h = h
    go true e h =
        let refusal = refusal_of cache.memory entry.pool entry.key (length entry.value) in
        let none = none_of refusal (can_step (is_some (live cache.now (Some entry))) (is_some refusal) e) in
        let le = short_value cache.memory entry.pool entry.key (length entry.value) none in
        let handle = handle_for cache entry.pool entry.key entry.value entry.expiry in
        let charged = (make_charge entry.pool entry.key (length entry.value) cache).cache in
        closes charged (link_clean handle charged).cache handle.number refl (make_charge_keeps entry.pool entry.key (length entry.value) cache le h)

fill_keeps : (filled : Option Filled) (cache : Cache) → Keeps cache (fill filled cache).cache
fill_keeps None cache h = h
fill_keeps (Some filled) cache h = both cache (bring filled.entry cache) (serve_all filled.waiters filled.entry) (bring_keeps filled.entry cache) (serve_all_keeps filled.waiters filled.entry) h

-- ---- the calls

abbrev KeepsBy : Cache → Moved → Type 0
KeepsBy cache moved = Keeps cache moved.cache

discards : (handle : Handle) (cache : Cache) → KeepsBy cache (discard handle cache)
discards handle cache h = go (is_known cache handle)
  where
    go : (b : Bool) → AreShort (if b then answers Discarded (free handle.number cache) else stays (Refused ForeignHandle) cache).cache.memory.charges
    go true = free_keeps handle.number cache h
    go false = h

allocates : (pool : ℕ) (key value : List ℕ) (ttl : ℕ) (cache : Cache) → KeepsBy cache (allocate pool key value ttl cache)
allocates pool key value ttl cache h = go (refusal_of cache.memory pool key (length value)) refl
  where
    go : (refusal : Option Refusal) → refusal_of cache.memory pool key (length value) ≡ refusal → AreShort (allocate_by refusal pool key value ttl cache).cache.memory.charges
    go (Some refusal) e = h
    go None e = make_charge_keeps pool key (length value) cache (short_value cache.memory pool key (length value) e) h

abbrev begun : Cache → Cache
begun cache = record cache { calls = cache.calls + 1 }

store_keeps : (handle : Handle) (cache : Cache) → Keeps cache (store handle cache).cache
store_keeps handle cache =
    both cache (plant handle cache) (replies_then Stored (end_fill handle.key (Some (entry_of_handle handle)))) (plant_keeps handle cache)
    (λ (c : Cache). end_fill_keeps handle.key (Some (entry_of_handle handle)) c)

waited : (key : List ℕ) (wish : Wish) (cache : Cache) → Keeps cache (wait_in cache.nvm key wish (begun cache))
waited key wish cache h = go cache.nvm
  where
    go : (nvm : Option Nvm) → AreShort (wait_in nvm key wish (begun cache)).memory.charges
    go None = h
    go (Some nvm) = h

inserts : (client : ℕ) (handle : Handle) (cache : Cache) → KeepsBy cache (insert_or_replace client handle cache)
inserts client handle cache h = go (is_known cache handle)
  where
    go : (b : Bool) → AreShort (if b then answers (Replied Stored) (and_then (begin client (Insert handle.key handle.value handle.expiry) cache) (store handle)) else stays (Refused ForeignHandle) cache).cache.memory.charges
    go true = store_keeps handle (begun cache) h
    go false = h

add_keeps : (client : ℕ) (handle : Handle) (cache : Cache) → KeepsBy cache (add client handle cache)
add_keeps client handle cache h = go (must_wait cache handle.key)
  where
    go : (b : Bool) → AreShort (if b then answers (Waits (cache.calls + 1)) (and_then (begin client (Add handle.key handle.value handle.expiry) cache) (wait_for handle.key (ToAdd handle))) else answers (Replied Stored) (and_then (begin client (Add handle.key handle.value handle.expiry) cache) (store handle))).cache.memory.charges
    go true = waited handle.key (ToAdd handle) cache h
    go false = store_keeps handle (begun cache) h

adds : (client : ℕ) (handle : Handle) (cache : Cache) → KeepsBy cache (insert client handle cache)
adds client handle cache h = go (is_some (live cache.now (in_memory cache handle.key))) (is_known cache handle)
  where
    go : (a b : Bool) → AreShort (if a then stays (Refused AlreadyExists) cache else (if b then add client handle cache else stays (Refused ForeignHandle) cache)).cache.memory.charges
    go true b = h
    go false true = add_keeps client handle cache h
    go false false = h

finds : (client : ℕ) (key : List ℕ) (cache : Cache) → KeepsBy cache (find client key cache)
finds client key cache h = go (must_wait (begun cache) key)
  where
    go : (b : Bool) → AreShort (if b then answers (Waits (cache.calls + 1)) (wait_for key ToFind (begun cache)) else find_now (find_reply (live cache.now (in_memory (begun cache) key))) (used key (begun cache))).cache.memory.charges
    go true = waited key ToFind cache h
    go false = h

removes : (client : ℕ) (key : List ℕ) (cache : Cache) → KeepsBy cache (remove client key cache)
removes client key cache h =
    let u : Cache = (uproot key (begun cache)).cache in
    end_fill_keeps key None u (uproot_keeps key (begun cache) h)

replies : (call : ℕ) (cache : Cache) → KeepsBy cache (take_reply call cache)
replies call cache h = go (owed_at call cache.owed)
  where
    by : (owed : Owed) (reply : Option Reply) → AreShort (take_of (Some (record { call = owed.call; reply = reply })) cache).cache.memory.charges
    by owed None = h
    by owed (Some reply) = h

    go : (found : Option Owed) → AreShort (take_of found cache).cache.memory.charges
    go None = h
    go (Some owed) = by owed owed.reply

after_take_keeps : (taken : Taken) (cache : Cache) → KeepsBy cache (after_take taken cache)
after_take_keeps taken cache h = fill_keeps taken.filled (takes_in taken.part taken.nvm cache).cache (same cache (takes_in taken.part taken.nvm cache).cache (unmarked taken.part cache.memory) h)

take_on_keeps : (take : Nvm → Taken) (cache : Cache) → KeepsBy cache (take_on cache.nvm take cache)
take_on_keeps take cache h = go cache.nvm
  where
    go : (nvm : Option Nvm) → AreShort (take_on nvm take cache).cache.memory.charges
    go None = h
    go (Some nvm) = after_take_keeps (take nvm) cache h

reclaims : (cache : Cache) → KeepsBy cache (reclaim cache)
reclaims cache h = go cache.nvm
  where
    go : (nvm : Option Nvm) → AreShort (reclaim_on nvm cache).cache.memory.charges
    go None = h
    go (Some nvm) = same cache (took_in (takes.reclaim nvm).change cache).cache (unmarked (takes.reclaim nvm).change.part cache.memory) h

finishes : (number : ℕ) (result : IoResult) (cache : Cache) → KeepsBy cache (finish number result cache)
finishes number result cache h = go cache.nvm
  where
    by : (taken : Option Taken) → AreShort (after_finish taken cache).cache.memory.charges
    by None = h
    by (Some taken) = after_take_keeps taken cache h

    go : (nvm : Option Nvm) → AreShort (finish_on nvm number result cache).cache.memory.charges
    go None = h
    go (Some nvm) = by (takes.finish number result nvm)

pub stays-short : (event : CacheCall) (cache : Cache) → AreShort cache.memory.charges → AreShort (act event cache).cache.memory.charges
stays-short (Allocates pool key value ttl) cache h = allocates pool key value ttl cache h
stays-short (Inserts client handle) cache h = inserts client handle cache h
stays-short (Adds client handle) cache h = adds client handle cache h
stays-short (Discards handle) cache h = discards handle cache h
stays-short (Finds client key) cache h = finds client key cache h
stays-short (Removes client key) cache h = removes client key cache h
stays-short (Replies call) cache h = replies call cache h
stays-short (Ticks moment) cache h = h
stays-short Writes cache h = take_on_keeps takes.writer_take cache h
stays-short Fills cache h = take_on_keeps takes.filler_take cache h
stays-short Reclaims cache h = reclaims cache h
stays-short (Finishes number result) cache h = finishes number result cache h
