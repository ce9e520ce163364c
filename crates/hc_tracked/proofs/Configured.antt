-- No call of a cache changes its configuration.
use Rattle.std.proofs.Common.{◌≡◌, ℕ, Bool, true, false, List, [], ◌∷◌, length, Option, Some, None, refl, ◌∙◌}
use Rattle.std.specs.Prelude.{if◌then◌else◌, is_some}
use Rattle.hc_types.specs.Charge.{charge_of}
use Rattle.hc_types.specs.FlashEntry.{FlashEntry}
use Rattle.hc_types.specs.declared.refusal.Refusal.{Refusal}
use Rattle.hc_flash.specs.Operations.{IoResult}
use Rattle.hc_memory.specs.Item.{Item, Handle}
use Rattle.hc_memory.specs.Memory.{linked_at, victims_of, after_room}
use Rattle.hc_history.specs.Note.{Insert, Add, Find, Remove, Reply}
use Rattle.hc_machine.specs.items.Allocating.{refusal_of}
use Rattle.hc_machine.specs.Nvm.{Nvm, Waiter, Wish, ToFind, ToAdd, Fill, fill_at, without_fill}
use Rattle.hc_machine.specs.Leaving.{Changed, unqueue, outdate}
use Rattle.hc_machine.specs.Takes as takes
use Rattle.hc_machine.specs.Takes.{Filled, Taken}
use Rattle.hc_machine.specs.Cache.{Cache, Told, Moved, Owed, with_memory, with_nvm, on_flash_of, on_flash, takes_in, owed_at}
use Rattle.hc_machine.specs.Evicting.{leaves_for, leaves, all_leave, make_charge, allocate_by}
use Rattle.hc_machine.specs.Waiting.{entry_of_handle, clear, uproot, plant, live, serve, there_after, serve_all, serve_fill, end_fill_of}
use Rattle.hc_machine.specs.Calls.{begin, wait_in, is_known, store, in_memory, must_wait, add, find_by, remove_reply, remove_by, take_of}
use Rattle.hc_machine.specs.Workers.{can_link, bring, fill, after_take, take_on, reclaim_on, after_finish, finish_on}
use Rattle.hc_machine.specs.Call.{CacheCall, Allocates, Inserts, Adds, Discards, Finds, Removes, Replies, Ticks, Writes, Fills, Reclaims, Finishes, act}

-- a part of a step leaves the configuration
abbrev Stays : Cache → Told → Type 0
Stays cache told = told.cache.config ≡ cache.config

-- and so does a step
abbrev Keeps : Cache → Moved → Type 0
Keeps cache moved = moved.cache.config ≡ cache.config

-- either way
part_if : (t : Bool) (cache : Cache) (x y : Told) → Stays cache x → Stays cache y → Stays cache (if t then x else y)
part_if true cache x y p q = p
part_if false cache x y p q = q

step_if : (t : Bool) (cache : Cache) (x y : Moved) → Keeps cache x → Keeps cache y → Keeps cache (if t then x else y)
step_if true cache x y p q = p
step_if false cache x y p q = q

-- ---- room is made, and a key leaves

flash_stays : (o : Option Nvm) (f : Nvm → Changed) (cache : Cache) → Stays cache (on_flash_of o f cache)
flash_stays None f cache = refl
flash_stays (Some nvm) f cache = refl

left_stays : (o : Option Nvm) (pool want : ℕ) (item : Item) (cache : Cache) → Stays cache (leaves_for o pool want item cache)
left_stays None pool want item cache = refl
left_stays (Some nvm) pool want item cache = refl

leaves_stays : (pool want : ℕ) (item : Item) (cache : Cache) → Stays cache (leaves pool want item cache)
leaves_stays pool want item cache = part_if item.clean cache _ _ refl (left_stays cache.nvm pool want item cache)

all_stay : (pool want : ℕ) (items : List Item) (cache : Cache) → Stays cache (all_leave pool want items cache)
all_stay pool want [] cache = refl
all_stay pool want (item ∷ items) cache = all_stay pool want items (leaves pool want item cache).cache ∙ leaves_stays pool want item cache

charge_stays : (pool : ℕ) (key : List ℕ) (size : ℕ) (cache : Cache) → Stays cache (make_charge pool key size cache)
charge_stays pool key size cache = all_stay pool (charge_of key size) (victims_of cache.memory pool (charge_of key size)) (with_memory (after_room cache.memory pool (charge_of key size)) cache)

clear_stays : (key : List ℕ) (cache : Cache) → Stays cache (clear key cache)
clear_stays key cache =
    let first = (on_flash (unqueue key) cache).cache in
    flash_stays first.nvm (outdate key) first ∙ flash_stays cache.nvm (unqueue key) cache

-- ---- calls that wait are served

serve_stays : (call : ℕ) (wish : Wish) (there : Option FlashEntry) (cache : Cache) → Stays cache (serve call wish there cache)
serve_stays call ToFind there cache = refl
serve_stays call (ToAdd handle) (Some entry) cache = refl
serve_stays call (ToAdd handle) None cache = clear_stays handle.key cache

all_served : (waiters : List Waiter) (there : Option FlashEntry) (cache : Cache) → Stays cache (serve_all waiters there cache)
all_served [] there cache = refl
all_served (waiter ∷ waiters) there cache =
    let has = live cache.now there in
    all_served waiters (there_after waiter.wish has) (serve waiter.call waiter.wish has cache).cache ∙ serve_stays waiter.call waiter.wish has cache

fill_served : (o : Option Fill) (nvm : Nvm) (there : Option FlashEntry) (cache : Cache) → Stays cache (serve_fill o nvm there cache)
fill_served None nvm there cache = refl
fill_served (Some one) nvm there cache = all_served one.waiters there (with_nvm (record nvm { fills = without_fill one.key nvm.fills }) cache)

end_stays : (o : Option Nvm) (key : List ℕ) (there : Option FlashEntry) (cache : Cache) → Stays cache (end_fill_of o key there cache)
end_stays None key there cache = refl
end_stays (Some nvm) key there cache = fill_served (fill_at key nvm.fills) nvm there cache

bring_stays : (entry : Option FlashEntry) (cache : Cache) → Stays cache (bring entry cache)
bring_stays None cache = refl
bring_stays (Some entry) cache = part_if (can_link cache entry) cache _ _ (charge_stays entry.pool entry.key (length entry.value) cache) refl

fill_stays : (filled : Option Filled) (cache : Cache) → Stays cache (fill filled cache)
fill_stays None cache = refl
fill_stays (Some filled) cache = all_served filled.waiters filled.entry (bring filled.entry cache).cache ∙ bring_stays filled.entry cache

-- ---- the calls of clients

wait_stays : (o : Option Nvm) (key : List ℕ) (wish : Wish) (cache : Cache) → (wait_in o key wish cache).config ≡ cache.config
wait_stays None key wish cache = refl
wait_stays (Some nvm) key wish cache = refl

store_stays : (handle : Handle) (cache : Cache) → Stays cache (store handle cache)
store_stays handle cache =
    let planted = (plant handle cache).cache in
    end_stays planted.nvm handle.key (Some (entry_of_handle handle)) planted ∙ clear_stays handle.key cache

allocate_keeps : (o : Option Refusal) (pool : ℕ) (key value : List ℕ) (ttl : ℕ) (cache : Cache) → Keeps cache (allocate_by o pool key value ttl cache)
allocate_keeps (Some refusal) pool key value ttl cache = refl
allocate_keeps None pool key value ttl cache = charge_stays pool key (length value) cache

add_keeps : (client : ℕ) (handle : Handle) (cache : Cache) → Keeps cache (add client handle cache)
add_keeps client handle cache =
    let begun = (begin client (Add handle.key handle.value handle.expiry) cache).cache in
    step_if (must_wait cache handle.key) cache _ _ (wait_stays begun.nvm handle.key (ToAdd handle) begun) (store_stays handle begun)

find_keeps : (key : List ℕ) (cache : Cache) → Keeps cache (find_by key cache)
find_keeps key cache = step_if (must_wait cache key) cache _ _ (wait_stays cache.nvm key ToFind cache) refl

remove_keeps : (reply : Reply) (client : ℕ) (key : List ℕ) (cache : Cache) → Keeps cache (remove_by reply client key cache)
remove_keeps reply client key cache =
    let begun = (begin client (Remove key) cache).cache in
    let uprooted = (uproot key begun).cache in
    end_stays uprooted.nvm key None uprooted ∙ clear_stays key begun

reply_keeps : (o : Option Owed) (cache : Cache) → Keeps cache (take_of o cache)
reply_keeps None cache = refl
reply_keeps (Some owed) cache = taken owed.call owed.reply
  where
    taken : (call : ℕ) (reply : Option Reply) → Keeps cache (take_of (Some (record { call = call; reply = reply })) cache)
    taken call None = refl
    taken call (Some reply) = refl

-- ---- the calls of workers

taken_keeps : (taken : Taken) (cache : Cache) → Keeps cache (after_take taken cache)
taken_keeps taken cache = fill_stays taken.filled (takes_in taken.part taken.nvm cache).cache

take_keeps : (o : Option Nvm) (take : Nvm → Taken) (cache : Cache) → Keeps cache (take_on o take cache)
take_keeps None take cache = refl
take_keeps (Some nvm) take cache = taken_keeps (take nvm) cache

reclaim_keeps : (o : Option Nvm) (cache : Cache) → Keeps cache (reclaim_on o cache)
reclaim_keeps None cache = refl
reclaim_keeps (Some nvm) cache = refl

finished_keeps : (o : Option Taken) (cache : Cache) → Keeps cache (after_finish o cache)
finished_keeps None cache = refl
finished_keeps (Some taken) cache = taken_keeps taken cache

finish_keeps : (o : Option Nvm) (number : ℕ) (result : IoResult) (cache : Cache) → Keeps cache (finish_on o number result cache)
finish_keeps None number result cache = refl
finish_keeps (Some nvm) number result cache = finished_keeps (takes.finish number result nvm) cache

-- ---- each call

pub act_keeps : (call : CacheCall) (cache : Cache) → (act call cache).cache.config ≡ cache.config
act_keeps (Allocates pool key value ttl) cache = allocate_keeps (refusal_of cache.memory pool key (length value)) pool key value ttl cache
act_keeps (Inserts client handle) cache = step_if (is_known cache handle) cache _ _ (store_stays handle (begin client (Insert handle.key handle.value handle.expiry) cache).cache) refl
act_keeps (Adds client handle) cache = step_if (is_some (live cache.now (in_memory cache handle.key))) cache _ _ refl (step_if (is_known cache handle) cache _ _ (add_keeps client handle cache) refl)
act_keeps (Discards handle) cache = step_if (is_known cache handle) cache _ _ refl refl
act_keeps (Finds client key) cache = find_keeps key (begin client (Find key) cache).cache
act_keeps (Removes client key) cache = remove_keeps (remove_reply (linked_at key cache.memory.pools)) client key cache
act_keeps (Replies call) cache = reply_keeps (owed_at call cache.owed) cache
act_keeps (Ticks moment) cache = refl
act_keeps Writes cache = take_keeps cache.nvm takes.writer_take cache
act_keeps Fills cache = take_keeps cache.nvm takes.filler_take cache
act_keeps Reclaims cache = reclaim_keeps cache.nvm cache
act_keeps (Finishes number result) cache = finish_keeps cache.nvm number result cache
