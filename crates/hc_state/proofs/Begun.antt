-- Whatever the cache does, each reply stays owed to a call that was begun.
use Rattle.std.proofs.Common.{◌≡◌, ℕ, ◌+◌, Bool, true, false, List, [], ◌∷◌, length, Option, Some, None, if◌then◌else◌, refl, sym, ◌∙◌, subst, arith}
use Rattle.std.specs.Prelude.{is_some}
use Rattle.hc_types.specs.Charge.{charge_of}
use Rattle.hc_types.specs.declared.refusal.Refusal.{Refusal}
use Rattle.hc_types.specs.FlashEntry.{FlashEntry}
use Rattle.hc_engines.specs.Engine.{IoResult}
use Rattle.hc_memory.specs.Item.{Item, Handle}
use Rattle.hc_memory.specs.Memory.{linked_at, victims_of, after_room, after_unlink, after_link}
use Rattle.hc_history.specs.Note.{Insert, Add, Reply, Stored, Exists, Linked}
use Rattle.hc_machine.specs.items.Allocating.{refusal_of}
use Rattle.hc_machine.specs.Nvm.{Nvm, Waiter, Wish, ToFind, ToAdd, Fill, fill_at, without_fill}
use Rattle.hc_machine.specs.Leaving.{Changed, unqueue, outdate}
use Rattle.hc_machine.specs.Takes as takes
use Rattle.hc_machine.specs.Takes.{Taken, Filled}
use Rattle.hc_types.specs.declared.refusal.Refusal.TheVariants.{ForeignHandle, Exists as AlreadyExists}
use Rattle.hc_machine.specs.Cache.{Owed, Cache, Moved, Refused, Discarded, Replied, Waits, answers, stays, Told, tells, and_then, on_flash_of, on_flash, with_memory, with_nvm, owed_at, takes_in, took_in}
use Rattle.hc_machine.specs.Evicting.{leaves_for, leaves, all_leave, make_room, charge, make_charge, handle_for, allocate_by, allocate}
use Rattle.hc_machine.specs.Waiting.{freed_note, clear, uproot, plant, free, live, find_reply, answer, serve, there_after, serve_all, serve_fill, end_fill_of, end_fill, entry_of_handle}
use Rattle.hc_machine.specs.Calls.{begin, replies_then, wait_in, wait_for, is_known, discard, store, insert_or_replace, in_memory, must_wait, add, insert, used, find_now, find, remove, take_of, take_reply, tick}
use Rattle.hc_machine.specs.Workers.{can_link, link_clean, bring, fill, after_take, take_on, writer_take, filler_take, reclaim_on, reclaim, after_finish, finish_on, finish}
use Rattle.hc_waiting.specs.Replies.{AreBefore}
use Rattle.hc_state.specs.wait.Begin.{OwesBegun}
use Rattle.hc_state.proofs.wait.Owed.{before-more, before-with, before-less, before-anew}

-- a part of a step brings no new call, and owes nobody more
record Keeps (cache : Cache) (told : Told) : Type 0 where
  owed : (n : ℕ) → AreBefore n cache.owed → AreBefore n told.cache.owed
  calls : told.cache.calls ≡ cache.calls

same : (cache : Cache) (told : Told) → told.cache.owed ≡ cache.owed → told.cache.calls ≡ cache.calls → Keeps cache told
same cache told e c = record { owed = λ n h. subst (AreBefore n) (sym e) h; calls = c }

both : (cache : Cache) (first : Told) (f : Cache → Told) → Keeps cache first → ((c : Cache) → Keeps c (f c)) → Keeps cache (and_then first f)
both cache first f p q = let r = q first.cache in record { owed = λ n h. r.owed n (p.owed n h); calls = r.calls ∙ p.calls }

flash_keeps : (f : Nvm → Changed) (cache : Cache) → Keeps cache (on_flash f cache)
flash_keeps f cache = go cache.nvm
  where
    go : (nvm : Option Nvm) → Keeps cache (on_flash_of nvm f cache)
    go None = same cache (tells [] cache) refl refl
    go (Some nvm) = same cache (took_in (f nvm) cache) refl refl

clear_keeps : (key : List ℕ) (cache : Cache) → Keeps cache (clear key cache)
clear_keeps key cache =
    both cache (on_flash (unqueue key) cache) (λ (c : Cache). and_then (tells (freed_note (linked_at key c.memory.pools)) c) (on_flash (outdate key))) (flash_keeps (unqueue key) cache)
    (λ (c : Cache). both c (tells (freed_note (linked_at key c.memory.pools)) c) (on_flash (outdate key)) (same c (tells (freed_note (linked_at key c.memory.pools)) c) refl refl) (flash_keeps (outdate key)))

uproot_keeps : (key : List ℕ) (cache : Cache) → Keeps cache (uproot key cache)
uproot_keeps key cache =
    both cache (clear key cache) (λ (c : Cache). tells [] (with_memory (after_unlink c.memory key) c)) (clear_keeps key cache) (λ (c : Cache). same c (tells [] (with_memory (after_unlink c.memory key) c)) refl refl)

plant_keeps : (handle : Handle) (cache : Cache) → Keeps cache (plant handle cache)
plant_keeps handle cache =
    both cache (clear handle.key cache) (λ (c : Cache). tells (Linked handle.number ∷ []) (with_memory (after_link c.memory false handle) c)) (clear_keeps handle.key cache)
    (λ (c : Cache). same c (tells (Linked handle.number ∷ []) (with_memory (after_link c.memory false handle) c)) refl refl)

free_keeps : (number : ℕ) (cache : Cache) → Keeps cache (free number cache)
free_keeps number cache = same cache (free number cache) refl refl

answer_keeps : (call : ℕ) (reply : Reply) (cache : Cache) → Keeps cache (answer call reply cache)
answer_keeps call reply cache = record { owed = λ n h. before-with n call reply cache.owed h; calls = refl }

-- ---- calls that wait are served

serve_keeps : (call : ℕ) (wish : Wish) (there : Option FlashEntry) (cache : Cache) → Keeps cache (serve call wish there cache)
serve_keeps call ToFind there cache = answer_keeps call (find_reply there) cache
serve_keeps call (ToAdd handle) (Some entry) cache = both cache (free handle.number cache) (answer call Exists) (free_keeps handle.number cache) (answer_keeps call Exists)
serve_keeps call (ToAdd handle) None cache = both cache (plant handle cache) (answer call Stored) (plant_keeps handle cache) (answer_keeps call Stored)

serve_all_keeps : (waiters : List Waiter) (there : Option FlashEntry) (cache : Cache) → Keeps cache (serve_all waiters there cache)
serve_all_keeps [] there cache = same cache (tells [] cache) refl refl
serve_all_keeps (waiter ∷ waiters) there cache =
    both cache (serve waiter.call waiter.wish (live cache.now there) cache) (serve_all waiters (there_after waiter.wish (live cache.now there)))
    (serve_keeps waiter.call waiter.wish (live cache.now there) cache) (serve_all_keeps waiters (there_after waiter.wish (live cache.now there)))

end_fill_keeps : (key : List ℕ) (there : Option FlashEntry) (cache : Cache) → Keeps cache (end_fill key there cache)
end_fill_keeps key there cache = go cache.nvm
  where
    by : (found : Option Fill) (nvm : Nvm) → Keeps cache (serve_fill found nvm there cache)
    by None nvm = same cache (tells [] cache) refl refl
    by (Some fill) nvm =
        let k = serve_all_keeps fill.waiters there (with_nvm (record nvm { fills = without_fill fill.key nvm.fills }) cache) in
        record { owed = k.owed; calls = k.calls }

    go : (nvm : Option Nvm) → Keeps cache (end_fill_of nvm key there cache)
    go None = same cache (tells [] cache) refl refl
    go (Some nvm) = by (fill_at key nvm.fills) nvm

-- ---- room is made

leaves_keeps : (pool want : ℕ) (item : Item) (cache : Cache) → Keeps cache (leaves pool want item cache)
leaves_keeps pool want item cache = go item.clean cache.nvm
  where
    go : (clean : Bool) (nvm : Option Nvm) → Keeps cache (if clean then tells [] cache else leaves_for nvm pool want item cache)
    go true nvm = same cache (tells [] cache) refl refl
    go false None = same cache (leaves_for None pool want item cache) refl refl
    go false (Some nvm) = same cache (leaves_for (Some nvm) pool want item cache) refl refl

all_leave_keeps : (pool want : ℕ) (items : List Item) (cache : Cache) → Keeps cache (all_leave pool want items cache)
all_leave_keeps pool want [] cache = same cache (tells [] cache) refl refl
all_leave_keeps pool want (item ∷ items) cache =
    let rest = both cache (leaves pool want item cache) (all_leave pool want items) (leaves_keeps pool want item cache) (all_leave_keeps pool want items) in
    record { owed = rest.owed; calls = rest.calls }

make_charge_keeps : (pool : ℕ) (key : List ℕ) (size : ℕ) (cache : Cache) → Keeps cache (make_charge pool key size cache)
make_charge_keeps pool key size cache =
    let want : ℕ = charge_of key size in
    let room = all_leave_keeps pool want (victims_of cache.memory pool want) (with_memory (after_room cache.memory pool want) cache) in
    both cache (make_room pool want cache) (charge pool key size) (record { owed = room.owed; calls = room.calls }) (λ (c : Cache). same c (charge pool key size c) refl refl)

-- ---- a fill is over

bring_keeps : (there : Option FlashEntry) (cache : Cache) → Keeps cache (bring there cache)
bring_keeps None cache = same cache (tells [] cache) refl refl
bring_keeps (Some entry) cache = go (can_link cache entry)
  where
    go : (b : Bool) → Keeps cache (if b then and_then (make_charge entry.pool entry.key (length entry.value) cache) (link_clean (handle_for cache entry.pool entry.key entry.value entry.expiry)) else tells [] cache)
    go true =
        both cache (make_charge entry.pool entry.key (length entry.value) cache) (link_clean (handle_for cache entry.pool entry.key entry.value entry.expiry)) (make_charge_keeps entry.pool entry.key (length entry.value) cache)
        (λ (c : Cache). same c (link_clean (handle_for cache entry.pool entry.key entry.value entry.expiry) c) refl refl)
    go false = same cache (tells [] cache) refl refl

fill_keeps : (filled : Option Filled) (cache : Cache) → Keeps cache (fill filled cache)
fill_keeps None cache = same cache (tells [] cache) refl refl
fill_keeps (Some filled) cache = both cache (bring filled.entry cache) (serve_all filled.waiters filled.entry) (bring_keeps filled.entry cache) (serve_all_keeps filled.waiters filled.entry)

-- ---- the calls

abbrev Begun : Moved → Type 0
Begun moved = OwesBegun moved.cache

kept : (cache : Cache) (told : Told) → Keeps cache told → OwesBegun cache → OwesBegun told.cache
kept cache told k h = subst (λ (n : ℕ). AreBefore (n + 1) told.cache.owed) (sym k.calls) (k.owed (cache.calls + 1) h)

-- one call more was begun
one_more : (cache : Cache) → OwesBegun cache → OwesBegun (record cache { calls = cache.calls + 1 })
one_more cache h = before-more (cache.calls + 1) (cache.calls + 1 + 1) cache.owed (omega arith) h

pub tick-begun : (moment : ℕ) (cache : Cache) → OwesBegun cache → Begun (tick moment cache)
tick-begun moment cache h = h

pub discard-begun : (handle : Handle) (cache : Cache) → OwesBegun cache → Begun (discard handle cache)
discard-begun handle cache h = go (is_known cache handle)
  where
    go : (b : Bool) → Begun (if b then answers Discarded (free handle.number cache) else stays (Refused ForeignHandle) cache)
    go true = h
    go false = h

pub allocate-begun : (pool : ℕ) (key value : List ℕ) (ttl : ℕ) (cache : Cache) → OwesBegun cache → Begun (allocate pool key value ttl cache)
allocate-begun pool key value ttl cache h = go (refusal_of cache.memory pool key (length value))
  where
    go : (refusal : Option Refusal) → Begun (allocate_by refusal pool key value ttl cache)
    go (Some refusal) = h
    go None = kept cache (make_charge pool key (length value) cache) (make_charge_keeps pool key (length value) cache) h

store_keeps : (handle : Handle) (cache : Cache) → Keeps cache (store handle cache)
store_keeps handle cache =
    both cache (plant handle cache) (replies_then Stored (end_fill handle.key (Some (entry_of_handle handle)))) (plant_keeps handle cache)
    (λ (c : Cache). let k = end_fill_keeps handle.key (Some (entry_of_handle handle)) c in record { owed = k.owed; calls = k.calls })

stored : (handle : Handle) (cache : Cache) → OwesBegun cache → OwesBegun (store handle (record cache { calls = cache.calls + 1 })).cache
stored handle cache h =
    let c : Cache = record cache { calls = cache.calls + 1 } in
    kept c (store handle c) (store_keeps handle c) (one_more cache h)

waited : (key : List ℕ) (wish : Wish) (cache : Cache) → OwesBegun cache → OwesBegun (wait_in cache.nvm key wish (record cache { calls = cache.calls + 1 }))
waited key wish cache h = go cache.nvm
  where
    go : (nvm : Option Nvm) → OwesBegun (wait_in nvm key wish (record cache { calls = cache.calls + 1 }))
    go None = one_more cache h
    go (Some nvm) = before-anew (cache.calls + 1 + 1) (cache.calls + 1) cache.owed (omega arith) (one_more cache h)

pub insert-or-replace-begun : (client : ℕ) (handle : Handle) (cache : Cache) → OwesBegun cache → Begun (insert_or_replace client handle cache)
insert-or-replace-begun client handle cache h = go (is_known cache handle)
  where
    go : (b : Bool) → Begun (if b then answers (Replied Stored) (and_then (begin client (Insert handle.key handle.value handle.expiry) cache) (store handle)) else stays (Refused ForeignHandle) cache)
    go true = stored handle cache h
    go false = h

add_begun : (client : ℕ) (handle : Handle) (cache : Cache) → OwesBegun cache → Begun (add client handle cache)
add_begun client handle cache h = go (must_wait cache handle.key)
  where
    go : (b : Bool) → Begun (if b then answers (Waits (cache.calls + 1)) (and_then (begin client (Add handle.key handle.value handle.expiry) cache) (wait_for handle.key (ToAdd handle))) else answers (Replied Stored) (and_then (begin client (Add handle.key handle.value handle.expiry) cache) (store handle)))
    go true = waited handle.key (ToAdd handle) cache h
    go false = stored handle cache h

pub insert-begun : (client : ℕ) (handle : Handle) (cache : Cache) → OwesBegun cache → Begun (insert client handle cache)
insert-begun client handle cache h = go (is_some (live cache.now (in_memory cache handle.key))) (is_known cache handle)
  where
    go : (a b : Bool) → Begun (if a then stays (Refused AlreadyExists) cache else (if b then add client handle cache else stays (Refused ForeignHandle) cache))
    go true b = h
    go false true = add_begun client handle cache h
    go false false = h

pub find-begun : (client : ℕ) (key : List ℕ) (cache : Cache) → OwesBegun cache → Begun (find client key cache)
find-begun client key cache h = go (must_wait (record cache { calls = cache.calls + 1 }) key)
  where
    go : (b : Bool) → Begun (if b then answers (Waits (cache.calls + 1)) (wait_for key ToFind (record cache { calls = cache.calls + 1 })) else find_now (find_reply (live cache.now (in_memory (record cache { calls = cache.calls + 1 }) key))) (used key (record cache { calls = cache.calls + 1 })))
    go true = waited key ToFind cache h
    go false = one_more cache h

pub remove-begun : (client : ℕ) (key : List ℕ) (cache : Cache) → OwesBegun cache → Begun (remove client key cache)
remove-begun client key cache h =
    let c : Cache = record cache { calls = cache.calls + 1 } in
    let u : Cache = (uproot key c).cache in
    kept u (end_fill key None u) (end_fill_keeps key None u) (kept c (uproot key c) (uproot_keeps key c) (one_more cache h))

pub reply-begun : (call : ℕ) (cache : Cache) → OwesBegun cache → Begun (take_reply call cache)
reply-begun call cache h = go (owed_at call cache.owed)
  where
    by : (owed : Owed) (reply : Option Reply) → owed.reply ≡ reply → Begun (take_of (Some (record { call = owed.call; reply = reply })) cache)
    by owed None e = h
    by owed (Some reply) e = before-less (cache.calls + 1) owed.call cache.owed h

    go : (found : Option Owed) → Begun (take_of found cache)
    go None = h
    go (Some owed) = by owed owed.reply refl

after_take_begun : (taken : Taken) (cache : Cache) → OwesBegun cache → Begun (after_take taken cache)
after_take_begun taken cache h =
    let c : Cache = (takes_in taken.part taken.nvm cache).cache in
    kept c (fill taken.filled c) (fill_keeps taken.filled c) h

take_on_begun : (take : Nvm → Taken) (cache : Cache) → OwesBegun cache → Begun (take_on cache.nvm take cache)
take_on_begun take cache h = go cache.nvm
  where
    go : (nvm : Option Nvm) → Begun (take_on nvm take cache)
    go None = h
    go (Some nvm) = after_take_begun (take nvm) cache h

pub writer-begun : (cache : Cache) → OwesBegun cache → Begun (writer_take cache)
writer-begun cache h = take_on_begun takes.writer_take cache h

pub filler-begun : (cache : Cache) → OwesBegun cache → Begun (filler_take cache)
filler-begun cache h = take_on_begun takes.filler_take cache h

pub reclaim-begun : (cache : Cache) → OwesBegun cache → Begun (reclaim cache)
reclaim-begun cache h = go cache.nvm
  where
    go : (nvm : Option Nvm) → Begun (reclaim_on nvm cache)
    go None = h
    go (Some nvm) = h

pub finish-begun : (number : ℕ) (result : IoResult) (cache : Cache) → OwesBegun cache → Begun (finish number result cache)
finish-begun number result cache h = go cache.nvm
  where
    by : (taken : Option Taken) → Begun (after_finish taken cache)
    by None = h
    by (Some taken) = after_take_begun taken cache h

    go : (nvm : Option Nvm) → Begun (finish_on nvm number result cache)
    go None = h
    go (Some nvm) = by (takes.finish number result nvm)
