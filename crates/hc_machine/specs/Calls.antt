-- The calls of clients.
use Rattle.std.specs.Prelude.{ℕ, ◌+◌, max, nat_lt, Bool, false, not, ◌&&◌, List, [], ◌∷◌, ◌++◌, Option, Some, None, is_some, if◌then◌else◌}
use Rattle.std.specs.Option.{option_map_or}
use Rattle.hc_types.specs.declared.refusal.Refusal.TheVariants.{ForeignHandle, Exists as AlreadyExists, UnknownCall, NotReady}
use Rattle.hc_types.specs.FlashEntry.{FlashEntry}
use Rattle.hc_memory.specs.Item.{Item, Handle, charge_by}
use Rattle.hc_memory.specs.Charges.{is_open}
use Rattle.hc_memory.specs.Memory.{linked_at, after_find}
use Rattle.hc_history.specs.Note.{Note, Op, Insert, Add, Find, Remove, Reply, Stored, FoundInMemory, NotInMemory, Begin, Did, End, Now}
use Rattle.hc_machine.specs.Nvm.{Nvm, Wish, ToFind, ToAdd, put_at, is_buried, joined_by, may_come, is_kept}
use Rattle.hc_machine.specs.Cache.{Owed, Cache, Moved, Refused, Discarded, Replied, Waits, Moment, Told, tells, behind, and_then, answers, stays, with_memory, owed_at, owed_anew, owed_less}
use Rattle.hc_machine.specs.Evicting.{entry_of_item}
use Rattle.hc_machine.specs.Waiting.{uproot, plant, entry_of_handle, live, find_reply, free, end_fill}

-- a call begins
abbrev pub begin : ℕ → Op → Cache → Told
begin client op cache = tells (Begin (cache.calls + 1) client op ∷ []) (record cache { calls = cache.calls + 1 })

-- the newest call is answered, what this does is done, and the reply is handed out
abbrev pub replies_then : Reply → (Cache → Told) → Cache → Told
replies_then reply f cache = behind (Did cache.calls reply ∷ []) (and_then (f cache) (tells (End cache.calls ∷ [])))

-- the newest call waits for its key
abbrev pub wait_in : Option Nvm → List ℕ → Wish → Cache → Cache
wait_in None key wish cache = cache
wait_in (Some nvm) key wish cache =
    record cache { owed = owed_anew cache.calls cache.owed; nvm = Some (record nvm { fills = joined_by key (record { call = cache.calls; wish = wish }) nvm.fills }) }

abbrev pub wait_for : List ℕ → Wish → Cache → Told
wait_for key wish cache = tells [] (wait_in cache.nvm key wish cache)

-- ---- handles

-- an add that waits keeps this charge
abbrev pub is_kept_in : Option Nvm → ℕ → Bool
is_kept_in None number = false
is_kept_in (Some nvm) number = is_kept nvm number

-- the cache knows the handle
abbrev pub is_known : Cache → Handle → Bool
is_known cache handle = is_open (charge_by handle) cache.memory.charges && not (is_kept_in cache.nvm handle.number)

abbrev pub discard : Handle → Cache → Moved
discard handle cache = if is_known cache handle then answers Discarded (free handle.number cache) else stays (Refused ForeignHandle) cache

-- ---- inserts

abbrev pub store : Handle → Cache → Told
store handle cache = and_then (plant handle cache) (replies_then Stored (end_fill handle.key (Some (entry_of_handle handle))))

abbrev pub insert_or_replace : ℕ → Handle → Cache → Moved
insert_or_replace client handle cache =
    if is_known cache handle
    then answers (Replied Stored) (and_then (begin client (Insert handle.key handle.value handle.expiry) cache) (store handle))
    else stays (Refused ForeignHandle) cache

-- what stands under a key in memory: its item, or else its waiting put
abbrev pub waiting_at : Option Nvm → List ℕ → Option FlashEntry
waiting_at None key = None
waiting_at (Some nvm) key = put_at key nvm.queue

-- all puts that wait, the oldest first
abbrev pub queue_of : Option Nvm → List FlashEntry
queue_of None = []
queue_of (Some nvm) = nvm.queue

-- the key has a tombstone
abbrev pub buried_at : Option Nvm → List ℕ → Bool
buried_at None key = false
buried_at (Some nvm) key = is_buried nvm key

abbrev pub in_memory : Cache → List ℕ → Option FlashEntry
in_memory cache key = option_map_or (λ item. Some (entry_of_item item)) (linked_at key cache.memory.pools) (waiting_at cache.nvm key)

-- nothing in memory tells what the key has, and flash may
abbrev pub must_wait_in : Option Nvm → List ℕ → Bool
must_wait_in None key = false
must_wait_in (Some nvm) key = not (is_buried nvm key) && may_come nvm key

abbrev pub must_wait : Cache → List ℕ → Bool
must_wait cache key = not (is_some (in_memory cache key)) && must_wait_in cache.nvm key

abbrev pub add : ℕ → Handle → Cache → Moved
add client handle cache =
    if must_wait cache handle.key
    then answers (Waits (cache.calls + 1)) (and_then (begin client (Add handle.key handle.value handle.expiry) cache) (wait_for handle.key (ToAdd handle)))
    else answers (Replied Stored) (and_then (begin client (Add handle.key handle.value handle.expiry) cache) (store handle))

-- an item is inserted where its key has no unexpired value
abbrev pub insert : ℕ → Handle → Cache → Moved
insert client handle cache =
    if is_some (live cache.now (in_memory cache handle.key)) then stays (Refused AlreadyExists) cache
    else (if is_known cache handle then add client handle cache else stays (Refused ForeignHandle) cache)

-- ---- finds

-- an item that is found is the one that was used last
abbrev pub used : List ℕ → Cache → Cache
used key cache = with_memory (after_find cache.memory cache.now key) cache

abbrev pub find_now : Reply → Cache → Moved
find_now reply cache = answers (Replied reply) (replies_then reply (tells []) cache)

abbrev pub find_by : List ℕ → Cache → Moved
find_by key cache =
    if must_wait cache key then answers (Waits cache.calls) (wait_for key ToFind cache)
    else find_now (find_reply (live cache.now (in_memory cache key))) (used key cache)

abbrev pub after_begin : (Cache → Moved) → Told → Moved
after_begin f told = told_before told.part (f told.cache)
  where
    told_before : List Note → Moved → Moved
    told_before part moved = record moved { part = part ++ moved.part }

abbrev pub find : ℕ → List ℕ → Cache → Moved
find client key cache = after_begin (find_by key) (begin client (Find key) cache)

-- ---- removes

abbrev pub remove_reply : Option Item → Reply
remove_reply None = NotInMemory
remove_reply (Some item) = FoundInMemory

abbrev pub remove_by : Reply → ℕ → List ℕ → Cache → Moved
remove_by reply client key cache =
    answers (Replied reply) (and_then (begin client (Remove key) cache) (λ cache. and_then (uproot key cache) (replies_then reply (end_fill key None))))

abbrev pub remove : ℕ → List ℕ → Cache → Moved
remove client key cache = remove_by (remove_reply (linked_at key cache.memory.pools)) client key cache

-- ---- replies and the clock

abbrev pub take_of : Option Owed → Cache → Moved
take_of None cache = stays (Refused UnknownCall) cache
take_of (Some owed) cache = take_it owed.call owed.reply cache
  where
    take_it : ℕ → Option Reply → Cache → Moved
    take_it call None cache = stays (Refused NotReady) cache
    take_it call (Some reply) cache = answers (Replied reply) (tells (End call ∷ []) (record cache { owed = owed_less call cache.owed }))

-- the reply of a call that waited
abbrev pub take_reply : ℕ → Cache → Moved
take_reply call cache = take_of (owed_at call cache.owed) cache

abbrev pub tick : ℕ → Cache → Moved
tick moment cache =
    answers (Moment (max cache.now moment)) (tells (if nat_lt cache.now moment then Now moment ∷ [] else []) (record cache { now = max cache.now moment }))
