-- Calls that wait are answered, and keys cleared, where the items that are to be linked are linked already.
use Rattle.std.specs.Prelude.{ℕ, List, [], ◌∷◌, ◌++◌, Option, Some, None}
use Rattle.hc_types.specs.FlashEntry.{FlashEntry}
use Rattle.hc_memory.specs.Item.{Handle}
use Rattle.hc_history.specs.Note.{Reply, Stored, Exists, Linked}
use Rattle.std.specs.Option.{option_map_or}
use Rattle.hc_machine.specs.Nvm.{Nvm, Waiter, Wish, ToFind, ToAdd, Fill, fill_at, without_fill}
use Rattle.hc_machine.specs.Leaving.{unqueue, outdate}
use Rattle.hc_machine.specs.Cache.{Cache, Told, tells, and_then, on_flash, with_nvm}
use Rattle.hc_machine.specs.Calls.{replies_then}
use Rattle.hc_machine.specs.Waiting.{entry_of_handle, live, find_reply, free, answer, there_after}
use Rattle.hc_state.specs.Tells.{freed_notes}

-- ---- what the calls are answered

-- what a call that waits is answered, where this is what its key has
abbrev pub reply_to : Wish → Option FlashEntry → Reply
reply_to ToFind there = find_reply there
reply_to (ToAdd handle) (Some entry) = Exists
reply_to (ToAdd handle) None = Stored

-- the item that it stores, if it stores one
abbrev pub stored_by : Wish → Option FlashEntry → List Handle
stored_by ToFind there = []
stored_by (ToAdd handle) (Some entry) = []
stored_by (ToAdd handle) None = handle ∷ []

-- the items that calls store, one in place of the other
abbrev pub all_stored : ℕ → List Waiter → Option FlashEntry → List Handle
all_stored now [] there = []
all_stored now (waiter ∷ waiters) there = stored_by waiter.wish (live now there) ++ all_stored now waiters (there_after waiter.wish (live now there))

-- ---- what is told, once the last of them is linked

-- a key is inserted or removed, and the item of this charge goes: all of that but what becomes of the item
abbrev pub clear_by : Option ℕ → List ℕ → Cache → Told
clear_by old key cache = and_then (on_flash (unqueue key) cache) (λ cache. and_then (tells (freed_notes old) cache) (on_flash (outdate key)))

-- a handle's item is in its place already
abbrev pub planted_by : Option ℕ → Handle → Cache → Told
planted_by old handle cache = and_then (clear_by old handle.key cache) (tells (Linked handle.number ∷ []))

-- the charge of the item that the key has after a call is served
abbrev pub stands_after : Wish → Option FlashEntry → Option ℕ → Option ℕ
stands_after ToFind there standing = standing
stands_after (ToAdd handle) (Some entry) standing = standing
stands_after (ToAdd handle) None standing = Some handle.number

abbrev pub served_by : ℕ → Wish → Option FlashEntry → Option ℕ → Cache → Told
served_by call ToFind there standing cache = answer call (find_reply there) cache
served_by call (ToAdd handle) (Some entry) standing cache = and_then (free handle.number cache) (answer call Exists)
served_by call (ToAdd handle) None standing cache = and_then (planted_by standing handle cache) (answer call Stored)

abbrev pub all_served : List Waiter → Option FlashEntry → Option ℕ → Cache → Told
all_served [] there standing cache = tells [] cache
all_served (waiter ∷ waiters) there standing cache =
    and_then (served_by waiter.call waiter.wish (live cache.now there) standing cache)
    (all_served waiters (there_after waiter.wish (live cache.now there)) (stands_after waiter.wish (live cache.now there) standing))

-- ---- the fill of a key ends

-- the calls that wait for a key
abbrev pub waiters_at : Option Nvm → List ℕ → List Waiter
waiters_at None key = []
waiters_at (Some nvm) key = option_map_or (λ (fill : Fill). fill.waiters) (fill_at key nvm.fills) []

-- what is left of flash once they don't wait any more
abbrev pub without_calls : Option Nvm → List ℕ → Cache → Cache
without_calls None key cache = cache
without_calls (Some nvm) key cache = with_nvm (record nvm { fills = without_fill key nvm.fills }) cache

-- they are answered by what the key has now
abbrev pub ended_by : List ℕ → Option FlashEntry → Option ℕ → Cache → Told
ended_by key there standing cache = all_served (waiters_at cache.nvm key) there standing (without_calls cache.nvm key cache)

-- ---- inserts and removes

-- the items that come to be stored in an insert of this handle, one in place of the other
abbrev pub stored_with : Handle → Cache → List Handle
stored_with handle cache = handle ∷ all_stored cache.now (waiters_at cache.nvm handle.key) (Some (entry_of_handle handle))

-- those of a remove
abbrev pub stored_without : List ℕ → Cache → List Handle
stored_without key cache = all_stored cache.now (waiters_at cache.nvm key) None

-- the handle's item is inserted, in place of that with this charge
abbrev pub store_by : Option ℕ → Handle → Cache → Told
store_by standing handle cache = and_then (planted_by standing handle cache) (replies_then Stored (ended_by handle.key (Some (entry_of_handle handle)) (Some handle.number)))

-- the item with this charge is removed
abbrev pub unstore_by : Option ℕ → Reply → List ℕ → Cache → Told
unstore_by standing reply key cache = and_then (clear_by standing key cache) (replies_then reply (ended_by key None None))
