-- A key is inserted or removed, and calls that wait are answered.
use Rattle.std.specs.Prelude.{ℕ, false, List, [], ◌∷◌, Option, Some, None, if◌then◌else◌}
use Rattle.hc_types.specs.FlashEntry.{FlashEntry}
use Rattle.hc_memory.specs.Item.{Item, Handle}
use Rattle.hc_memory.specs.Memory.{linked_at, after_unlink, after_free, after_link}
use Rattle.hc_history.specs.Note.{Note, Reply, Stored, Exists, Hit, Miss, Did, Linked, Freed}
use Rattle.hc_machine.specs.Nvm.{Nvm, Waiter, Wish, ToFind, ToAdd, Fill, fill_at, without_fill}
use Rattle.hc_machine.specs.Leaving.{is_over, unqueue, outdate}
use Rattle.hc_machine.specs.Cache.{Cache, Told, tells, and_then, with_nvm, with_memory, on_flash, owed_with}

-- ---- a key leaves each place where it stood

-- the note that frees an item's charge, where there is an item
abbrev pub freed_note : Option Item → List Note
freed_note None = []
freed_note (Some item) = Freed item.number ∷ []

-- a key is inserted or removed: all of that but what becomes of its item
abbrev pub clear : List ℕ → Cache → Told
clear key cache = and_then (on_flash (unqueue key) cache) (λ cache. and_then (tells (freed_note (linked_at key cache.memory.pools)) cache) (on_flash (outdate key)))

-- its item goes
abbrev pub uproot : List ℕ → Cache → Told
uproot key cache = and_then (clear key cache) (λ cache. tells [] (with_memory (after_unlink cache.memory key) cache))

-- the handle's item is linked in its place
abbrev pub plant : Handle → Cache → Told
plant handle cache = and_then (clear handle.key cache) (λ cache. tells (Linked handle.number ∷ []) (with_memory (after_link cache.memory false handle) cache))

-- an open charge goes
abbrev pub free : ℕ → Cache → Told
free number cache = tells (Freed number ∷ []) (with_memory (after_free cache.memory number) cache)

-- ---- calls that wait are answered, one after the other

abbrev pub entry_of_handle : Handle → FlashEntry
entry_of_handle handle = record { key = handle.key; value = handle.value; pool = handle.pool; expiry = handle.expiry }

-- what a key has, if it isn't expired
abbrev pub live : ℕ → Option FlashEntry → Option FlashEntry
live now None = None
live now (Some entry) = if is_over now entry then None else Some entry

abbrev pub find_reply : Option FlashEntry → Reply
find_reply None = Miss
find_reply (Some entry) = Hit entry.value

-- a call that waited is answered
abbrev pub answer : ℕ → Reply → Cache → Told
answer call reply cache = tells (Did call reply ∷ []) (record cache { owed = owed_with call reply cache.owed })

-- a call that waited is served, where this is what its key has
abbrev pub serve : ℕ → Wish → Option FlashEntry → Cache → Told
serve call ToFind there cache = answer call (find_reply there) cache
serve call (ToAdd handle) (Some entry) cache = and_then (free handle.number cache) (answer call Exists)
serve call (ToAdd handle) None cache = and_then (plant handle cache) (answer call Stored)

-- what the key has after it
abbrev pub there_after : Wish → Option FlashEntry → Option FlashEntry
there_after ToFind there = there
there_after (ToAdd handle) (Some entry) = Some entry
there_after (ToAdd handle) None = Some (entry_of_handle handle)

abbrev pub serve_all : List Waiter → Option FlashEntry → Cache → Told
serve_all [] there cache = tells [] cache
serve_all (waiter ∷ waiters) there cache =
    and_then (serve waiter.call waiter.wish (live cache.now there) cache) (serve_all waiters (there_after waiter.wish (live cache.now there)))

abbrev pub serve_fill : Option Fill → Nvm → Option FlashEntry → Cache → Told
serve_fill None nvm there cache = tells [] cache
serve_fill (Some fill) nvm there cache = serve_all fill.waiters there (with_nvm (record nvm { fills = without_fill fill.key nvm.fills }) cache)

abbrev pub end_fill_of : Option Nvm → List ℕ → Option FlashEntry → Cache → Told
end_fill_of None key there cache = tells [] cache
end_fill_of (Some nvm) key there cache = serve_fill (fill_at key nvm.fills) nvm there cache

-- the key's fill is an orphan, and its calls are answered by what the key has now
abbrev pub end_fill : List ℕ → Option FlashEntry → Cache → Told
end_fill key there cache = end_fill_of cache.nvm key there cache
