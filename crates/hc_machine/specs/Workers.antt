-- The calls of workers.
use Rattle.std.specs.Prelude.{ℕ, Bool, true, not, ◌&&◌, [], ◌∷◌, length, Option, Some, None, is_some, if◌then◌else◌}
use Rattle.hc_types.specs.declared.refusal.Refusal.TheVariants.{UnknownJob}
use Rattle.hc_types.specs.FlashEntry.{FlashEntry}
use Rattle.hc_engines.specs.Engine.{IoResult}
use Rattle.hc_memory.specs.Item.{Handle}
use Rattle.hc_memory.specs.Memory.{after_link}
use Rattle.hc_machine.specs.items.Allocating.{refusal_of}
use Rattle.hc_history.specs.Note.{Linked}
use Rattle.hc_machine.specs.Nvm.{Nvm}
use Rattle.hc_machine.specs.Takes as flash
use Rattle.hc_machine.specs.Takes.{Idle, Filled, Taken, Reclaiming}
use Rattle.hc_machine.specs.Cache.{Cache, Moved, Refused, Took, Reclaimed, Told, tells, and_then, answers, stays, with_memory, takes_in, took_in}
use Rattle.hc_machine.specs.Evicting.{make_charge, handle_for}
use Rattle.hc_machine.specs.Waiting.{live, serve_all}

-- ---- a fill ends

-- the entry can be linked: it isn't expired, and its pool exists and can make room
abbrev pub can_link : Cache → FlashEntry → Bool
can_link cache entry = is_some (live cache.now (Some entry)) && not (is_some (refusal_of cache.memory entry.pool entry.key (length entry.value)))

abbrev pub link_clean : Handle → Cache → Told
link_clean handle cache = tells (Linked handle.number ∷ []) (with_memory (after_link cache.memory true handle) cache)

-- what was found is linked, where it can be
abbrev pub bring : Option FlashEntry → Cache → Told
bring None cache = tells [] cache
bring (Some entry) cache =
    if can_link cache entry
    then and_then (make_charge entry.pool entry.key (length entry.value) cache) (link_clean (handle_for cache entry.pool entry.key entry.value entry.expiry))
    else tells [] cache

abbrev pub fill : Option Filled → Cache → Told
fill None cache = tells [] cache
fill (Some filled) cache = and_then (bring filled.entry cache) (serve_all filled.waiters filled.entry)

-- ---- the calls

abbrev pub after_take : Taken → Cache → Moved
after_take taken cache = answers (Took taken.take) (and_then (takes_in taken.part taken.nvm cache) (fill taken.filled))

abbrev pub take_on : Option Nvm → (Nvm → Taken) → Cache → Moved
take_on None take cache = stays (Took Idle) cache
take_on (Some nvm) take cache = after_take (take nvm) cache

abbrev pub writer_take : Cache → Moved
writer_take cache = take_on cache.nvm flash.writer_take cache

abbrev pub filler_take : Cache → Moved
filler_take cache = take_on cache.nvm flash.filler_take cache

abbrev pub after_reclaim : Reclaiming → Cache → Moved
after_reclaim reclaiming cache = answers (Reclaimed reclaiming.region) (took_in reclaiming.change cache)

abbrev pub reclaim_on : Option Nvm → Cache → Moved
reclaim_on None cache = stays (Reclaimed None) cache
reclaim_on (Some nvm) cache = after_reclaim (flash.reclaim nvm) cache

abbrev pub reclaim : Cache → Moved
reclaim cache = reclaim_on cache.nvm cache

abbrev pub after_finish : Option Taken → Cache → Moved
after_finish None cache = stays (Refused UnknownJob) cache
after_finish (Some taken) cache = after_take taken cache

abbrev pub finish_on : Option Nvm → ℕ → IoResult → Cache → Moved
finish_on None number result cache = stays (Refused UnknownJob) cache
finish_on (Some nvm) number result cache = after_finish (flash.finish number result nvm) cache

-- a result is handed in
abbrev pub finish : ℕ → IoResult → Cache → Moved
finish number result cache = finish_on cache.nvm number result cache
