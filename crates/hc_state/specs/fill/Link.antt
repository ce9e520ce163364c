-- A fill ends: what it brings is linked, where it can be, before flash tells anything.
use Rattle.std.specs.Prelude.{ℕ, Bool, true, false, ◌||◌, List, [], ◌∷◌, map, length, Option, Some, None, if◌then◌else◌}
use Rattle.hc_types.specs.Loss.{covers}
use Rattle.hc_types.specs.FlashEntry.{FlashEntry}
use Rattle.hc_types.specs.declared.config.FlashConfig.{FlashConfig}
use Rattle.hc_engines.specs.Engine.{Loss}
use Rattle.hc_memory.specs.Item.{Item}
use Rattle.hc_memory.specs.Memory.{Memory, handle_for, after_charge, after_link}
use Rattle.hc_history.specs.Note.{Charged, Linked}
use Rattle.hc_machine.specs.Cache.{Cache, Told, tells, and_then}
use Rattle.hc_machine.specs.Evicting.{all_leave}
use Rattle.hc_machine.specs.Workers.{can_link}

-- what was found can be linked
abbrev pub can_bring : Cache → Option FlashEntry → Bool
can_bring cache None = false
can_bring cache (Some entry) = can_link cache entry

-- ---- an entry is linked, clean

-- the memory once room was made for it, and it is linked
abbrev pub brought_in : FlashEntry → Memory → Memory
brought_in entry memory =
    after_link (after_charge memory entry.pool entry.key (length entry.value)) true (handle_for memory entry.pool entry.key entry.value entry.expiry)

-- what is told of it: these items leave, and it is charged and linked
abbrev pub brought_by : ℕ → ℕ → List ℕ → ℕ → List Item → Cache → Told
brought_by number pool key want victims cache =
    and_then (and_then (all_leave pool want victims cache) (tells (Charged number key pool want ∷ []))) (tells (Linked number ∷ []))

-- ---- what is lost with it

-- one of the losses covers a key with a value of this length
abbrev pub is_lost : Option FlashConfig → List Loss → List ℕ → ℕ → Bool
is_lost flash [] key size = false
is_lost flash (loss ∷ losses) key size = covers flash loss.scope key size || is_lost flash losses key size

-- an item without its clean mark, where a loss covers it
abbrev pub marked_by : Option FlashConfig → List Loss → Item → Item
marked_by flash losses item = if is_lost flash losses item.key (length item.value) then record item { clean = false } else item

abbrev pub all_marked_by : Option FlashConfig → List Loss → List Item → List Item
all_marked_by flash losses items = map (marked_by flash losses) items
