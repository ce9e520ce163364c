-- One pool: its items in the order of their use, and who goes where room is made.
use Rattle.std.specs.Prelude.{ℕ, ◌+◌, ◌==◌, nat_lt, Bool, false, not, ◌&&◌, ◌||◌, List, [], ◌∷◌, ◌++◌, map, length, Option, Some, None, option_map, if◌then◌else◌}
use Rattle.std.specs.Str.{bytes_eq}
use Rattle.hc_types.specs.Tally.{tally}
use Rattle.hc_types.specs.Loss.{Scope, covers}
use Rattle.hc_types.specs.declared.config.PoolSize.{PoolSize}
use Rattle.hc_types.specs.declared.config.FlashConfig.{FlashConfig}
use Rattle.hc_memory.specs.declared.usage.Usage.{Usage}
use Rattle.hc_memory.specs.Item.{Item, cost}

-- its size, and its items that can be found, the one that was used longest ago first
pub record Pool : Type 0 where
  pub size : PoolSize
  pub items : List Item

abbrev pub is_at : List ℕ → Item → Bool
is_at key item = bytes_eq key item.key

-- what the items are charged, in bytes
abbrev pub bytes_of : List Item → ℕ
bytes_of items = tally cost items

-- what they are charged, and how many they are
abbrev pub linked_usage : List Item → Usage
linked_usage items = record { bytes = bytes_of items; number = length items }

-- the item under a key
abbrev pub item_at : List ℕ → List Item → Option Item
item_at key [] = None
item_at key (item ∷ items) = if is_at key item then Some item else item_at key items

-- the items without the one under a key
abbrev pub without : List ℕ → List Item → List Item
without key [] = []
without key (item ∷ items) = if is_at key item then items else item ∷ without key items

-- an item that is used is the last
abbrev pub used : List ℕ → Option Item → List Item → List Item
used key None items = items
used key (Some item) items = without key items ++ item ∷ []

-- ---- room

-- there is no room for so many bytes, or for one more charge, beside these items and the open charges
abbrev pub is_full : PoolSize → Usage → ℕ → List Item → Bool
is_full size usage want items = nat_lt size.bytes (usage.bytes + bytes_of items + want) || (usage.number + length items == size.items)

-- the items that stay when room is made: none goes while there is room
abbrev pub kept : PoolSize → Usage → ℕ → List Item → List Item
kept size usage want [] = []
kept size usage want (item ∷ items) = if is_full size usage want (item ∷ items) then kept size usage want items else item ∷ items

-- the items that go, in order
abbrev pub dropped : PoolSize → Usage → ℕ → List Item → List Item
dropped size usage want [] = []
dropped size usage want (item ∷ items) = if is_full size usage want (item ∷ items) then item ∷ dropped size usage want items else []

-- ---- what is read

-- the item is expired
abbrev pub is_expired : ℕ → Item → Bool
is_expired now item = not (item.expiry == 0) && not (nat_lt now item.expiry)

-- the item under a key, if it isn't expired
abbrev pub unexpired : ℕ → Option Item → Option Item
unexpired now None = None
unexpired now (Some item) = if is_expired now item then None else Some item

-- its value
abbrev pub value_then : ℕ → Option Item → Option (List ℕ)
value_then now item = option_map (λ (i : Item). i.value) (unexpired now item)

-- the items, those that pass without their clean mark
abbrev pub unmarked_where : (Item → Bool) → List Item → List Item
unmarked_where test items = map (λ (item : Item). if test item then record item { clean = false } else item) items

-- ---- marks

abbrev pub is_covered : Option FlashConfig → Scope → Item → Bool
is_covered flash scope item = covers flash scope item.key (length item.value)

-- the item is the key's, and the scope covers it
abbrev pub is_covered_at : Option FlashConfig → Scope → List ℕ → Item → Bool
is_covered_at flash scope key item = is_at key item && is_covered flash scope item
