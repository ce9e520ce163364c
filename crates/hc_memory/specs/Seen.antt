-- How the code's types are seen.
use Rattle.std.specs.Prelude.{ℕ, List, [], ◌∷◌, ◌++◌, replicate}
use Rattle.hc_memory.specs.Item.{Item}
use Rattle.hc_memory.specs.declared.fill.Fill.{Fill}
use Rattle.hc_memory.specs.declared.fill.Fill.TheVariants.{Copied, Repeated}
use Rattle.hc_memory.specs.declared.item.Held.{Held}
use Rattle.hc_memory.specs.declared.pool.Glance.{Glance}

-- the item of an entry
abbrev pub item_of : {A : Type 0} → (List ℕ × Held A) → Item
item_of entry = record { number = entry.1.number; pool = entry.1.pool; key = entry.0; value = entry.1.value; expiry = entry.1.expiry; clean = entry.1.clean }

-- the items of entries that stand in the order of their use, the one that was used last first
abbrev pub items_of : {A : Type 0} → List (List ℕ × Held A) → List Item
items_of [] = []
items_of (entry ∷ entries) = items_of entries ++ item_of entry ∷ []

-- what a glance at an item shows
abbrev pub glance_of : Item → Glance
glance_of item = record { number = item.number; expiry = item.expiry }

-- what an item begins as
abbrev pub filled : Fill → List ℕ
filled (Copied bytes) = bytes.now
filled (Repeated count byte) = replicate count byte
