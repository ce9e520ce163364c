-- The items of all pools as one list, and what the books have for them.
use Rattle.std.specs.Prelude.{ℕ, true, false, Bool, List, [], ◌∷◌, ◌++◌, Option, Some, None}
use Rattle.hc_memory.specs.Item.{Item, Open, cost, open_cost}
use Rattle.hc_memory.specs.Pool.{Pool}
use Rattle.hc_history.specs.Books.{Charge, Entry, has_number}

-- all items that can be found, of one pool after the other
abbrev pub items_of : List Pool → List Item
items_of [] = []
items_of (pool ∷ pools) = pool.items ++ items_of pools

-- the charge of an item, which is linked
abbrev pub charge_at : Item → Charge
charge_at item = record { number = item.number; key = item.key; pool = item.pool; bytes = cost item; linked = true }

-- an open charge
abbrev pub open_at : Open → Charge
open_at charge = record { number = charge.number; key = charge.key; pool = charge.pool; bytes = open_cost charge; linked = false }

abbrev pub item_has : ℕ → Item → Bool
item_has number item = has_number number (charge_at item)

abbrev pub open_has : ℕ → Open → Bool
open_has number charge = has_number number (open_at charge)

-- what the map has for an item
abbrev pub entry_of : Option Item → Option Entry
entry_of None = None
entry_of (Some item) = Some (record { value = item.value; expiry = item.expiry })
