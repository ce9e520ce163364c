-- The numbers of the items' charges, as a set.
use Rattle.std.specs.Prelude.{◌≡◌, ℕ, List}
use Rattle.std.specs.Ordering.{nat_cmp}
use Rattle.std.specs.List.{list_any}
use Rattle.std.specs.BTreeSet.{BTreeSet, contains}
use Rattle.hc_memory.specs.Pool.{Pool}
use Rattle.hc_machine.specs.items.Items.{items_of, item_has}

-- a number is in the set exactly where an item has it
abbrev pub AreNumbers : BTreeSet ℕ → List Pool → Type 0
AreNumbers numbers pools = (n : ℕ) → contains nat_cmp numbers n ≡ list_any (item_has n) (items_of pools)
