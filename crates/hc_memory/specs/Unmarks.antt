-- How a pool loses marks, one key after another.
use Rattle.std.specs.Prelude.{ℕ, List, [], ◌∷◌, Option}
use Rattle.hc_types.specs.Loss.{Scope}
use Rattle.hc_types.specs.declared.config.FlashConfig.{FlashConfig}
use Rattle.hc_memory.specs.Item.{Item}
use Rattle.hc_memory.specs.Pool.{unmarked_where, is_covered_at}

-- the items, those under these keys that the scope covers without their clean mark
abbrev pub keys_unmarked : Option FlashConfig → Scope → List (List ℕ) → List Item → List Item
keys_unmarked flash scope [] items = items
keys_unmarked flash scope (key ∷ keys) items = keys_unmarked flash scope keys (unmarked_where (is_covered_at flash scope key) items)
