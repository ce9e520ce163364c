-- The charges that are open.
use Rattle.std.specs.Prelude.{◌≡◌, ℕ, ◌==◌, ◌<◌, nat_lt, Bool, false, not, ◌&&◌, ◌||◌, List, [], ◌∷◌, length, Option, Some, None, find, position, slice_get, if◌then◌else◌}
use Rattle.std.specs.Str.{bytes_eq}
use Rattle.indexmap.specs.IndexMap.{swap_remove_by}
use Rattle.hc_types.specs.Tally.{tally, count}
use Rattle.hc_memory.specs.declared.open.OpenCharge.{OpenCharge}
use Rattle.hc_memory.specs.declared.usage.Usage.{Usage}
use Rattle.hc_memory.specs.Item.{Open, open_cost}

abbrev pub has_number : ℕ → Open → Bool
has_number number charge = number == charge.number

-- the open charge with a number
abbrev pub charge_at : ℕ → List Open → Option Open
charge_at number charges = find (has_number number) charges

-- the charges without the one with a number, whose place the last of them takes
abbrev pub closed : ℕ → List Open → List Open
closed number charges = swap_remove_by (has_number number) charges

-- the charges without those with these numbers, of which the first goes first
abbrev pub all_closed : List ℕ → List Open → List Open
all_closed [] charges = charges
all_closed (number ∷ numbers) charges = all_closed numbers (closed number charges)

-- what a pool's open charges come to
abbrev pub usage_of : ℕ → List Open → Usage
usage_of pool charges = record {
  bytes = tally (λ (charge : Open). if charge.pool == pool then open_cost charge else 0) charges;
  number = count (λ (charge : Open). charge.pool == pool) charges;
}

-- both are the same
abbrev pub is_same : Open → Open → Bool
is_same a b = (a.number == b.number) && (a.pool == b.pool) && bytes_eq a.key b.key && (a.size == b.size)

abbrev pub is_same_as : Open → Option Open → Bool
is_same_as a None = false
is_same_as a (Some b) = is_same a b

-- this charge is among the open ones
abbrev pub is_open : Open → List Open → Bool
is_open charge charges = is_same_as charge (charge_at charge.number charges)

-- the place of this charge among the open ones, if it's one of them
abbrev pub open_at : Open → List Open → Option ℕ
open_at charge charges = if is_open charge charges then position (has_number charge.number) charges else None

-- ---- all pools

-- The charges that are open, in an order of their own, and how many pools there are.
pub record Book : Type 0 where
  pub charges : List Open
  pub pools : ℕ

-- the open charge of an entry, which stands under its number
abbrev pub open_of : {A : Type 0} → (ℕ × OpenCharge A) → Open
open_of entry = record { number = entry.0; pool = entry.1.pool; key = entry.1.key; size = entry.1.size }

-- the counters of the pools are the sums over the charges
abbrev pub AreSums : List Usage → List Open → Type 0
AreSums usage charges = (pool : ℕ) → pool < length usage → slice_get usage pool ≡ Some (usage_of pool charges)

-- no pool has the charge's number, or its value is longer than a value may be
abbrev pub is_stray : ℕ → Open → Bool
is_stray pools charge = not (nat_lt charge.pool pools) || nat_lt 1048576 charge.size
