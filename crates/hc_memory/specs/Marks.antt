-- The clean marks of small items: a bucket that is lost takes those of all that it had, by their numbers alone.
use Rattle.std.specs.Prelude.{ℕ, ◌≤◌, nat_le, ◌&&◌, Bool, true, false, List, length, map, Option, Some, None, IfSome, get_or, if◌then◌else◌}
use Rattle.hc_types.specs.Loss.{Scope, Key, Bucket, Hash}
use Rattle.hc_types.specs.Places.{bucket_at, is_small_by}
use Rattle.hc_types.specs.declared.config.FlashConfig.{FlashConfig}
use Rattle.hc_memory.specs.Item.{Item}
use Rattle.hc_memory.specs.Pool.{Pool, unmarked_where}

-- The bucket of a small item of this key and this number was lost since: each bucket has the greatest number that a clean
-- item had when it was lost last (0: never).
abbrev pub is_lost : Option FlashConfig → List ℕ → List ℕ → ℕ → ℕ → Bool
is_lost None lost key len number = false
is_lost (Some flash) lost key len number = is_small_by flash key len && nat_le number (get_or lost (bucket_at flash key) 0)

abbrev pub is_stale : Option FlashConfig → List ℕ → Item → Bool
is_stale flash lost item = is_lost flash lost item.key (length item.value) item.number

-- the item, without its mark if its bucket was lost since
abbrev pub settled : Option FlashConfig → List ℕ → Item → Item
settled flash lost item = if is_stale flash lost item then record item { clean = false } else item

-- the pools, where items are without their mark whose buckets were lost
abbrev pub marked : Option FlashConfig → List ℕ → List Pool → List Pool
marked flash lost pools = map (λ (pool : Pool). record pool { items = unmarked_where (is_stale flash lost) pool.items }) pools

-- what holds of the numbers: those of lost buckets are no greater than the newest clean item's, which was made
pub record Numbered (flash : Option FlashConfig) (lost : List ℕ) (newest made : ℕ) : Type 0 where
  pub counted : newest ≤ made
  pub old : (bucket : ℕ) → get_or lost bucket 0 ≤ newest
  pub wide : IfSome flash (λ f. f.buckets ≤ length lost)

-- the scope is a bucket
abbrev pub is_bucket : Scope → Bool
is_bucket (Key key) = false
is_bucket (Bucket bucket) = true
is_bucket (Hash kept but) = false
