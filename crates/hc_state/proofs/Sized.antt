-- Whether pools have certain sizes.
use Rattle.std.proofs.Common.{◌≡◌, ℕ, ◌+◌, ◌<◌, ◌==◌, ◌&&◌, Bool, true, false, not, List, Option, Some, None, map, length, take, refl, sym, ap, ◌∙◌, arith, slice_get}
use Rattle.std.specs.Bool.{Decides}
use Rattle.std.specs.Prelude.{option_map}
use Rattle.std.proofs.lemmas.Bool.Decides.{Decides-and, Decides-eqb, Decides-like}
use Rattle.std.proofs.lemmas.List.{length-map, take_more_same}
use Rattle.std.proofs.lemmas.Option.{slice_get-map, get_or_from_slice_get}
use Rattle.hc_types.specs.declared.config.PoolSize.{PoolSize}
use Rattle.hc_memory.specs.declared.usage.PoolUsage.{PoolUsage}
use Rattle.hc_memory.specs.Pool.{Pool, linked_usage}
use Rattle.hc_memory.specs.Charges.{usage_of}
use Rattle.hc_memory.specs.Memory.{Memory, pool_usage}

abbrev pub sizes_of : List Pool → List PoolSize
sizes_of pools = map (λ (pool : Pool). pool.size) pools

limits : (m : Memory) (i : ℕ) (o : Option Pool) → option_map (λ (u : PoolUsage). u.limits) (option_map (λ (pool : Pool). record { limits = pool.size; linked = linked_usage pool.items; open_charges = usage_of i m.charges }) o) ≡ option_map (λ (pool : Pool). pool.size) o
limits m i None = refl
limits m i (Some pool) = refl

-- the size of the pool with this number, by its usage
pub size-at : (m : Memory) (i : ℕ) (u : PoolUsage) → Some u ≡ pool_usage m i → slice_get (sizes_of m.pools) i ≡ Some u.limits
size-at m i u is = slice_get-map (λ (pool : Pool). pool.size) m.pools i ∙ sym (limits m i (slice_get m.pools i)) ∙ sym (ap (option_map (λ (v : PoolUsage). v.limits)) is)

-- one more has its size
pub more-sized : (m : Memory) (sizes : List PoolSize) (i k : ℕ) (u : PoolUsage) (size : PoolSize) → k ≡ i → Some u ≡ pool_usage m k → slice_get sizes i ≡ Some size → u.limits ≡ size → i < length m.pools → i < length sizes → take i (sizes_of m.pools) ≡ take i sizes → take (i + 1) (sizes_of m.pools) ≡ take (i + 1) sizes
more-sized m sizes i k u size number is at same lt less before =
    take_more_same (sizes_of m.pools) sizes i size (let long = length-map m.pools (λ (pool : Pool). pool.size) in omega (arith, lt, long)) less before
    (get_or_from_slice_get (sizes_of m.pools) i u.limits size (size-at m i u (is ∙ ap (pool_usage m) number)) ∙ same ∙ sym (get_or_from_slice_get sizes i size size at))

-- ---- one size and another

sizes_decide : (a b : PoolSize) → Decides ((a.bytes == b.bytes) && (a.items == b.items)) (a ≡ b)
sizes_decide a b =
    Decides-like ((a.bytes == b.bytes) && (a.items == b.items)) (λ h i. record { bytes = h.0 i; items = h.1 i }) (λ e. (ap (λ (x : PoolSize). x.bytes) e, ap (λ (x : PoolSize). x.items) e))
    (Decides-and {P = a.bytes ≡ b.bytes} {Q = a.items ≡ b.items} (a.bytes == b.bytes) (a.items == b.items) (Decides-eqb a.bytes b.bytes) (Decides-eqb a.items b.items))

-- a test whether they differ says no
pub same-size : (a b : PoolSize) (r : Bool) → r ≡ not ((a.bytes == b.bytes) && (a.items == b.items)) → r ≡ false → a ≡ b
same-size a b r e failed = (sizes_decide a b).0 (not_not ((a.bytes == b.bytes) && (a.items == b.items)) (sym e ∙ failed))
  where
    not_not : (t : Bool) → not t ≡ false → t ≡ true
    not_not true h = refl
    not_not false h = absurd cc
