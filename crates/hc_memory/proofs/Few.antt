-- How many charges can be open, and how many items can go.
use Rattle.std.proofs.Common.{◌≡◌, ℕ, zero, suc, ◌+◌, ◌*◌, ◌≤◌, ◌==◌, Bool, true, false, not, List, [], ◌∷◌, length, refl, arith, nat_lt, Result, Ok, Err, IfOk}
use mathlib.Core.Bool.{cond}
use Rattle.std.proofs.lemmas.Bool.{and_parts}
use Rattle.hc_types.specs.Tally.{count}
use Rattle.hc_types.specs.declared.config.PoolSize.{PoolSize}
use Rattle.hc_types.specs.Limits.{is_within, pool_fits}
use Rattle.hc_types.specs.declared.refusal.Refusal.{Refusal}
use Rattle.hc_memory.specs.declared.usage.Usage.{Usage}
use Rattle.hc_memory.specs.Item.{Open}
use Rattle.hc_memory.specs.Pool.{Pool}
use Rattle.hc_memory.specs.Sound.{IsWithin, Sound}
use Rattle.hc_memory.proofs.Making.{there-of}

-- what is below the next number is below this one, or this one
next_step : (p k : ℕ) (a b c : Bool) → nat_lt p (suc k) ≡ a → nat_lt p k ≡ b → (p == k) ≡ c → ◌≤◌ (cond a 1 0) (cond b 1 0 + cond c 1 0)
next_step p k false b c e f g = omega arith
next_step p k true true c e f g = omega arith
next_step p k true false true e f g = omega arith
next_step p k true false false e f g = absurd (grind (arith, e, f, g))

below_next : (k : ℕ) (charges : List Open) → count (λ (c : Open). nat_lt c.pool (suc k)) charges ≤ count (λ (c : Open). nat_lt c.pool k) charges + count (λ (c : Open). c.pool == k) charges
below_next k [] = omega arith
below_next k (c ∷ charges) = omega (arith, below_next k charges, next_step c.pool k (nat_lt c.pool (suc k)) (nat_lt c.pool k) (c.pool == k) refl refl refl)

below_none : (p : ℕ) (b : Bool) → nat_lt p 0 ≡ b → ◌≡◌ {A = ℕ} (cond b 1 0) 0
below_none p false e = refl
below_none p true e = absurd (grind (arith, e))

none_below : (charges : List Open) → count (λ (c : Open). nat_lt c.pool 0) charges ≡ 0
none_below [] = refl
none_below (c ∷ charges) = omega (arith, none_below charges, below_none c.pool (nat_lt c.pool 0) refl)

not_step : (b : Bool) → ◌≡◌ {A = ℕ} (cond b 1 0 + cond (not b) 1 0) 1
not_step true = refl
not_step false = refl

split_all : (k : ℕ) (charges : List Open) → count (λ (c : Open). nat_lt c.pool k) charges + count (λ (c : Open). not (nat_lt c.pool k)) charges ≡ length charges
split_all k [] = refl
split_all k (c ∷ charges) = omega (arith, split_all k charges, not_step (nat_lt c.pool k))

-- as many items fit into a pool
items_bound : (size : PoolSize) → pool_fits size ≡ true → size.items ≤ 1048576
items_bound size fits = let h = (and_parts (is_within 64 4294967296 size.bytes) (is_within 1 1048576 size.items) fits).1 in grind (arith, h)

below_count : (k : ℕ) (pools : List Pool) (charges : List Open) (made : ℕ) → Sound pools charges made → k ≤ length pools → count (λ (c : Open). nat_lt c.pool k) charges ≤ 1048576 * k
below_count zero pools charges made sound le = omega (arith, none_below charges)
below_count (suc k) pools charges made sound le =
    let there = there-of pools k (omega (arith, le)) in
    let within = sound.within k there.0 there.1 in
    let rest = below_count k pools charges made sound (omega (arith, le)) in
    omega (arith, rest, below_next k charges, within.number, items_bound there.0.size within.size)

-- at most as many charges are open as items fit into 16 pools
pub few-open : (pools : List Pool) (charges : List Open) (made : ℕ) → Sound pools charges made → length charges ≤ 16777216
few-open pools charges made sound =
    let all = below_count (length pools) pools charges made sound (omega arith) in
    omega (arith, all, sound.few, sound.placed, split_all (length pools) charges)

pub few-victims : (r : Result ℕ Refusal) (usage : Usage) (pool : Pool) → IsWithin usage pool → IfOk r (λ n. n ≤ length pool.items) → IfOk r (λ n. n ≤ 1048576)
few-victims (Ok n) usage pool w le = omega (arith, le, w.number, items_bound pool.size w.size)
few-victims (Err refusal) usage pool w le = tt
