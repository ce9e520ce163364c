-- Why an item isn't allocated, by what was tested.
use Rattle.std.proofs.Common.{◌≡◌, ℕ, ◌<◌, ◌≤◌, nat_lt, Bool, true, false, not, List, length, Option, None, Some, refl, arith}
use Rattle.std.proofs.lemmas.Bool.{lt-ltb, le-ltb}
use mathlib.Core.Bool.{cond}
use Rattle.hc_types.specs.Charge.{charge_of}
use Rattle.hc_types.specs.declared.refusal.Refusal.{Refusal}
use Rattle.hc_types.specs.declared.refusal.Refusal.TheVariants.{NoPool, ValueTooLong, NoRoom}
use Rattle.hc_memory.specs.Memory.{Memory, is_hopeless}
use Rattle.hc_machine.specs.items.Allocating.{refusal_of}

abbrev reason : Bool → Bool → Bool → Option Refusal
reason there long hopeless = cond (not there) (Some NoPool) (cond long (Some ValueTooLong) (cond hopeless (Some NoRoom) None))

pub too-long : (memory : Memory) (pool : ℕ) (key : List ℕ) (size : ℕ) → pool < length memory.pools → 1048576 < size → refusal_of memory pool key size ≡ Some ValueTooLong
too-long memory pool key size p s = λ i. reason (lt-ltb pool (length memory.pools) p i) (lt-ltb 1048576 size s i) (is_hopeless memory pool (charge_of key size))

pub by-room : (memory : Memory) (pool : ℕ) (key : List ℕ) (size : ℕ) (b : Bool) → pool < length memory.pools → size ≤ 1048576 → is_hopeless memory pool (charge_of key size) ≡ b → refusal_of memory pool key size ≡ cond b (Some NoRoom) None
by-room memory pool key size b p s h = λ i. reason (lt-ltb pool (length memory.pools) p i) (le-ltb 1048576 size s i) (h i)

-- ---- and what isn't refused

there_step : (pool : ℕ) (memory : Memory) (o : Option Refusal) (b : Bool) → nat_lt pool (length memory.pools) ≡ b → cond (not b) (Some NoPool) o ≡ None → pool < length memory.pools
there_step pool memory o true e h = grind (arith, e)
there_step pool memory o false e h = absurd cc

-- what isn't refused is for a pool that is there
pub pool-there : (memory : Memory) (pool : ℕ) (key : List ℕ) (size : ℕ) → refusal_of memory pool key size ≡ None → pool < length memory.pools
pool-there memory pool key size h = there_step pool memory _ (nat_lt pool (length memory.pools)) refl h

may_step : (a b c : Bool) → cond (not a) (Some NoPool) (cond b (Some ValueTooLong) (cond c (Some NoRoom) None)) ≡ None → (b ≡ false) × (c ≡ false)
may_step true false false h = (refl, refl)
may_step true false true h = absurd cc
may_step true true c h = absurd cc
may_step false b c h = absurd cc

-- and neither too long, nor without room
pub may-be : (memory : Memory) (pool : ℕ) (key : List ℕ) (size : ℕ) → refusal_of memory pool key size ≡ None → (nat_lt 1048576 size ≡ false) × (is_hopeless memory pool (charge_of key size) ≡ false)
may-be memory pool key size h = may_step (nat_lt pool (length memory.pools)) (nat_lt 1048576 size) (is_hopeless memory pool (charge_of key size)) h
