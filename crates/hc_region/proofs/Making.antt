-- So many clean regions, and their numbers.
use Rattle.std.proofs.Common.{◌≡◌, ℕ, zero, suc, ◌+◌, ◌-◌, ◌<◌, List, [], ◌∷◌, ◌++◌, refl, ap, arith}
use Rattle.std.specs.Prelude.{replicate}
use Rattle.hc_engines.specs.large.Region.{Region, clean_region}
use Rattle.hc_region.specs.CleanNumbers.{clean_from, with_number}
use Rattle.hc_region.proofs.Cleans.{below}

-- one of those that are still to come is there
pub one_more : (xs : List Region) (n i : ℕ) → i < n → (xs ++ clean_region ∷ []) ++ replicate (n - (i + 1)) clean_region ≡ xs ++ replicate (n - i) clean_region
one_more [] n i lt = let e : n - i ≡ suc (n - (i + 1)) = omega (arith, lt) in rw e refl
one_more (x ∷ xs) n i lt = ap (λ (ys : List Region). x ∷ ys) (one_more xs n i lt)

-- the next number comes in behind those that are there
next_behind : (n i r : ℕ) → r ≡ n + i → with_number r (clean_from n (replicate i clean_region)) ≡ clean_from n (replicate (suc i) clean_region)
next_behind n zero r e = let here : r ≡ n = omega (arith, e) in rw here refl
next_behind n (suc i) r e = rw (below r n (omega (arith, e))) (ap (λ (more : List ℕ). n ∷ more) (next_behind (n + 1) i r (omega (arith, e))))

pub next_number : (r : ℕ) (clean left : List ℕ) → clean ≡ clean_from 0 (replicate r clean_region) → left ≡ with_number r clean → left ≡ clean_from 0 (replicate (r + 1) clean_region)
next_number r clean left c l = let next : r + 1 ≡ suc r = omega arith in rw (l, c, next) (next_behind 0 r r (omega arith))
