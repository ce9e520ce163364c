-- The numbers of the clean ones of the first regions, one more region at a time.
use Rattle.std.proofs.Common.{◌≡◌, ℕ, zero, suc, ◌+◌, ◌<◌, ◌≤◌, Bool, true, false, List, [], ◌∷◌, length, take, refl, sym, ap, arith, ◌∙◌}
use Rattle.std.specs.Prelude.{if◌then◌else◌}
use Rattle.std.proofs.lemmas.List.{take_all}
use Rattle.hc_engines.specs.large.Region.{Region, is_clean, region_at}
use Rattle.hc_region.specs.CleanNumbers.{clean_from, with_number}
use Rattle.hc_region.proofs.Cleans.{below}

one_more : (n i : ℕ) (regions : List Region) → i < length regions
    → clean_from n (take (suc i) regions) ≡ (if is_clean (region_at i regions).status then with_number (n + i) (clean_from n (take i regions)) else clean_from n (take i regions))
one_more n i [] lt = absurd (omega arith)
one_more n zero (region ∷ regions) lt = go (is_clean region.status)
  where
    here : n ≡ n + 0
    here = omega arith

    go : (t : Bool) → (if t then n ∷ [] else []) ≡ (if t then with_number (n + 0) [] else [])
    go true = ap (λ (m : ℕ). m ∷ []) here
    go false = refl
one_more n (suc i) (region ∷ regions) lt = go (is_clean region.status) (is_clean (region_at i regions).status) (one_more (n + 1) i regions (omega arith))
  where
    next : n + 1 + i ≡ n + suc i
    next = omega arith

    go : (t u : Bool) → clean_from (n + 1) (take (suc i) regions) ≡ (if u then with_number (n + 1 + i) (clean_from (n + 1) (take i regions)) else clean_from (n + 1) (take i regions))
        → (if t then n ∷ clean_from (n + 1) (take (suc i) regions) else clean_from (n + 1) (take (suc i) regions))
        ≡ (if u then with_number (n + suc i) (if t then n ∷ clean_from (n + 1) (take i regions) else clean_from (n + 1) (take i regions)) else (if t then n ∷ clean_from (n + 1) (take i regions) else clean_from (n + 1) (take i regions)))
    go true true h = rw (below (n + suc i) n (omega arith)) (ap (λ (more : List ℕ). n ∷ more) (h ∙ ap (λ (m : ℕ). with_number m (clean_from (n + 1) (take i regions))) next))
    go false true h = h ∙ ap (λ (m : ℕ). with_number m (clean_from (n + 1) (take i regions))) next
    go true false h = ap (λ (more : List ℕ). n ∷ more) h
    go false false h = h

-- one more region was looked at
pub next_clean : (i : ℕ) (regions : List Region) (clean left : List ℕ) → i < length regions → clean ≡ clean_from 0 (take i regions)
    → left ≡ (if is_clean (region_at i regions).status then with_number i clean else clean) → left ≡ clean_from 0 (take (i + 1) regions)
next_clean i regions clean left lt c l =
    let more : i + 1 ≡ suc i = omega arith in
    let first : 0 + i ≡ i = omega arith in
    let step = one_more 0 i regions lt ∙ ap (λ (m : ℕ). if is_clean (region_at i regions).status then with_number m (clean_from 0 (take i regions)) else clean_from 0 (take i regions)) first in
    l ∙ ap (λ (xs : List ℕ). if is_clean (region_at i regions).status then with_number i xs else xs) c ∙ sym (ap (λ (m : ℕ). clean_from 0 (take m regions)) more ∙ step)

-- all of them were
pub all_clean : (i : ℕ) (regions : List Region) (clean : List ℕ) → length regions ≤ i → clean ≡ clean_from 0 (take i regions) → clean ≡ clean_from 0 regions
all_clean i regions clean le c = c ∙ ap (clean_from 0) (take_all i regions le)
