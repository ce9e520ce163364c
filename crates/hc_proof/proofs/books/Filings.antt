-- What is filed, as the index: which hash, and in which region.
use Rattle.std.proofs.Common.{◌≡◌, ℕ, ◌+◌, ◌<◌, ◌==◌, ◌&&◌, Bool, true, false, not, List, [], ◌∷◌, Option, Some, None, refl, sym, ap, arith, ◌∙◌}
use Rattle.std.specs.Prelude.{if◌then◌else◌}
use Rattle.std.proofs.lemmas.Bool.{eqb-true}
use Rattle.hc_types.specs.Tally.{count}
use Rattle.hc_engines.specs.large.Index.{Place, Indexed, place_at, without, leading, region_in}
use Rattle.hc_engines.proofs.large.Lists.{place_at-without, place_at-leading, same_num}
use Rattle.hc_history.specs.Regions.{Filing, unfiled, is_filed}
use Rattle.hc_invariant.specs.Tells.{files}
use Rattle.hc_machine.specs.Nvm.{is_number_in}

pub none-more : (n m : ℕ) → n ≡ m → 0 + n ≡ m
none-more n m e = omega arith

-- how often a hash is filed in a region, where the index leads there
abbrev pub once_if : ℕ → Option ℕ → ℕ
once_if region o = if is_number_in region o then 1 else 0

-- what is filed is what the index leads to
abbrev pub FiledAs : List Filing → List Indexed → Type 0
FiledAs filings index = (hash region : ℕ) → count (files hash region) filings ≡ once_if region (region_in (place_at hash index))

pub filed-unfiled : (k h r : ℕ) (fs : List Filing) → count (files h r) (unfiled k fs) ≡ (if h == k then 0 else count (files h r) fs)
filed-unfiled k h r [] = grind arith
filed-unfiled k h r (f ∷ fs) = grind (arith, filed-unfiled k h r fs)

pub as-without : (k : ℕ) (fs : List Filing) (index : List Indexed) → FiledAs fs index → FiledAs (unfiled k fs) (without k index)
as-without k fs index a h r = filed-unfiled k h r fs ∙ go (h == k) refl
  where
    go : (t : Bool) → (h == k) ≡ t → (if t then 0 else count (files h r) fs) ≡ once_if r (region_in (place_at h (without k index)))
    go true t = sym (rw (place_at-without k h index, t) refl)
    go false t = rw (place_at-without k h index, t) (a h r)

pub as-leading : (k r : ℕ) (place : Place) (fs : List Filing) (index : List Indexed) → place.region ≡ r → FiledAs fs index → FiledAs (record { kept = k; region = r } ∷ unfiled k fs) (leading k place index)
as-leading k r place fs index e a h q = rw (filed-unfiled k h q fs, place_at-leading k h place index) (go (h == k) refl)
  where
    go : (t : Bool) → (h == k) ≡ t → (if (k == h) && (r == q) then 1 else 0) + (if t then 0 else count (files h q) fs) ≡ once_if q (region_in (if t then Some place else place_at h index))
    go true t = rw e (grind (arith, eqb-true h k t, same_num k))
    go false t = let o : (k == h) ≡ false = (grind (arith, t)) in rw o (none-more (count (files h q) fs) (once_if q (region_in (place_at h index))) (a h q))

-- ---- what the counts say

counted-filed : (k r : ℕ) (fs : List Filing) → 0 < count (files k r) fs → is_filed k fs ≡ true
counted-filed k r [] h = absurd (omega arith)
counted-filed k r (f ∷ fs) h = grind (arith, counted-filed k r fs)

-- where the index leads from a hash, it is filed
pub as-filed : (k : ℕ) (place : Place) (fs : List Filing) (index : List Indexed) → FiledAs fs index → place_at k index ≡ Some place → is_filed k fs ≡ true
as-filed k place fs index a e = counted-filed k place.region fs (let one : count (files k place.region) fs ≡ 1 = a k place.region ∙ (rw (e, same_num place.region) refl) in omega arith)

pub as-there : (k r : ℕ) (fs : List Filing) (index : List Indexed) → FiledAs fs index → region_in (place_at k index) ≡ Some r → 0 < count (files k r) fs
as-there k r fs index a e = let one : count (files k r) fs ≡ 1 = a k r ∙ (rw (e, same_num r) refl) in omega arith

-- a region to which the index doesn't lead has nothing filed
pub as-none : (r : ℕ) (fs : List Filing) (index : List Indexed) → FiledAs fs index → ((h : ℕ) → region_in (place_at h index) ≡ Some r → ⊥) → (h : ℕ) → count (files h r) fs ≡ 0
as-none r fs index a none h = a h r ∙ go (region_in (place_at h index)) (none h)
  where
    at : (x : ℕ) → (t : Bool) → (x == r) ≡ t → (Some x ≡ Some r → ⊥) → ◌≡◌ {A = ℕ} (if t then 1 else 0) 0
    at x true t f = absurd (f (ap Some (eqb-true x r t)))
    at x false t f = refl

    go : (o : Option ℕ) → (o ≡ Some r → ⊥) → once_if r o ≡ 0
    go None f = refl
    go (Some x) f = at x (x == r) refl f

-- the filings of these regions
abbrev pub of_regions : (ℕ → Bool) → List Filing → ℕ
of_regions test fs = count (λ (f : Filing). test f.region) fs

tail-none : (h r : ℕ) (f : Filing) (fs : List Filing) → count (files h r) (f ∷ fs) ≡ 0 → count (files h r) fs ≡ 0
tail-none h r f fs e = grind (arith, e)

own-filed : (f : Filing) (fs : List Filing) → count (files f.kept f.region) (f ∷ fs) ≡ 0 → ⊥
own-filed f fs e = let one : files f.kept f.region f ≡ true = (rw (same_num f.kept, same_num f.region) refl) in let e2 : 1 + count (files f.kept f.region) fs ≡ 0 = (rw one at e) in omega arith

pub none-of : (test : ℕ → Bool) (fs : List Filing) → ((r : ℕ) → test r ≡ true → (h : ℕ) → count (files h r) fs ≡ 0) → of_regions test fs ≡ 0
none-of test [] none = refl
none-of test (f ∷ fs) none = go (test f.region) refl (none-of test fs (λ r t h. tail-none h r f fs (none r t h)))
  where
    go : (t : Bool) → test f.region ≡ t → of_regions test fs ≡ 0 → (if t then 1 else 0) + of_regions test fs ≡ 0
    go true t rest = absurd (own-filed f fs (none f.region t f.kept))
    go false t rest = omega (arith, rest)

-- taking a hash out leaves none where none was
pub none-left : (test : ℕ → Bool) (k : ℕ) (fs : List Filing) → of_regions test fs ≡ 0 → of_regions test (unfiled k fs) ≡ 0
none-left test k [] e = refl
none-left test k (f ∷ fs) e = go (test f.region) refl e (f.kept == k) (λ z. none-left test k fs z)
  where
    go : (t : Bool) → test f.region ≡ t → (if t then 1 else 0) + of_regions test fs ≡ 0 → (u : Bool) → (of_regions test fs ≡ 0 → of_regions test (unfiled k fs) ≡ 0) → of_regions test (if not u then f ∷ unfiled k fs else unfiled k fs) ≡ 0
    go true t e u less = absurd (omega (arith, e))
    go false t e true less = less (omega (arith, e))
    go false t e false less = rw t (omega (arith, less (omega (arith, e))))
