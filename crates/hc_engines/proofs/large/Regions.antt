-- Which regions are clean, and what a change of one leaves of the operations under way.
use Rattle.std.proofs.Common.{◌≡◌, ℕ, zero, suc, ◌+◌, ◌<◌, ◌≤◌, Bool, true, false, List, [], ◌∷◌, length, set, Some, None, refl, sym, arith, ◌∙◌}
use Rattle.std.proofs.lemmas.Bool.{eqb-true}
use Rattle.std.specs.Prelude.{if◌then◌else◌, ◌==◌}
use Rattle.hc_types.specs.declared.config.FlashConfig.{FlashConfig}
use Rattle.hc_engines.specs.large.Region.{is_clean, is_draining, Region, next_page, region_at, lowest_clean}
use Rattle.hc_engines.specs.large.Block.{Work, Writing, Getting, Job}
use Rattle.hc_engines.specs.large.Steps.{clean_count, oldest}
use Rattle.hc_engines.specs.large.Numbers.{how_many, is_in, is_before}
use Rattle.hc_engines.specs.large.Sound.{writes, reads, writers, readers, WorkHolds, AllHold}
use Rattle.hc_engines.proofs.large.Lists.{same_num, region_at-set}

-- ---- clean regions

pub how_many-front : (f : ℕ → Bool) (n : ℕ) → how_many f (suc n) ≡ (if f 0 then 1 else 0) + how_many (λ i. f (suc i)) n
how_many-front f zero = omega arith
how_many-front f (suc n) = omega (arith, how_many-front f n)

-- the lowest clean region, counted from n
pub record IsLowest (regions : List Region) (i : ℕ) : Type 0 where
  pub there : i < length regions
  pub clean : is_clean (region_at i regions).status ≡ true
  pub lower : (x : ℕ) → x < i → is_clean (region_at x regions).status ≡ false

lowest_here : (x : Region) (xs : List Region) (n r : ℕ) (b : Bool) → is_clean x.status ≡ b → (if b then Some n else lowest_clean (n + 1) xs) ≡ Some r
    → (lowest_clean (n + 1) xs ≡ Some r → (i : ℕ) × (r ≡ (n + 1) + i) × IsLowest xs i) → (i : ℕ) × (r ≡ n + i) × IsLowest (x ∷ xs) i
lowest_here x xs n r true c e f = (0, (let same : n ≡ r = cc in omega arith), record { there = omega arith; clean = c; lower = λ y h. absurd (omega arith) })
lowest_here x xs n r false c e f =
    let m = f e in
    (suc m.0, omega (arith, m.1), record { there = let t = m.2.there in omega arith; clean = m.2.clean; lower = below m.0 m.2.lower })
  where
    below : (i : ℕ) → ((y : ℕ) → y < i → is_clean (region_at y xs).status ≡ false) → (y : ℕ) → y < suc i → is_clean (region_at y (x ∷ xs)).status ≡ false
    below i g zero h = c
    below i g (suc y) h = g y (omega arith)

pub lowest_is : (regions : List Region) (n r : ℕ) → lowest_clean n regions ≡ Some r → (i : ℕ) × (r ≡ n + i) × IsLowest regions i
lowest_is [] n r e = absurd (cc)
lowest_is (x ∷ xs) n r e = lowest_here x xs n r (is_clean x.status) refl e (λ f. lowest_is xs (n + 1) r f)

none_here : (x : Region) (xs : List Region) (n : ℕ) (b : Bool) → (if b then Some n else lowest_clean (n + 1) xs) ≡ None → (b ≡ false) × (lowest_clean (n + 1) xs ≡ None)
none_here x xs n true e = absurd (cc)
none_here x xs n false e = (refl, e)

pub none_clean : (regions : List Region) (n : ℕ) → lowest_clean n regions ≡ None → clean_count regions ≡ 0
none_clean [] n e = refl
none_clean (x ∷ xs) n e = let h = none_here x xs n (is_clean x.status) e in let more = none_clean xs (n + 1) h.1 in rw h.0 (omega arith)

-- ---- the region that was flushed first

pub record IsOldest (regions : List Region) (flushed : List ℕ) (r : ℕ) : Type 0 where
  pub there : is_in r flushed ≡ true
  pub undrained : is_draining (region_at r regions).status ≡ false
  pub older : (x : ℕ) → is_before flushed x r ≡ true → is_draining (region_at x regions).status ≡ true

oldest_here : (regions : List Region) (y : ℕ) (ys : List ℕ) (r : ℕ) (b : Bool) → is_draining (region_at y regions).status ≡ b → (if b then oldest regions ys else Some y) ≡ Some r
    → (oldest regions ys ≡ Some r → IsOldest regions ys r) → IsOldest regions (y ∷ ys) r
oldest_here regions y ys r false d e f =
    let same : y ≡ r = cc in
    record {
      there = rw same (grind (arith, same_num r));
      undrained = (rw same at d);
      older = λ x h. absurd (first x same h);
    }
  where
    first : (x : ℕ) → y ≡ r → is_before (y ∷ ys) x r ≡ true → ⊥
    first x s h = let c : (if y == r then false else (if y == x then true else is_before ys x r)) ≡ true = h in grind (arith, same_num r)
oldest_here regions y ys r true d e f =
    let m = f e in
    record {
      there = let t = m.there in grind arith;
      undrained = m.undrained;
      older = λ x h. before x m.older (y == r) refl (y == x) refl h;
    }
  where
    before : (x : ℕ) → ((x : ℕ) → is_before ys x r ≡ true → is_draining (region_at x regions).status ≡ true)
        → (u : Bool) → (y == r) ≡ u → (v : Bool) → (y == x) ≡ v → (if u then false else (if v then true else is_before ys x r)) ≡ true → is_draining (region_at x regions).status ≡ true
    before x g true u v w h = absurd (cc)
    before x g false u true w h = let same : y ≡ x = eqb-true y x w in rw (← same) d
    before x g false u false w h = g x h

pub oldest_is : (regions : List Region) (flushed : List ℕ) (r : ℕ) → oldest regions flushed ≡ Some r → IsOldest regions flushed r
oldest_is regions [] r e = absurd (cc)
oldest_is regions (y ∷ ys) r e = oldest_here regions y ys r (is_draining (region_at y regions).status) refl e (λ f. oldest_is regions ys r f)

-- ---- the operations under way, where one region changes

work-set : (flash : FlashConfig) (regions : List Region) (r : ℕ) (x : Region) (work : Work) → r < length regions → WorkHolds flash regions work
    → (writes r work ≡ true → next_page flash x ≡ next_page flash (region_at r regions)) → (reads r work ≡ true → (region_at r regions).written ≤ x.written) → WorkHolds flash (set regions r x) work
work-set flash regions r x (Writing y bytes) lt h w d = rw (region_at-set regions r y x lt) (go (y == r) refl)
  where
    go : (t : Bool) → (y == r) ≡ t → bytes ≡ next_page flash (if t then x else region_at y regions)
    go true t = let same : y ≡ r = eqb-true y r t in h ∙ (rw same (sym (w t)))
    go false t = h
work-set flash regions r x (Getting reading) lt h w d = (h.0, rw (region_at-set regions r reading.place.region x lt) (go (reading.place.region == r) refl))
  where
    go : (t : Bool) → (reading.place.region == r) ≡ t → reading.until ≤ (if t then x else region_at reading.place.region regions).written
    go true t =
        let same : reading.place.region ≡ r = eqb-true reading.place.region r t in
        let old : reading.until ≤ (region_at r regions).written = (rw same at h.1) in
        let grown = d t in
        omega arith
    go false t = h.1

some_here : (b : Bool) (n : ℕ) → b ≡ true → 0 < (if b then 1 else 0) + n
some_here true n e = omega arith
some_here false n e = absurd (cc)

some_behind : (b : Bool) (n : ℕ) → 0 < n → 0 < (if b then 1 else 0) + n
some_behind true n e = omega arith
some_behind false n e = omega arith

pub works-set : (flash : FlashConfig) (regions : List Region) (r : ℕ) (x : Region) (jobs : List Job) → r < length regions → AllHold flash regions jobs
    → (0 < writers r jobs → next_page flash x ≡ next_page flash (region_at r regions)) → (0 < readers r jobs → (region_at r regions).written ≤ x.written) → AllHold flash (set regions r x) jobs
works-set flash regions r x [] lt h w d = tt
works-set flash regions r x (job ∷ jobs) lt h w d = (
  work-set flash regions r x job.work lt h.0 (λ e. w (some_here (writes r job.work) (writers r jobs) e)) (λ e. d (some_here (reads r job.work) (readers r jobs) e)),
  works-set flash regions r x jobs lt h.1 (λ e. w (some_behind (writes r job.work) (writers r jobs) e)) (λ e. d (some_behind (reads r job.work) (readers r jobs) e)),
)
