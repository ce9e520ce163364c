-- Look-ups after each change.
use Rattle.std.proofs.Common.{◌≡◌, ℕ, zero, suc, ◌<◌, Bool, true, false, ◌≤◌, ◌+◌, List, [], ◌∷◌, ◌++◌, length, set, Option, Some, None, refl, arith, ◌∙◌}
use Rattle.std.proofs.lemmas.Bool.{eqb-true, ltb-true}
use Rattle.std.specs.Prelude.{if◌then◌else◌, ◌==◌, ◌&&◌}
use Rattle.hc_engines.specs.large.Region.{is_clean, Appended, Region, region_at}
use Rattle.hc_engines.specs.large.Index.{Place, Indexed, place_at, without, leading, same_place, is_at, leading_into, without_all, region_in}
use Rattle.hc_engines.specs.large.Sound.{IsRising, is_listed}
use Rattle.hc_engines.specs.large.Numbers.{is_in, minus}

pub same_num : (n : ℕ) → (n == n) ≡ true
same_num n = grind arith

-- ---- the index

pub place_at-without : (x h : ℕ) (index : List Indexed) → place_at h (without x index) ≡ (if h == x then None else place_at h index)
place_at-without x h [] = grind arith
place_at-without x h (e ∷ es) = grind (arith, place_at-without x h es)

pub place_at-leading : (x h : ℕ) (p : Place) (index : List Indexed) → place_at h (leading x p index) ≡ (if h == x then Some p else place_at h index)
place_at-leading x h p [] = grind arith
place_at-leading x h p (e ∷ es) = grind (arith, place_at-leading x h p es, eqb-true e.hash x, ltb-true e.hash x)

pub place_itself : (p : Place) → same_place p p ≡ true
place_itself p = grind (arith, same_num p.region, same_num p.offset, same_num p.length)

-- ---- regions

pub in_range : (regions : List Region) (r : ℕ) → is_clean (region_at r regions).status ≡ false → r < length regions
in_range [] r h = absurd (cc)
in_range (x ∷ xs) zero h = omega arith
in_range (x ∷ xs) (suc r) h = omega (arith, in_range xs r h)

pub region_at-set : (regions : List Region) (r q : ℕ) (x : Region) → r < length regions → region_at q (set regions r x) ≡ (if q == r then x else region_at q regions)
region_at-set [] r q x h = absurd (omega arith)
region_at-set (e ∷ es) zero zero x h = refl
region_at-set (e ∷ es) zero (suc q) x h = grind arith
region_at-set (e ∷ es) (suc r) zero x h = grind arith
region_at-set (e ∷ es) (suc r) (suc q) x h = region_at-set es r q x (omega arith) ∙ grind arith

-- what holds of each region holds after a change of one
pub each-set : (P : ℕ → Region → Type 0) (regions : List Region) (r : ℕ) (x : Region) → r < length regions → P r x → ((q : ℕ) → (q == r) ≡ false → P q (region_at q regions)) → (q : ℕ) → P q (region_at q (set regions r x))
each-set P regions r x h new old q = rw (region_at-set regions r q x h) (go (q == r) refl)
  where
    go : (t : Bool) → (q == r) ≡ t → P q (if t then x else region_at q regions)
    go true t = let e : q ≡ r = eqb-true q r t in rw e new
    go false t = old q t

-- ---- lists of numbers

pub is_in-minus : (x r : ℕ) (rs : List ℕ) → is_in x (minus r rs) ≡ (if x == r then false else is_in x rs)
is_in-minus x r [] = grind arith
is_in-minus x r (y ∷ ys) = grind (arith, is_in-minus x r ys)

pub is_in-push : (x r : ℕ) (rs : List ℕ) → is_in x (rs ++ r ∷ []) ≡ (if x == r then true else is_in x rs)
is_in-push x r [] = grind arith
is_in-push x r (y ∷ ys) = grind (arith, is_in-push x r ys)

pub minus_none : (r : ℕ) (rs : List ℕ) → is_in r rs ≡ false → minus r rs ≡ rs
minus_none r [] h = refl
minus_none r (y ∷ ys) h = grind (arith, minus_none r ys)

-- ---- what leads into a region goes

pub is_at-true : (o : Option Place) (r offset : ℕ) → is_at o r offset ≡ true → region_in o ≡ Some r
is_at-true None r offset h = absurd (cc)
is_at-true (Some p) r offset h = grind (arith, eqb-true p.region r)

-- one that was taken leads nowhere after more are taken
pub stays_gone : (h : ℕ) (hashes : List ℕ) (index : List Indexed) → place_at h index ≡ None → place_at h (without_all hashes index) ≡ None
stays_gone h [] index e = e
stays_gone h (x ∷ xs) index e = stays_gone h xs (without x index) (place_at-without x h index ∙ grind arith)

-- what leads elsewhere stays
apart : (h x r : ℕ) (index : List Indexed) (p : Place) → place_at h index ≡ Some p → (p.region == r) ≡ false → region_in (place_at x index) ≡ Some r → place_at h (without x index) ≡ Some p
apart h x r index p e n there = place_at-without x h index ∙ go (h == x) refl
  where
    go : (u : Bool) → (h == x) ≡ u → (if u then None else place_at h index) ≡ Some p
    go false u = e
    go true u =
        let same : h ≡ x = eqb-true h x u in
        let at : region_in (place_at h index) ≡ Some r = (rw same there) in
        let at2 : p.region ≡ r = cc in
        absurd (grind (arith, same_num r))

pub elsewhere_stays : (r h : ℕ) (xs : List Appended) (index : List Indexed) (p : Place) → place_at h index ≡ Some p → (p.region == r) ≡ false → place_at h (without_all (leading_into r xs index) index) ≡ Some p
elsewhere_stays r h [] index p e n = e
elsewhere_stays r h (x ∷ xs) index p e n = go (is_at (place_at x.hash index) r x.offset) refl (λ f. elsewhere_stays r h xs (without x.hash index) p f n) (elsewhere_stays r h xs index p e n)
  where
    go : (t : Bool) → is_at (place_at x.hash index) r x.offset ≡ t
        → (place_at h (without x.hash index) ≡ Some p → place_at h (without_all (leading_into r xs (without x.hash index)) (without x.hash index)) ≡ Some p)
        → place_at h (without_all (leading_into r xs index) index) ≡ Some p
        → place_at h (without_all (if t then x.hash ∷ leading_into r xs (without x.hash index) else leading_into r xs index) index) ≡ Some p
    go true t more less = more (apart h x.hash r index p e n (is_at-true (place_at x.hash index) r x.offset t))
    go false t more less = less

-- what leads into the region, and is listed there, goes
listed_behind : (h r : ℕ) (x : Appended) (b : Bool) (index : List Indexed) (p : Place) → place_at h index ≡ Some p → p.region ≡ r → is_at (place_at x.hash index) r x.offset ≡ false
    → (u : Bool) → (x.hash == h) ≡ u → (v : Bool) → (x.offset == p.offset) ≡ v → (if u && v then true else b) ≡ true → b ≡ true
listed_behind h r x b index p e s off true u true v l =
    let same : x.hash ≡ h = eqb-true x.hash h u in
    let near : x.offset ≡ p.offset = eqb-true x.offset p.offset v in
    let at : is_at (place_at x.hash index) r x.offset ≡ true = rw (same, e, s, near) (grind (arith, same_num r, same_num p.offset)) in
    absurd (cc)
listed_behind h r x b index p e s off true u false v l = l
listed_behind h r x b index p e s off false u v q l = l

pub listed_goes : (r h : ℕ) (xs : List Appended) (index : List Indexed) (p : Place) → place_at h index ≡ Some p → p.region ≡ r → is_listed h p.offset xs ≡ true → place_at h (without_all (leading_into r xs index) index) ≡ None
listed_goes r h [] index p e s l = absurd (cc)
listed_goes r h (x ∷ xs) index p e s l = go (is_at (place_at x.hash index) r x.offset) refl (λ f m. listed_goes r h xs (without x.hash index) p f s m) (λ m. listed_goes r h xs index p e s m)
  where
    other : (u : Bool) → (h == x.hash) ≡ u
        → (place_at h (without x.hash index) ≡ Some p → is_listed h p.offset xs ≡ true → place_at h (without_all (leading_into r xs (without x.hash index)) (without x.hash index)) ≡ None)
        → place_at h (without_all (leading_into r xs (without x.hash index)) (without x.hash index)) ≡ None
    other true u more = stays_gone h (leading_into r xs (without x.hash index)) (without x.hash index) (place_at-without x.hash h index ∙ rw u refl)
    other false u more = more (place_at-without x.hash h index ∙ (rw u e)) (grind (arith, l, u))

    go : (t : Bool) → is_at (place_at x.hash index) r x.offset ≡ t
        → (place_at h (without x.hash index) ≡ Some p → is_listed h p.offset xs ≡ true → place_at h (without_all (leading_into r xs (without x.hash index)) (without x.hash index)) ≡ None)
        → (is_listed h p.offset xs ≡ true → place_at h (without_all (leading_into r xs index) index) ≡ None)
        → place_at h (without_all (if t then x.hash ∷ leading_into r xs (without x.hash index) else leading_into r xs index) index) ≡ None
    go true t more less = other (h == x.hash) refl more
    go false t more less = less (listed_behind h r x (is_listed h p.offset xs) index p e s t (x.hash == h) refl (x.offset == p.offset) refl l)

-- ---- offsets rise

pub rising_further : (from to more : ℕ) (xs : List Appended) → to ≤ more → IsRising from xs to → IsRising from xs more
rising_further from to more [] h r = omega arith
rising_further from to more (x ∷ xs) h r = (r.0, rising_further (x.offset + 1) to more xs h r.1)

pub rising_push : (from to more hash : ℕ) (xs : List Appended) → to < more → IsRising from xs to → IsRising from (xs ++ record { hash = hash; offset = to } ∷ []) more
rising_push from to more hash [] h r = (r, omega arith)
rising_push from to more hash (x ∷ xs) h r = (r.0, rising_push (x.offset + 1) to more hash xs h r.1)
