-- What was appended is found by its offset, for the offsets rise.
use Rattle.std.proofs.Common.{◌≡◌, ℕ, zero, suc, ◌+◌, ◌<◌, ◌≤◌, ◌==◌, nat_lt, Bool, true, false, ◌&&◌, List, [], ◌∷◌, length, get_or, refl, sym, ap, subst, arith, ◌∙◌}
use Rattle.std.specs.Prelude.{if◌then◌else◌}
use Rattle.std.specs.List.Sorted.{IsNonDecreasingBy}
use Rattle.std.proofs.lemmas.Bool.{and_from, lt-ltb, ltb-true}
use Rattle.hc_engines.specs.large.Region.{Appended, Region, clean_region, region_at}
use Rattle.hc_engines.specs.large.Sound.{is_listed, IsRising}

less_differs : (a b : ℕ) → a < b → (a == b) ≡ false
less_differs a b lt = grind (arith, lt)

more_differs : (a b : ℕ) → b < a → (a == b) ≡ false
more_differs a b lt = grind (arith, lt)

skips : (a b c : Bool) → b ≡ false → (if a && b then true else c) ≡ c
skips true b c e = ap (λ (t : Bool). if t then true else c) e
skips false b c e = refl

ends : (t c : Bool) → c ≡ false → (if t then true else c) ≡ t
ends true c e = refl
ends false c e = e

-- nothing is listed in front of where they begin
none_below : (from to : ℕ) (xs : List Appended) (hash offset : ℕ) → IsRising from xs to → offset < from → is_listed hash offset xs ≡ false
none_below from to [] hash offset r lt = refl
none_below from to (x ∷ xs) hash offset r lt =
    skips (x.hash == hash) (x.offset == offset) (is_listed hash offset xs) (more_differs x.offset offset (omega (arith, r.0, lt))) ∙ none_below (x.offset + 1) to xs hash offset r.1 (omega (arith, r.0, lt))

-- nothing is listed where all are in front of it
pub none_before : (xs : List Appended) (hash offset : ℕ) → ((k : ℕ) (d : Appended) → k < length xs → (get_or xs k d).offset < offset) → is_listed hash offset xs ≡ false
none_before [] hash offset h = refl
none_before (x ∷ xs) hash offset h =
    skips (x.hash == hash) (x.offset == offset) (is_listed hash offset xs) (less_differs x.offset offset (h 0 x (omega arith))) ∙ none_before xs hash offset (λ k d lt. h (suc k) d (omega (arith, lt)))

-- the first that isn't in front of it is the one that is listed, or none is
pub one_listed : (from to : ℕ) (xs : List Appended) (i : ℕ) (x : Appended) (hash offset : ℕ) → IsRising from xs to → i < length xs → x ≡ get_or xs i x → ((k : ℕ) (d : Appended) → k < i → (get_or xs k d).offset < offset) → offset ≤ x.offset
    → is_listed hash offset xs ≡ ((x.hash == hash) && (x.offset == offset))
one_listed from to [] i x hash offset r lt is before at = absurd (omega arith)
one_listed from to (y ∷ ys) zero x hash offset r lt is before at =
    let le : offset ≤ y.offset = subst (λ (z : Appended). offset ≤ z.offset) is at in
    let none : is_listed hash offset ys ≡ false = none_below (y.offset + 1) to ys hash offset r.1 (omega (arith, le)) in
    subst (λ (z : Appended). is_listed hash offset (y ∷ ys) ≡ ((z.hash == hash) && (z.offset == offset))) (sym is) (ends ((y.hash == hash) && (y.offset == offset)) (is_listed hash offset ys) none)
one_listed from to (y ∷ ys) (suc i) x hash offset r lt is before at =
    skips (y.hash == hash) (y.offset == offset) (is_listed hash offset ys) (less_differs y.offset offset (before 0 y (omega arith)))
    ∙ one_listed (y.offset + 1) to ys i x hash offset r.1 (omega (arith, lt)) is (λ k d l. before (suc k) d (omega (arith, l))) at

-- the offsets don't fall
behind_from : (from to : ℕ) (xs : List Appended) (i : ℕ) (d : Appended) → IsRising from xs to → i < length xs → from ≤ (get_or xs i d).offset
behind_from from to [] i d r lt = absurd (omega arith)
behind_from from to (x ∷ xs) zero d r lt = r.0
behind_from from to (x ∷ xs) (suc i) d r lt = let le = behind_from (x.offset + 1) to xs i d r.1 (omega (arith, lt)) in omega (arith, le, r.0)

in_order : (from to : ℕ) (xs : List Appended) (i j : ℕ) (d : Appended) → IsRising from xs to → i ≤ j → j < length xs → (get_or xs i d).offset ≤ (get_or xs j d).offset
in_order from to [] i j d r le lt = absurd (omega arith)
in_order from to (x ∷ xs) zero zero d r le lt = omega arith
in_order from to (x ∷ xs) zero (suc j) d r le lt = let more = behind_from (x.offset + 1) to xs j d r.1 (omega (arith, lt)) in omega (arith, more)
in_order from to (x ∷ xs) (suc i) zero d r le lt = absurd (omega (arith, le))
in_order from to (x ∷ xs) (suc i) (suc j) d r le lt = in_order (x.offset + 1) to xs i j d r.1 (omega (arith, le)) (omega (arith, lt))

pub offsets_rise : (from to : ℕ) (xs : List Appended) → IsRising from xs to → IsNonDecreasingBy (λ (x : Appended). x.offset) xs
offsets_rise from to xs r = λ i j d le lt. in_order from to xs i j d r le lt

-- a region that isn't there
pub past : (regions : List Region) (r : ℕ) → length regions ≤ r → region_at r regions ≡ clean_region
past [] r le = refl
past (x ∷ xs) zero le = absurd (omega (arith, le))
past (x ∷ xs) (suc r) le = past xs r (omega (arith, le))

pub none_past : (regions : List Region) (r hash offset : ℕ) → length regions ≤ r → is_listed hash offset (region_at r regions).appended ≡ false
none_past regions r hash offset le = ap (λ (x : Region). is_listed hash offset x.appended) (past regions r le)

-- where an entry is listed there is a region
pub listed_there : (regions : List Region) (r hash offset : ℕ) → is_listed hash offset (region_at r regions).appended ≡ true → r < length regions
listed_there [] r hash offset h = absurd (cc)
listed_there (x ∷ xs) zero hash offset h = omega arith
listed_there (x ∷ xs) (suc r) hash offset h = let lt = listed_there xs r hash offset h in omega (arith, lt)

-- ---- three tests, one after the other

pub off_first : (l m n : Bool) → l ≡ false → false ≡ (l && (m && n))
off_first true m n e = absurd (cc)
off_first false m n e = refl

pub off_second : (l m n : Bool) → m ≡ false → false ≡ (l && (m && n))
off_second true true n e = absurd (cc)
off_second true false n e = refl
off_second false m n e = refl

pub all_on : (l m n x : Bool) → l ≡ true → m ≡ true → x ≡ n → x ≡ (l && (m && n))
all_on true true n x e f h = h
all_on true false n x e f h = absurd (cc)
all_on false m n x e f h = absurd (cc)

-- ---- a number, where the region is there, stands so, and isn't marked

pub not_there : (r n : ℕ) (stands free : Bool) → n ≤ r → false ≡ ((nat_lt r n && stands) && free)
not_there r n stands free le = go (nat_lt r n) refl
  where
    go : (t : Bool) → nat_lt r n ≡ t → false ≡ ((t && stands) && free)
    go true t = absurd (let lt = ltb-true r n t in omega (arith, lt, le))
    go false t = refl

pub not_so : (there stands free : Bool) → stands ≡ false → false ≡ ((there && stands) && free)
not_so true true free e = absurd (cc)
not_so true false free e = refl
not_so false stands free e = refl

pub not_free : (of free : Bool) → free ≡ false → false ≡ (of && free)
not_free true true e = absurd (cc)
not_free true false e = refl
not_free false free e = refl

pub is_free : (r n : ℕ) (stands free : Bool) → r < n → stands ≡ true → free ≡ true → true ≡ ((nat_lt r n && stands) && free)
is_free r n true true lt e f = sym (and_from (nat_lt r n && true) true (and_from (nat_lt r n) true (lt-ltb r n lt) refl) refl)
is_free r n true false lt e f = absurd (cc)
is_free r n false free lt e f = absurd (cc)
