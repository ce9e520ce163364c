-- Lists of which one element goes, or comes last.
use Rattle.std.proofs.Common.{◌≡◌, ℕ, ◌+◌, ◌≤◌, Bool, true, false, ◌||◌, List, [], ◌∷◌, ◌++◌, reverse, filter, find, Option, Some, None, refl, sym, ap, arith, ◌∙◌}
use Rattle.std.specs.Prelude.{if◌then◌else◌, find}
use Rattle.std.specs.List.{list_any}
use Rattle.std.proofs.lemmas.Grind.{reverse_onto}
use Rattle.std.proofs.lemmas.List.{append-nil}
use Rattle.std.proofs.lemmas.List.Elements.{filter-append}
use Rattle.hc_types.specs.Tally.{count}
use Rattle.hc_invariant.specs.Standing.{first_of}

-- ---- found

pub first-none : {X : Type 0} (o : Option X) → first_of o None ≡ o
first-none None = refl
first-none (Some x) = refl

pub find-push : {X : Type 0} (p : X → Bool) (xs : List X) (x : X) → find p (xs ++ x ∷ []) ≡ first_of (find p xs) (if p x then Some x else None)
find-push p [] x = refl
find-push p (y ∷ xs) x = step (p y) (find-push p xs x)
  where
    step : (b : Bool) → find p (xs ++ x ∷ []) ≡ first_of (find p xs) (if p x then Some x else None) → (if b then Some y else find p (xs ++ x ∷ [])) ≡ first_of (if b then Some y else find p xs) (if p x then Some x else None)
    step true h = refl
    step false h = h

-- and is counted
pub found-counts : {X : Type 0} (p q : X → Bool) (xs : List X) (x : X) → find p xs ≡ Some x → q x ≡ true → 1 ≤ count q xs
found-counts p q [] x e h = absurd cc
found-counts p q (y ∷ xs) x e h = step (p y) (found-counts p q xs x) e
  where
    step : (b : Bool) → (find p xs ≡ Some x → q x ≡ true → 1 ≤ count q xs) → (if b then Some y else find p xs) ≡ Some x → 1 ≤ count q (y ∷ xs)
    step true more e = let same : y ≡ x = cc in let here : ◌≡◌ {A = ℕ} (if q y then 1 else 0) 1 = (rw (same, h) refl) in omega (arith, here)
    step false more e = omega (arith, more e h)

-- the only one that passes another test is found by it
pub found-only : {X : Type 0} (p q : X → Bool) (xs : List X) (x : X) → find p xs ≡ Some x → q x ≡ true → count q xs ≤ 1 → find q xs ≡ Some x
found-only p q [] x e h one = absurd cc
found-only p q (y ∷ xs) x e h one = step (p y) (q y) refl (found-only p q xs x) e one
  where
    step : (b c : Bool) → q y ≡ c → (find p xs ≡ Some x → q x ≡ true → count q xs ≤ 1 → find q xs ≡ Some x) → (if b then Some y else find p xs) ≡ Some x → (if c then 1 else 0) + count q xs ≤ 1 → (if c then Some y else find q xs) ≡ Some x
    step true true t more e one = e
    step true false t more e one = let same : y ≡ x = cc in let here : q y ≡ true = (rw same h) in absurd cc
    step false true t more e one = absurd (omega (arith, found-counts p q xs x e h))
    step false false t more e one = more e h (omega (arith, one))

pub any-counts : {X : Type 0} (p : X → Bool) (xs : List X) → list_any p xs ≡ false → count p xs ≡ 0
any-counts p [] e = refl
any-counts p (y ∷ xs) e = step (p y) (any-counts p xs) e
  where
    step : (b : Bool) → (list_any p xs ≡ false → count p xs ≡ 0) → (b || list_any p xs) ≡ false → (if b then 1 else 0) + count p xs ≡ 0
    step true more e = absurd cc
    step false more e = omega (arith, more e)

-- ---- filtered

pub fewer : {X : Type 0} (p q : X → Bool) (xs : List X) → count q (filter p xs) ≤ count q xs
fewer p q [] = omega arith
fewer p q (x ∷ xs) = step (p x) (fewer p q xs)
  where
    step : (b : Bool) → count q (filter p xs) ≤ count q xs → count q (if b then x ∷ filter p xs else filter p xs) ≤ (if q x then 1 else 0) + count q xs
    step true h = omega (arith, h)
    step false h = omega (arith, h)

pub none-gone : {X : Type 0} (xs : List X) → filter (λ x. true) xs ≡ xs
none-gone [] = refl
none-gone (x ∷ xs) = ap (λ rest. x ∷ rest) (none-gone xs)

pub filter-reverse : {X : Type 0} (p : X → Bool) (xs : List X) → filter p (reverse xs) ≡ reverse (filter p xs)
filter-reverse p [] = refl
filter-reverse p (x ∷ xs) =
    ap (filter p) (reverse_onto xs x []) ∙ filter-append p (reverse xs) (x ∷ []) ∙ ap (λ front. front ++ filter p (x ∷ [])) (filter-reverse p xs) ∙ step (p x)
  where
    step : (b : Bool) → reverse (filter p xs) ++ (if b then x ∷ [] else []) ≡ reverse (if b then x ∷ filter p xs else filter p xs)
    step true = sym (reverse_onto (filter p xs) x [])
    step false = append-nil (reverse (filter p xs))

-- ---- one more at the end

pub any-push : {X : Type 0} (p : X → Bool) (xs : List X) (x : X) → list_any p (xs ++ x ∷ []) ≡ (list_any p xs || p x)
any-push p [] x = turned (p x)
  where
    turned : (b : Bool) → (b || false) ≡ (false || b)
    turned true = refl
    turned false = refl
any-push p (y ∷ xs) x = step (p y) (any-push p xs x)
  where
    step : (b : Bool) → list_any p (xs ++ x ∷ []) ≡ (list_any p xs || p x) → (b || list_any p (xs ++ x ∷ [])) ≡ ((b || list_any p xs) || p x)
    step true h = refl
    step false h = h

pub or_false : (a b : Bool) → (a || b) ≡ false → (a ≡ false) × (b ≡ false)
or_false true b h = absurd cc
or_false false b h = (refl, h)
