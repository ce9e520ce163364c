-- What `find` answers is the first that passes.
use Rattle.std.proofs.Common.{◌≡◌, Bool, true, false, ◌||◌, List, [], ◌∷◌, ◌++◌, Some, None, refl, ap, ◌∙◌, subst, find}
use Rattle.std.specs.Prelude.{if◌then◌else◌}
use Rattle.std.specs.List.{list_any}
use Rattle.hc_laws.specs.First.{NonePasses, IsFirst}

pub none_found : {X : Type 0} (test : X → Bool) (xs : List X) → NonePasses test xs → find test xs ≡ None
none_found test [] h = refl
none_found test (x ∷ xs) h = step (test x) h (none_found test xs)
  where
    step : (t : Bool) → (t || list_any test xs) ≡ false → (list_any test xs ≡ false → find test xs ≡ None) → (if t then Some x else find test xs) ≡ None
    step true e rest = absurd cc
    step false e rest = rest e

pub none_passes : {X : Type 0} (test : X → Bool) (xs : List X) → find test xs ≡ None → NonePasses test xs
none_passes test [] h = refl
none_passes test (x ∷ xs) h = step (test x) h (none_passes test xs)
  where
    step : (t : Bool) → (if t then Some x else find test xs) ≡ None → (find test xs ≡ None → list_any test xs ≡ false) → (t || list_any test xs) ≡ false
    step true e rest = absurd cc
    step false e rest = rest e

found_behind : {X : Type 0} (test : X → Bool) (before behind : List X) (x : X) → test x ≡ true → NonePasses test before → find test (before ++ x ∷ behind) ≡ Some x
found_behind test [] behind x e h = step (test x) e
  where
    step : (t : Bool) → t ≡ true → (if t then Some x else find test behind) ≡ Some x
    step true e = refl
    step false e = absurd cc
found_behind test (y ∷ before) behind x e h = step (test y) h (found_behind test before behind x e)
  where
    step : (t : Bool) → (t || list_any test before) ≡ false → (list_any test before ≡ false → find test (before ++ x ∷ behind) ≡ Some x) → (if t then Some y else find test (before ++ x ∷ behind)) ≡ Some x
    step true h rest = absurd cc
    step false h rest = rest h

pub first_found : {X : Type 0} (test : X → Bool) (xs : List X) (x : X) → IsFirst test xs x → find test xs ≡ Some x
first_found test xs x f = ap (find test) f.stands ∙ found_behind test f.before f.behind x f.passes f.none_before

-- one more stands before them, which doesn't pass
later : {X : Type 0} (test : X → Bool) (y : X) (xs : List X) (x : X) → test y ≡ false → IsFirst test xs x → IsFirst test (y ∷ xs) x
later test y xs x e f = record { before = y ∷ f.before; behind = f.behind; stands = ap (λ (l : List _). y ∷ l) f.stands; passes = f.passes; none_before = rw e f.none_before }

pub found_first : {X : Type 0} (test : X → Bool) (xs : List X) (x : X) → find test xs ≡ Some x → IsFirst test xs x
found_first test [] x h = absurd cc
found_first test (y ∷ xs) x h = step (test y) refl h (found_first test xs x)
  where
    step : (t : Bool) → test y ≡ t → (if t then Some y else find test xs) ≡ Some x → (find test xs ≡ Some x → IsFirst test xs x) → IsFirst test (y ∷ xs) x
    step true e h rest = let same : y ≡ x = cc in subst (λ z. IsFirst test (y ∷ xs) z) same (record { before = []; behind = xs; stands = refl; passes = e; none_before = refl })
    step false e h rest = later test y xs x e (rest h)
