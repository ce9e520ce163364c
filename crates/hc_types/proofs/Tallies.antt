-- Sums over lists.
use Rattle.std.proofs.Common.{◌≡◌, ℕ, zero, suc, ◌+◌, ◌≤◌, ◌++◌, Bool, true, false, List, [], ◌∷◌, Option, Some, None, refl, ap, arith, map, drop, slice_get, slice_set}
use Rattle.std.specs.Prelude.{filter, find}
use mathlib.Core.Bool.{cond}
use Rattle.hc_types.specs.Tally.{tally, count}

pub tally-ext : {X : Type 0} (f g : X → ℕ) → ((x : X) → f x ≡ g x) → (xs : List X) → tally f xs ≡ tally g xs
tally-ext f g h [] = refl
tally-ext f g h (x ∷ xs) = omega (arith, h x, tally-ext f g h xs)

pub tally-mono : {X : Type 0} (f g : X → ℕ) → ((x : X) → f x ≤ g x) → (xs : List X) → tally f xs ≤ tally g xs
tally-mono f g h [] = omega arith
tally-mono f g h (x ∷ xs) = omega (arith, h x, tally-mono f g h xs)

filter_step : {X : Type 0} (f : X → ℕ) (p : X → Bool) (x : X) (xs : List X) (b : Bool) → tally f (filter p xs) ≡ tally (λ x. cond (p x) (f x) 0) xs → tally f (cond b (x ∷ filter p xs) (filter p xs)) ≡ cond b (f x) 0 + tally (λ x. cond (p x) (f x) 0) xs
filter_step f p x xs true h = omega (arith, h)
filter_step f p x xs false h = omega (arith, h)

pub tally-filter : {X : Type 0} (f : X → ℕ) (p : X → Bool) (xs : List X) → tally f (filter p xs) ≡ tally (λ x. cond (p x) (f x) 0) xs
tally-filter f p [] = refl
tally-filter f p (x ∷ xs) = filter_step f p x xs (p x) (tally-filter f p xs)

pub tally-map : {X Y : Type 0} (f : Y → ℕ) (g : X → Y) (xs : List X) → tally f (map g xs) ≡ tally (λ x. f (g x)) xs
tally-map f g [] = refl
tally-map f g (x ∷ xs) = omega (arith, tally-map f g xs)

pub tally-push : {X : Type 0} (f : X → ℕ) (xs : List X) (x : X) → tally f (xs ++ x ∷ []) ≡ tally f xs + f x
tally-push f [] x = omega arith
tally-push f (y ∷ xs) x = omega (arith, tally-push f xs x)

pub tally-append : {X : Type 0} (f : X → ℕ) (xs ys : List X) → tally f (xs ++ ys) ≡ tally f xs + tally f ys
tally-append f [] ys = omega arith
tally-append f (x ∷ xs) ys = omega (arith, tally-append f xs ys)

-- what is left after some are dropped sums up to no more
pub tally-drop : {X : Type 0} (f : X → ℕ) (n : ℕ) (xs : List X) → tally f (drop n xs) ≤ tally f xs
tally-drop f zero xs = omega arith
tally-drop f (suc n) [] = omega arith
tally-drop f (suc n) (x ∷ xs) = omega (arith, tally-drop f n xs)

-- one element takes the place of another
pub tally-set : {X : Type 0} (f : X → ℕ) (xs : List X) (i : ℕ) (x y : X) → slice_get xs i ≡ Some x → tally f (slice_set xs i y) + f x ≡ tally f xs + f y
tally-set f [] i x y h = absurd cc
tally-set f (z ∷ xs) zero x y h = let same : z ≡ x = cc in omega (arith, ap f same)
tally-set f (z ∷ xs) (suc i) x y h = omega (arith, tally-set f xs i x y h)

-- no element is more than the sum
pub tally-get : {X : Type 0} (f : X → ℕ) (xs : List X) (i : ℕ) (x : X) → slice_get xs i ≡ Some x → f x ≤ tally f xs
tally-get f [] i x h = absurd cc
tally-get f (z ∷ xs) zero x h = let same : z ≡ x = cc in omega (arith, ap f same)
tally-get f (z ∷ xs) (suc i) x h = omega (arith, tally-get f xs i x h)

-- two sums agree where none passes the test, and the terms agree at all others
where_step : {X : Type 0} (f g : X → ℕ) (x : X) (xs : List X) (b : Bool) (n : ℕ) → (b ≡ false → f x ≡ g x) → tally f xs ≡ tally g xs → cond b 1 0 + n ≡ 0 → f x + tally f xs ≡ g x + tally g xs
where_step f g x xs true n h e none = absurd (omega arith)
where_step f g x xs false n h e none = omega (arith, h refl, e)

pub tally-where : {X : Type 0} (p : X → Bool) (f g : X → ℕ) → ((x : X) → p x ≡ false → f x ≡ g x) → (xs : List X) → count p xs ≡ 0 → tally f xs ≡ tally g xs
tally-where p f g h [] none = refl
tally-where p f g h (x ∷ xs) none = where_step f g x xs (p x) (count p xs) (h x) (tally-where p f g h xs (omega arith)) none

-- nothing is found that isn't counted
none_step : {X : Type 0} (p : X → Bool) (x : X) (o : Option X) (n : ℕ) (b : Bool) → (n ≡ 0 → o ≡ None) → cond b 1 0 + n ≡ 0 → cond b (Some x) o ≡ None
none_step p x o n true h z = absurd (omega arith)
none_step p x o n false h z = h (omega arith)

pub find-none : {X : Type 0} (p : X → Bool) (xs : List X) → count p xs ≡ 0 → find p xs ≡ None
find-none p [] z = refl
find-none p (x ∷ xs) z = none_step p x (find p xs) (count p xs) (p x) (find-none p xs) z
