-- Lists that are seen through a function.
use Rattle.std.proofs.Common.{◌≡◌, Bool, true, false, List, [], ◌∷◌, Option, Some, None, refl, ap, ◌||◌, drop}
use Rattle.std.specs.List.{filter, find, list_any}
use Rattle.std.specs.Prelude.{map, is_some, option_map}

pub find-map : {X Y : Type 0} (f : X → Y) (test : Y → Bool) (xs : List X) → find test (map f xs) ≡ option_map f (find (λ x. test (f x)) xs)
find-map f test [] = refl
find-map {X} {Y} f test (x ∷ xs) = by_test (test (f x)) refl (find-map f test xs)
  where
    by_test : (b : Bool) → test (f x) ≡ b → find test (map f xs) ≡ option_map f (find (λ x. test (f x)) xs) → find test (map f (x ∷ xs)) ≡ option_map f (find (λ x. test (f x)) (x ∷ xs))
    by_test true t more = rw t refl
    by_test false t more = rw t more

pub filter-map : {X Y : Type 0} (f : X → Y) (test : Y → Bool) (xs : List X) → filter test (map f xs) ≡ map f (filter (λ x. test (f x)) xs)
filter-map f test [] = refl
filter-map {X} {Y} f test (x ∷ xs) = by_test (test (f x)) refl (filter-map f test xs)
  where
    by_test : (b : Bool) → test (f x) ≡ b → filter test (map f xs) ≡ map f (filter (λ x. test (f x)) xs) → filter test (map f (x ∷ xs)) ≡ map f (filter (λ x. test (f x)) (x ∷ xs))
    by_test true t more = rw t (ap (λ ys. f x ∷ ys) more)
    by_test false t more = rw t more

pub is_some-map : {X Y : Type 0} (f : X → Y) (o : Option X) → is_some (option_map f o) ≡ is_some o
is_some-map f None = refl
is_some-map f (Some x) = refl

pub unmapped : {X Y : Type 0} (f : X → Y) (o : Option X) → option_map f o ≡ None → o ≡ None
unmapped f None e = refl
unmapped f (Some x) e = absurd (cc)

pub any-map : {X Y : Type 0} (f : X → Y) (test : Y → Bool) (xs : List X) → is_some (find (λ x. test (f x)) xs) ≡ list_any test (map f xs)
any-map f test [] = refl
any-map {X} {Y} f test (x ∷ xs) = by_test (test (f x)) refl (any-map f test xs)
  where
    by_test : (b : Bool) → test (f x) ≡ b → is_some (find (λ x. test (f x)) xs) ≡ list_any test (map f xs) → is_some (find (λ x. test (f x)) (x ∷ xs)) ≡ list_any test (map f (x ∷ xs))
    by_test true t more = rw t refl
    by_test false t more = rw t more

-- two maps that are the same at each element
pub map-same : {X Y : Type 0} (f g : X → Y) → ((x : X) → f x ≡ g x) → (xs : List X) → map f xs ≡ map g xs
map-same f g same [] = refl
map-same f g same (x ∷ xs) = λ i. same x i ∷ map-same f g same xs i

pub map-map : {X Y Z : Type 0} (f : Y → Z) (g : X → Y) (xs : List X) → map f (map g xs) ≡ map (λ x. f (g x)) xs
map-map f g [] = refl
map-map f g (x ∷ xs) = ap (λ zs. f (g x) ∷ zs) (map-map f g xs)

pub list_any-map : {X Y : Type 0} (f : X → Y) (test : Y → Bool) (xs : List X) → list_any test (map f xs) ≡ list_any (λ x. test (f x)) xs
list_any-map f test [] = refl
list_any-map f test (x ∷ xs) = ap (λ (b : Bool). test (f x) || b) (list_any-map f test xs)

pub but-first-map : {X Y : Type 0} (f : X → Y) (xs : List X) → map f (drop 1 xs) ≡ drop 1 (map f xs)
but-first-map f [] = refl
but-first-map f (x ∷ xs) = refl
