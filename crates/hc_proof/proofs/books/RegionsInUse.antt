-- Which regions are in use, and which were flushed, in what order.
use Rattle.std.proofs.Common.{◌≡◌, ℕ, zero, suc, ◌+◌, ◌<◌, ◌≤◌, ◌==◌, ◌||◌, Bool, true, false, not, List, [], ◌∷◌, ◌++◌, length, set, filter, reverse, refl, sym, ap, arith, ◌∙◌, append-nil}
use Rattle.std.specs.Prelude.{if◌then◌else◌}
use Rattle.std.proofs.lemmas.Bool.{eqb-true}
use Rattle.std.proofs.lemmas.Grind.{reverse_onto}
use Rattle.hc_types.specs.Tally.{count}
use Rattle.hc_engines.specs.large.Region.{is_clean, Region, region_at}
use Rattle.hc_engines.specs.large.Steps.{clean_count}
use Rattle.hc_engines.specs.large.Numbers.{how_many, is_in, is_before, minus}
use Rattle.hc_history.specs.Regions.{is_one_of, behind}
use Rattle.hc_engines.proofs.large.Regions.{how_many-front}

-- ---- how many regions aren't clean

abbrev pub is_used : Region → Bool
is_used region = not (is_clean region.status)

abbrev pub used_count : List Region → ℕ
used_count regions = count (λ (region : Region). not (is_clean region.status)) regions

abbrev pub one_if : Bool → ℕ
one_if b = if b then 1 else 0

pub used-set : (regions : List Region) (r : ℕ) (x : Region) → r < length regions → used_count (set regions r x) + one_if (is_used (region_at r regions)) ≡ used_count regions + one_if (is_used x)
used-set [] r x h = absurd (omega arith)
used-set (e ∷ es) zero x h = omega arith
used-set (e ∷ es) (suc r) x h = let more = used-set es r x (omega arith) in omega (arith, more)

pub used-clean : (regions : List Region) → used_count regions + clean_count regions ≡ length regions
used-clean [] = refl
used-clean (x ∷ xs) = go (is_clean x.status) (used-clean xs)
  where
    go : (b : Bool) → used_count xs + clean_count xs ≡ length xs → (one_if (not b) + used_count xs) + (one_if b + clean_count xs) ≡ suc (length xs)
    go true e = omega (arith, e)
    go false e = omega (arith, e)

used_as_counted : (f : ℕ → Bool) (regions : List Region) → ((r : ℕ) → f r ≡ not (is_clean (region_at r regions).status)) → how_many f (length regions) ≡ used_count regions
used_as_counted f [] h = refl
used_as_counted f (x ∷ xs) h =
    how_many-front f (length xs) ∙ (let first : f 0 ≡ not (is_clean x.status) = h 0 in rw first (let more = used_as_counted (λ i. f (suc i)) xs (λ r. h (suc r)) in omega (arith, more)))

abbrev pub less : ℕ → List ℕ → List ℕ
less r xs = filter (λ other. not (other == r)) xs

pub one-less : (x r : ℕ) (xs : List ℕ) → is_one_of x (less r xs) ≡ (if x == r then false else is_one_of x xs)
one-less x r [] = grind arith
one-less x r (y ∷ ys) = grind (arith, one-less x r ys)

less-short : (r : ℕ) (xs : List ℕ) → length (less r xs) ≤ length xs
less-short r [] = omega arith
less-short r (y ∷ ys) = go (y == r) (less-short r ys)
  where
    go : (t : Bool) → length (less r ys) ≤ length ys → length (if not t then y ∷ less r ys else less r ys) ≤ suc (length ys)
    go true h = omega (arith, h)
    go false h = omega (arith, h)

pub less-shorter : (r : ℕ) (xs : List ℕ) → is_one_of r xs ≡ true → length (less r xs) + 1 ≤ length xs
less-shorter r [] h = absurd (cc)
less-shorter r (y ∷ ys) h = go (y == r) refl h (λ i. less-shorter r ys i)
  where
    go : (t : Bool) → (y == r) ≡ t → (t || is_one_of r ys) ≡ true → (is_one_of r ys ≡ true → length (less r ys) + 1 ≤ length ys) → length (if not t then y ∷ less r ys else less r ys) + 1 ≤ suc (length ys)
    go true t h f = omega (arith, less-short r ys)
    go false t h f = omega (arith, f h)

all_there : (test : ℕ → Bool) (n : ℕ) (xs : List ℕ) → ((i : ℕ) → i < n → test i ≡ true → is_one_of i xs ≡ true) → how_many test n ≤ length xs
all_there test zero xs h = omega arith
all_there test (suc n) xs h = go (test n) refl (λ ys g. all_there test n ys g)
  where
    not_last : (i : ℕ) → i < n → (i == n) ≡ false
    not_last i lt = no_eq (i == n) refl
      where
        no_eq : (t : Bool) → (i == n) ≡ t → (i == n) ≡ false
        no_eq true t = absurd (let e = eqb-true i n t in omega (arith, e))
        no_eq false t = t

    go : (t : Bool) → test n ≡ t → ((ys : List ℕ) → ((i : ℕ) → i < n → test i ≡ true → is_one_of i ys ≡ true) → how_many test n ≤ length ys) → how_many test n + (if t then 1 else 0) ≤ length xs
    go true t f =
        let there : is_one_of n xs ≡ true = h n (omega arith) t in
        let fewer : how_many test n ≤ length (less n xs) = f (less n xs) (λ i lt u. one-less i n xs ∙ (rw (not_last i lt) (h i (omega arith) u))) in
        omega (arith, fewer, less-shorter n xs there)
    go false t f = omega (arith, f xs (λ i lt u. h i (omega arith) u))

pub used-below : (regions : List Region) (xs : List ℕ) → ((r : ℕ) → is_one_of r xs ≡ not (is_clean (region_at r regions).status)) → used_count regions ≤ length xs
used-below regions xs h =
    omega (arith, all_there (λ r. is_one_of r xs) (length regions) xs (λ i lt t. t), used_as_counted (λ r. is_one_of r xs) regions h)

-- ---- flushes in order

minus-append : (r : ℕ) (xs ys : List ℕ) → minus r (xs ++ ys) ≡ minus r xs ++ minus r ys
minus-append r [] ys = refl
minus-append r (x ∷ xs) ys = go (x == r) (minus-append r xs ys)
  where
    go : (t : Bool) → minus r (xs ++ ys) ≡ minus r xs ++ minus r ys → (if t then minus r (xs ++ ys) else x ∷ minus r (xs ++ ys)) ≡ (if t then minus r xs else x ∷ minus r xs) ++ minus r ys
    go true e = e
    go false e = ap (λ zs. x ∷ zs) e

pub turned : (x : ℕ) (xs : List ℕ) → reverse (x ∷ xs) ≡ reverse xs ++ x ∷ []
turned x xs = reverse_onto xs x []

pub minus-reverse : (r : ℕ) (xs : List ℕ) → minus r (reverse xs) ≡ reverse (less r xs)
minus-reverse r [] = refl
minus-reverse r (x ∷ xs) = ap (minus r) (turned x xs) ∙ minus-append r (reverse xs) (x ∷ []) ∙ go (x == r) refl (minus-reverse r xs)
  where
    go : (t : Bool) → (x == r) ≡ t → minus r (reverse xs) ≡ reverse (less r xs) → minus r (reverse xs) ++ minus r (x ∷ []) ≡ reverse (if not t then x ∷ less r xs else less r xs)
    go true t e = rw (t, e) (append-nil (reverse (less r xs)))
    go false t e = rw (t, e) (sym (turned x (less r xs)))

in-append : (x : ℕ) (xs ys : List ℕ) → is_in x (xs ++ ys) ≡ (if is_in x xs then true else is_in x ys)
in-append x [] ys = refl
in-append x (y ∷ xs) ys = grind (arith, in-append x xs ys)

pub in-reverse : (x : ℕ) (xs : List ℕ) → is_in x (reverse xs) ≡ is_one_of x xs
in-reverse x [] = refl
in-reverse x (y ∷ ys) = ap (is_in x) (turned y ys) ∙ in-append x (reverse ys) (y ∷ []) ∙ grind (arith, in-reverse x ys)

-- ---- which were flushed before one

before-append : (zs more : List ℕ) (x r : ℕ) → is_before zs x r ≡ true → is_before (zs ++ more) x r ≡ true
before-append [] more x r h = absurd (cc)
before-append (z ∷ zs) more x r h = grind (arith, before-append zs more x r)

before-there : (zs more : List ℕ) (x r : ℕ) → is_in r zs ≡ false → is_in x zs ≡ true → is_before (zs ++ more) x r ≡ true
before-there [] more x r n h = absurd (cc)
before-there (z ∷ zs) more x r n h = grind (arith, before-there zs more x r)

none_counted : (r : ℕ) (xs : List ℕ) → count (λ (y : ℕ). y == r) xs ≡ 0 → is_one_of r xs ≡ false
none_counted r [] h = refl
none_counted r (x ∷ xs) h = grind (arith, none_counted r xs)

pub behind-before : (xs : List ℕ) (x r : ℕ) → count (λ (y : ℕ). y == r) xs ≤ 1 → is_one_of x (behind r xs) ≡ true → is_before (reverse xs) x r ≡ true
behind-before [] x r one h = absurd (cc)
behind-before (y ∷ ys) x r one h = ap (λ zs. is_before zs x r) (turned y ys) ∙ go (y == r) refl one h (λ o i. behind-before ys x r o i)
  where
    go : (t : Bool) → (y == r) ≡ t → (if t then 1 else 0) + count (λ (z : ℕ). z == r) ys ≤ 1 → is_one_of x (if t then ys else behind r ys) ≡ true
        → (count (λ (z : ℕ). z == r) ys ≤ 1 → is_one_of x (behind r ys) ≡ true → is_before (reverse ys) x r ≡ true) → is_before (reverse ys ++ y ∷ []) x r ≡ true
    go true t one h f =
        before-there (reverse ys) (y ∷ []) x r (in-reverse r ys ∙ none_counted r ys (omega arith)) (in-reverse x ys ∙ h)
    go false t one h f = before-append (reverse ys) (y ∷ []) x r (f (omega arith) h)
