-- The keys of each place, and the map's entries.
use Rattle.std.proofs.Common.{◌≡◌, ℕ, ◌==◌, ◌++◌, Bool, true, false, List, [], ◌∷◌, Option, Some, None, IsSome, refl, sym, ap, ◌∙◌, arith, ◌+◌, ◌≤◌, ◌||◌, slice_get, swap_remove, ◌&&◌, length}
use Rattle.std.specs.Prelude.{option_map}
use Rattle.std.specs.Str.{bytes_eq}
use Rattle.hc_types.specs.Tally.{count}
use mathlib.Core.Bool.{cond}
use Rattle.std.specs.Ordering.{nat_cmp}
use Rattle.std.specs.BTreeMap.{is_at}
use Rattle.std.specs.Map.{lookup}
use Rattle.std.specs.declared.vec.Vec.{Vec}
use Rattle.std.proofs.lemmas.Bool.{eqb-true}
use Rattle.hc_memory.proofs.Keyed.{same_bytes}
use Rattle.std.proofs.lemmas.Option.{slice_get_within}
use Rattle.hc_memory.proofs.Places.{tally-removed, same_removed}
use Rattle.hc_memory.specs.Clean.{groups_of, keys_at, with_key, has_key}

at-is : (place q : ℕ) → is_at (nat_cmp place) q ≡ (q == place)
at-is place q = grind (arith)

pub some-is : {X : Type 0} (o : Option X) (x : X) → o ≡ Some x → IsSome o
some-is o x e = rw e refl

module _ {A : Type 0} where
  abbrev pub items_in : Option (Vec (List ℕ) A) → List (List ℕ)
  items_in None = []
  items_in (Some keys) = keys.items

  pub lookup-is : (place : ℕ) (es : List (ℕ × Vec (List ℕ) A)) → items_in (lookup (is_at (nat_cmp place)) es) ≡ keys_at place (groups_of es)
  lookup-is place [] = refl
  lookup-is place (e ∷ es) = grind (arith, lookup-is place es)

  -- where the map has w at a place, and at each other what it had
  pub put-is : (place : ℕ) (old new : List (ℕ × Vec (List ℕ) A)) (w : Option (Vec (List ℕ) A)) → ((q : ℕ) → lookup (is_at (nat_cmp q)) new ≡ cond (is_at (nat_cmp place) q) w (lookup (is_at (nat_cmp q)) old))
      → (p : ℕ) → keys_at p (groups_of new) ≡ cond (p == place) (items_in w) (keys_at p (groups_of old))
  put-is place old new w h p = sym (lookup-is p new) ∙ ap items_in (h p) ∙ ap (λ b. items_in (cond b w (lookup (is_at (nat_cmp p)) old))) (at-is place p) ∙ go (p == place)
    where
      go : (b : Bool) → items_in (cond b w (lookup (is_at (nat_cmp p)) old)) ≡ cond b (items_in w) (keys_at p (groups_of old))
      go true = refl
      go false = lookup-is p old

-- the key comes in at the place, where it wasn't
pub added : (place p : ℕ) (key : List ℕ) (old : List (ℕ × List (List ℕ))) (new w : List (List ℕ)) → has_key key (keys_at place old) ≡ false → w ≡ keys_at place old ++ key ∷ [] → new ≡ cond (p == place) w (keys_at p old) → new ≡ cond (p == place) (with_key key (keys_at p old)) (keys_at p old)
added place p key old new w none is so = so ∙ go (p == place) refl
  where
    go : (b : Bool) → (p == place) ≡ b → cond b w (keys_at p old) ≡ cond b (with_key key (keys_at p old)) (keys_at p old)
    go true e = let same = eqb-true p place e in is ∙ rw (same, none) refl
    go false e = refl

-- the place has what it had
pub kept_at : (place p : ℕ) (old : List (ℕ × List (List ℕ))) (new w : List (List ℕ)) → w ≡ keys_at place old → new ≡ cond (p == place) w (keys_at p old) → new ≡ keys_at p old
kept_at place p old new w is so = so ∙ go (p == place) refl
  where
    go : (b : Bool) → (p == place) ≡ b → cond b w (keys_at p old) ≡ keys_at p old
    go true e = is ∙ ap (λ q. keys_at q old) (sym (eqb-true p place e))
    go false e = refl

-- ---- keys that go

counted : (k : List ℕ) (xs : List (List ℕ)) → has_key k xs ≡ true → 1 ≤ count (bytes_eq k) xs
counted k [] h = absurd cc
counted k (x ∷ xs) h = go (bytes_eq k x) refl h (counted k xs)
  where
    go : (b : Bool) → bytes_eq k x ≡ b → (b || has_key k xs) ≡ true → (has_key k xs ≡ true → 1 ≤ count (bytes_eq k) xs) → 1 ≤ cond (bytes_eq k x) 1 0 + count (bytes_eq k) xs
    go true e h more = rw e (omega arith)
    go false e h more = rw e (let m = more h in omega (arith, m))

there : (k : List ℕ) (xs : List (List ℕ)) → 1 ≤ count (bytes_eq k) xs → has_key k xs ≡ true
there k [] h = absurd (omega (arith, h))
there k (x ∷ xs) h = go (bytes_eq k x) h (there k xs)
  where
    go : (b : Bool) → 1 ≤ cond b 1 0 + count (bytes_eq k) xs → (1 ≤ count (bytes_eq k) xs → has_key k xs ≡ true) → (b || has_key k xs) ≡ true
    go true h more = refl
    go false h more = more (omega (arith, h))

-- where another key is taken out, this one stays
pub stays : (k : List ℕ) (xs : List (List ℕ)) (at : ℕ) (x : List ℕ) → slice_get xs at ≡ Some x → bytes_eq k x ≡ false → has_key k xs ≡ true → has_key k (swap_remove xs at x) ≡ true
stays k xs at x found other h =
    let sum = tally-removed (λ (y : List ℕ). cond (bytes_eq k y) 1 0) xs at x found in
    let none : cond {A = ℕ} (bytes_eq k x) 1 0 ≡ 0 = rw other refl in
    there k (swap_remove xs at x) (omega (arith, sum, none, counted k xs h))

-- what stays where a place has other keys than before
pub kept_in : (place p : ℕ) (k : List ℕ) (goes : Bool) (old : List (ℕ × List (List ℕ))) (new w : List (List ℕ)) → (goes ≡ false → has_key k (keys_at place old) ≡ true → has_key k w ≡ true) → new ≡ cond (p == place) w (keys_at p old)
    → ((p == place) && goes) ≡ false → has_key k (keys_at p old) ≡ true → has_key k new ≡ true
kept_in place p k goes old new w keeps is other h = ap (has_key k) is ∙ go (p == place) refl other
  where
    go : (b : Bool) → (p == place) ≡ b → (b && goes) ≡ false → has_key k (cond b w (keys_at p old)) ≡ true
    go true e other = keeps other (sym (ap (λ q. has_key k (keys_at q old)) (eqb-true p place e)) ∙ h)
    go false e other = h

-- a place that has no key goes
pub emptied : (place p : ℕ) (k : List ℕ) (goes : Bool) (old : List (ℕ × List (List ℕ))) (mid new w : List (List ℕ)) → (goes ≡ false → has_key k (keys_at place old) ≡ true → has_key k w ≡ true) → w ≡ [] → mid ≡ cond (p == place) w (keys_at p old) → new ≡ cond (p == place) [] mid
    → ((p == place) && goes) ≡ false → has_key k (keys_at p old) ≡ true → has_key k new ≡ true
emptied place p k goes old mid new w keeps none is gone other h = ap (has_key k) gone ∙ go (p == place) refl (kept_in place p k goes old mid w keeps is other h)
  where
    go : (b : Bool) → (p == place) ≡ b → has_key k mid ≡ true → has_key k (cond b [] mid) ≡ true
    go true e more = let nothing : mid ≡ [] = is ∙ ap (λ b. cond b w (keys_at p old)) e ∙ none in let bad : has_key k [] ≡ true = rw nothing at more in bad
    go false e more = more

read_step : (f : List ℕ → Bool) (o : Option (List ℕ)) → option_map f o ≡ Some true → (x : List ℕ) × (o ≡ Some x) × (f x ≡ true)
read_step f None e = absurd cc
read_step f (Some x) e = (x, refl, cc)

differ_step : (f : List ℕ → Bool) (k x : List ℕ) (b : Bool) → bytes_eq k x ≡ b → f k ≡ false → f x ≡ true → b ≡ false
differ_step f k x true e away goes = let same : k ≡ x = same_bytes k x e in absurd (let bad : false ≡ true = sym away ∙ ap f same ∙ goes in cc)
differ_step f k x false e away goes = refl

-- where a key of a kind is taken out, those of no such kind stay
pub stays-other : (f : List ℕ → Bool) (k : List ℕ) (xs : List (List ℕ)) (at : ℕ) (d : List ℕ) → option_map f (slice_get xs at) ≡ Some true → f k ≡ false → has_key k xs ≡ true → has_key k (swap_remove xs at d) ≡ true
stays-other f k xs at d found away h =
    let r = read_step f (slice_get xs at) found in
    let within = slice_get_within xs at r.0 r.1 in
    let same = same_removed xs at d r.0 (omega (arith, within)) in
    ap (has_key k) same ∙ stays k xs at r.0 r.1 (differ_step f k r.0 (bytes_eq k r.0) refl away r.2) h

pub no-length : (xs : List (List ℕ)) → length xs ≡ 0 → xs ≡ []
no-length [] h = refl
no-length (x ∷ xs) h = absurd (omega (arith, h))
