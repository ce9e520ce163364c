-- The entries of an ordered map whose keys are numbers: what a call leaves of them.
use Rattle.std.proofs.Common.{◌≡◌, ℕ, ◌<◌, ◌≤◌, ◌==◌, nat_lt, Bool, true, false, List, [], ◌∷◌, Some, None, refl, sym, ap, subst, arith, ◌∙◌, Less, Equal, Greater}
use Rattle.std.specs.Prelude.{if◌then◌else◌}
use Rattle.std.specs.Ordering.{nat_cmp}
use Rattle.std.specs.BTreeMap.{is_at, insert_entry}
use Rattle.std.specs.Map.{lookup, remove_entry, set_value, keys_of}
use Rattle.std.specs.List.{AllByRecursion}
use Rattle.std.specs.List.Sorted.{IsStrictlySortedBy}
use Rattle.std.proofs.lemmas.Bool.{eqb-true, ltb-true}

-- all these keys are above this one
abbrev AllAbove : ℕ → List ℕ → Type 0
AllAbove n keys = AllByRecursion (λ y. nat_cmp n y ≡ Less) keys

pub less-is : (m y : ℕ) → nat_cmp m y ≡ Less → m < y
less-is m y h = go (nat_lt m y) refl (m == y) refl h
  where
    go : (a : Bool) → nat_lt m y ≡ a → (b : Bool) → (m == y) ≡ b → nat_cmp m y ≡ Less → m < y
    go true p b q h = ltb-true m y p
    go false p true q h = let k : Equal ≡ Less = (rw (p, q) at h) in absurd (cc)
    go false p false q h = let k : Greater ≡ Less = (rw (p, q) at h) in absurd (cc)

not_key : (n m y : ℕ) → n ≤ m → nat_cmp m y ≡ Less → ((y == n) ≡ false) × (nat_lt y n ≡ false)
not_key n m y le h = go (nat_lt m y) refl (m == y) refl h
  where
    go : (a : Bool) → nat_lt m y ≡ a → (b : Bool) → (m == y) ≡ b → nat_cmp m y ≡ Less → ((y == n) ≡ false) × (nat_lt y n ≡ false)
    go true p b q h = (grind (arith, p, le), grind (arith, p, le))
    go false p true q h = let k : Equal ≡ Less = (rw (p, q) at h) in absurd (cc)
    go false p false q h = let k : Greater ≡ Less = (rw (p, q) at h) in absurd (cc)

module _ {X : Type 0} where
  -- the entries under other keys
  abbrev pub others : ℕ → List (ℕ × X) → List (ℕ × X)
  others n [] = []
  others n (e ∷ es) = if e.0 == n then others n es else e ∷ others n es

  -- an entry more, at its place in the order
  abbrev pub added : ℕ → X → List (ℕ × X) → List (ℕ × X)
  added n x [] = (n, x) ∷ []
  added n x (e ∷ es) = if nat_lt e.0 n then e ∷ added n x es else (n, x) ∷ e ∷ es

  all_others : (n m : ℕ) (es : List (ℕ × X)) → n ≤ m → AllAbove m (keys_of es) → others n es ≡ es
  all_others n m [] le h = refl
  all_others n m (e ∷ es) le h = rw (not_key n m e.0 le h.0).0 (ap (λ xs. e ∷ xs) (all_others n m es le h.1))

  in_front : (n : ℕ) (x : X) (es : List (ℕ × X)) → AllAbove n (keys_of es) → added n x es ≡ (n, x) ∷ es
  in_front n x [] h = refl
  in_front n x (e ∷ es) h = rw (not_key n n e.0 (omega arith) h.0).1 refl

  pub removed : (n : ℕ) (es : List (ℕ × X)) → IsStrictlySortedBy nat_cmp (keys_of es) → remove_entry (is_at (nat_cmp n)) es ≡ others n es
  unfolding IsStrictlySortedBy
  removed n [] s = refl
  removed n (e ∷ es) s = go (nat_lt n e.0) refl (n == e.0) refl (removed n es s.1)
    where
      go : (a : Bool) → nat_lt n e.0 ≡ a → (b : Bool) → (n == e.0) ≡ b → remove_entry (is_at (nat_cmp n)) es ≡ others n es → remove_entry (is_at (nat_cmp n)) (e ∷ es) ≡ others n (e ∷ es)
      go true p b q more = let v : (e.0 == n) ≡ false = (grind (arith, p)) in rw (p, v) (ap (λ xs. e ∷ xs) more)
      go false p true q more = let v : (e.0 == n) ≡ true = (grind (arith, q)) in let le : n ≤ e.0 = (grind (arith, q)) in rw (p, q, v) (sym (all_others n e.0 es le s.0))
      go false p false q more = let v : (e.0 == n) ≡ false = (grind (arith, q)) in rw (p, q, v) (ap (λ xs. e ∷ xs) more)

  pub inserted : (n : ℕ) (x : X) (es : List (ℕ × X)) → IsStrictlySortedBy nat_cmp (keys_of es) → insert_entry nat_cmp es n x ≡ added n x (others n es)
  unfolding IsStrictlySortedBy
  inserted n x [] s = refl
  inserted n x (e ∷ es) s = go (nat_lt n e.0) refl (n == e.0) refl (inserted n x es s.1)
    where
      go : (a : Bool) → nat_lt n e.0 ≡ a → (b : Bool) → (n == e.0) ≡ b → insert_entry nat_cmp es n x ≡ added n x (others n es) → insert_entry nat_cmp (e ∷ es) n x ≡ added n x (others n (e ∷ es))
      go true p b q more =
          let v : (e.0 == n) ≡ false = (grind (arith, p)) in
          let u : nat_lt e.0 n ≡ false = (grind (arith, p)) in
          let le : n ≤ e.0 = (grind (arith, p)) in
          rw (p, v, u, all_others n e.0 es le s.0) refl
      go false p true q more =
          let v : (e.0 == n) ≡ true = (grind (arith, q)) in
          let same : e.0 ≡ n = eqb-true e.0 n v in
          let le : n ≤ e.0 = omega (arith, same) in
          rw (p, q, v, all_others n e.0 es le s.0) (ap (λ (k : ℕ). (k, x) ∷ es) same ∙ sym (in_front n x es (subst (λ (k : ℕ). AllAbove k (keys_of es)) same s.0)))
      go false p false q more =
          let v : (e.0 == n) ≡ false = (grind (arith, q)) in
          let u : nat_lt e.0 n ≡ true = (grind (arith, p, q)) in
          rw (p, q, v, u) (ap (λ xs. e ∷ xs) more)

  -- a value that is written where there is one is one that is put in
  pub written : (n : ℕ) (x v : X) (es : List (ℕ × X)) → IsStrictlySortedBy nat_cmp (keys_of es) → lookup (is_at (nat_cmp n)) es ≡ Some v → set_value (is_at (nat_cmp n)) es x ≡ insert_entry nat_cmp es n x
  unfolding IsStrictlySortedBy
  written n x v [] s h = absurd (cc)
  written n x v (e ∷ es) s h = go (nat_lt n e.0) refl (n == e.0) refl h (λ k. written n x v es s.1 k)
    where
      none_above : (m : ℕ) (xs : List (ℕ × X)) → n ≤ m → AllAbove m (keys_of xs) → lookup (is_at (nat_cmp n)) xs ≡ None
      none_above m [] le a = refl
      none_above m (y ∷ ys) le a =
          let k = not_key n m y.0 le a.0 in
          let l : nat_lt n y.0 ≡ true = (grind (arith, k.0, k.1)) in
          rw l (none_above m ys le a.1)

      go : (a : Bool) → nat_lt n e.0 ≡ a → (b : Bool) → (n == e.0) ≡ b → lookup (is_at (nat_cmp n)) (e ∷ es) ≡ Some v → (lookup (is_at (nat_cmp n)) es ≡ Some v → set_value (is_at (nat_cmp n)) es x ≡ insert_entry nat_cmp es n x)
          → set_value (is_at (nat_cmp n)) (e ∷ es) x ≡ insert_entry nat_cmp (e ∷ es) n x
      go true p b q h more =
          let le : n ≤ e.0 = (grind (arith, p)) in
          let found : lookup (is_at (nat_cmp n)) es ≡ Some v = (rw p at h) in
          absurd (let bad : None ≡ Some v = sym (none_above e.0 es le s.0) ∙ found in cc)
      go false p true q h more = rw (p, q) refl
      go false p false q h more = rw (p, q) (ap (λ xs. e ∷ xs) (more (rw (p, q) at h)))
