-- The map's entries as the pairs of the index.
use Rattle.std.proofs.Common.{◌≡◌, ℕ, ◌==◌, Bool, true, false, List, [], ◌∷◌, length, refl, ap, arith, ◌∙◌, nat_lt, Less}
use Rattle.std.specs.Ordering.{nat_cmp}
use Rattle.std.specs.BTreeMap.{is_at, insert_entry}
use Rattle.std.specs.Map.{lookup, remove_entry, keys_of}
use Rattle.std.specs.List.Sorted.{IsStrictlySortedBy}
use Rattle.std.proofs.lemmas.Bool.{eqb-true}
use Rattle.hc_engines.specs.large.Index.{Place, Indexed, place_at, leading, without}
use Rattle.hc_block.specs.Indexes.{indexed_of, pairs_of, AllAbove, Rises}
use Rattle.std.specs.List.{AllByRecursion}
use Rattle.hc_block.proofs.Ordered.{others, removed, less-is}

pub lookup-is : (hash : ℕ) (es : List (ℕ × Place)) → lookup (is_at (nat_cmp hash)) es ≡ place_at hash (pairs_of es)
lookup-is hash [] = refl
lookup-is hash (e ∷ es) = grind (arith, lookup-is hash es)

pub insert-is : (hash : ℕ) (place : Place) (es : List (ℕ × Place)) → pairs_of (insert_entry nat_cmp es hash place) ≡ leading hash place (pairs_of es)
insert-is hash place [] = refl
insert-is hash place (e ∷ es) = go (nat_lt hash e.0) refl (hash == e.0) refl (insert-is hash place es)
  where
    go : (a : Bool) → nat_lt hash e.0 ≡ a → (b : Bool) → (hash == e.0) ≡ b → pairs_of (insert_entry nat_cmp es hash place) ≡ leading hash place (pairs_of es)
        → pairs_of (insert_entry nat_cmp (e ∷ es) hash place) ≡ leading hash place (indexed_of e ∷ pairs_of es)
    go true p b q more = let u : nat_lt e.0 hash ≡ false = (grind (arith, p)) in let v : (e.0 == hash) ≡ false = (grind (arith, p)) in rw (p, u, v) refl
    go false p true q more = let u : nat_lt e.0 hash ≡ false = (grind (arith, q)) in let v : (e.0 == hash) ≡ true = (grind (arith, q)) in let s : e.0 ≡ hash = eqb-true _ _ v in rw (p, q, u, v) (ap (λ (n : ℕ). record { hash = n; place = place } ∷ pairs_of es) s)
    go false p false q more = let u : nat_lt e.0 hash ≡ true = (grind (arith, p, q)) in rw (p, q, u) (ap (λ (xs : List Indexed). indexed_of e ∷ xs) more)

pub without-is : (hash : ℕ) (es : List (ℕ × Place)) → pairs_of (others hash es) ≡ without hash (pairs_of es)
without-is hash [] = refl
without-is hash (e ∷ es) = grind (arith, without-is hash es)

pub remove-is : (hash : ℕ) (es : List (ℕ × Place)) → IsStrictlySortedBy nat_cmp (keys_of es) → pairs_of (remove_entry (is_at (nat_cmp hash)) es) ≡ without hash (pairs_of es)
remove-is hash es s = ap pairs_of (removed hash es s) ∙ without-is hash es

above-is : (hash : ℕ) (es : List (ℕ × Place)) → AllByRecursion (λ y. nat_cmp hash y ≡ Less) (keys_of es) → AllAbove hash (pairs_of es)
above-is hash [] h = tt
above-is hash (e ∷ es) h = (less-is hash e.0 h.0, above-is hash es h.1)

-- the hashes of an ordered map rise
pub rises-is : (es : List (ℕ × Place)) → IsStrictlySortedBy nat_cmp (keys_of es) → Rises (pairs_of es)
unfolding IsStrictlySortedBy
rises-is [] s = tt
rises-is (e ∷ es) s = (above-is e.0 es s.0, rises-is es s.1)

-- a map of no entries
pub none-is : (es : List (ℕ × Place)) → length es ≡ 0 → pairs_of es ≡ []
none-is [] e = refl
none-is (x ∷ xs) e = absurd (omega (arith, e))
