-- The numbers of items that come back, as a set.
use Rattle.std.proofs.Common.{◌≡◌, ℕ, ◌+◌, nat_lt, Bool, true, false, cond, List, [], ◌∷◌, None, map, refl, sym, ap, ◌∙◌, arith}
use Rattle.std.specs.Prelude.{◌==◌, ◌||◌}
use Rattle.std.specs.Ordering.{nat_cmp}
use Rattle.std.specs.List.{list_any}
use Rattle.std.specs.BTreeSet.{BTreeSet, contains, IsEmpty, Updates}
use Rattle.std.specs.BTreeMap.{is_at}
use Rattle.hc_types.specs.Tally.{count}
use Rattle.hc_types.specs.declared.config.PoolSize.{PoolSize}
use Rattle.hc_memory.specs.Item.{Item}
use Rattle.hc_memory.specs.Memory.{Memory, empty_pool}
use Rattle.hc_memory.specs.Resting.{misfit_of, after_restore}
use Rattle.hc_machine.specs.items.Items.{items_of, item_has}
use Rattle.hc_state.specs.Numbers.{AreNumbers}
use Rattle.hc_state.proofs.ComingBack.{added-sum}

-- ---- the set

at-number : (x n : ℕ) → is_at (nat_cmp x) n ≡ (x == n)
at-number x n = grind (arith)

or_step : (b rest : Bool) → cond b true rest ≡ (b || rest)
or_step true rest = refl
or_step false rest = refl

-- a number came in
pub came-in : (number : ℕ) (old new : BTreeSet ℕ) → Updates nat_cmp old new number true → (n : ℕ) → contains nat_cmp new n ≡ ((number == n) || contains nat_cmp old n)
came-in number old new h n = h.0 n ∙ ap (λ b. cond b true (contains nat_cmp old n)) (at-number number n) ∙ or_step (number == n) (contains nat_cmp old n)

out_step : (b rest : Bool) → (b ≡ true → rest ≡ false) → cond b false (b || rest) ≡ rest
out_step true rest none = sym (none refl)
out_step false rest none = refl

-- and went out again
pub went-out : (number : ℕ) (old with_it new : BTreeSet ℕ) → contains nat_cmp old number ≡ false → ((n : ℕ) → contains nat_cmp with_it n ≡ ((number == n) || contains nat_cmp old n)) → Updates nat_cmp with_it new number false → (n : ℕ) → contains nat_cmp new n ≡ contains nat_cmp old n
went-out number old with_it new none came h n =
    h.0 n ∙ (λ i. cond (at-number number n i) false (came n i)) ∙ out_step (number == n) (contains nat_cmp old n) (λ e. ap (contains nat_cmp old) (sym (same number n e)) ∙ none)
  where
    same : (a b : ℕ) → (a == b) ≡ true → a ≡ b
    same a b e = grind (arith, e)

-- ---- the items

any_step : (b : Bool) (rest : Bool) (n : ℕ) → rest ≡ nat_lt 0 n → (b || rest) ≡ nat_lt 0 (cond b 1 0 + n)
any_step true rest n h = grind arith
any_step false rest n h = h ∙ ap (nat_lt 0) (let same : n ≡ 0 + n = omega arith in same)

any-by-count : {X : Type 0} (p : X → Bool) (xs : List X) → list_any p xs ≡ nat_lt 0 (count p xs)
any-by-count p [] = refl
any-by-count p (x ∷ xs) = any_step (p x) (list_any p xs) (count p xs) (any-by-count p xs)

more_step : (b : Bool) (old new : ℕ) → new ≡ old + cond b 1 0 → nat_lt 0 new ≡ (b || nat_lt 0 old)
more_step true old new h = grind (arith, h)
more_step false old new h = ap (nat_lt 0) (let same : new ≡ old = omega (arith, h) in same)

-- the numbers of the items and of one more
pub numbers-with : (m : Memory) (item : Item) (old new : BTreeSet ℕ) → misfit_of m item ≡ None → AreNumbers old m.pools → ((n : ℕ) → contains nat_cmp new n ≡ ((item.number == n) || contains nat_cmp old n)) → AreNumbers new (after_restore m item).pools
numbers-with m item old new fits are came n =
    let p : Item → Bool = item_has n in
    let more = added-sum (λ (x : Item). cond (p x) 1 0) m item fits in
    came n ∙ ap (λ b. (item.number == n) || b) (are n ∙ any-by-count p (items_of m.pools)) ∙ sym (any-by-count p (items_of (after_restore m item).pools) ∙ more_step (p item) (count p (items_of m.pools)) (count p (items_of (after_restore m item).pools)) more)

none_linked : (sizes : List PoolSize) → items_of (map empty_pool sizes) ≡ []
none_linked [] = refl
none_linked (size ∷ sizes) = none_linked sizes

-- no item has come yet
pub no-numbers : (numbers : BTreeSet ℕ) (sizes : List PoolSize) → IsEmpty numbers → AreNumbers numbers (map empty_pool sizes)
no-numbers numbers sizes none n = ap (list_any (is_at (nat_cmp n))) none ∙ sym (ap (list_any (item_has n)) (none_linked sizes))
