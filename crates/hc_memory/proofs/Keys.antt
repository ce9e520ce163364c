-- Items under a key, in one pool and in all.
use Rattle.std.proofs.Common.{◌≡◌, ◌≢◌, ◌⊎◌, inl, inr, ⊎_elim, ℕ, zero, suc, ◌+◌, ◌<◌, ◌≤◌, ◌==◌, Bool, true, false, List, [], ◌∷◌, Option, Some, None, refl, ap, sym, ◌∙◌, arith, subst, length, slice_get, slice_set, get_or}
use Rattle.std.specs.Prelude.{is_some, option_map}
use Rattle.std.proofs.lemmas.Bool.Decides.{eqb_tells}
use Rattle.std.proofs.lemmas.Option.{slice_get_within, slice_get_read}
use mathlib.Core.Bool.{cond}
use Rattle.hc_types.specs.Tally.{count}
use Rattle.hc_types.proofs.Tallies.{tally-set, tally-get}
use Rattle.hc_memory.specs.Item.{Item}
use Rattle.hc_memory.specs.Pool.{Pool, is_at, item_at}
use Rattle.hc_memory.specs.Memory.{has, home_of, beside}
use Rattle.hc_memory.specs.Sound.{items_at}
use Rattle.hc_memory.proofs.Homes.{home}
use Rattle.hc_memory.proofs.Keyed.{mapped-none, item_at-is, tally-without, count-none}

-- ---- lists

pub get-set : {X : Type 0} (xs : List X) (i : ℕ) (x y : X) → slice_get xs i ≡ Some x → slice_get (slice_set xs i y) i ≡ Some y
get-set [] i x y h = absurd cc
get-set (z ∷ xs) zero x y h = refl
get-set (z ∷ xs) (suc i) x y h = get-set xs i x y h

pub get-set-other : {X : Type 0} (xs : List X) (i j : ℕ) (y : X) → j ≢ i → slice_get (slice_set xs i y) j ≡ slice_get xs j
get-set-other [] i j y h = refl
get-set-other (z ∷ xs) zero zero y h = absurd (h refl)
get-set-other (z ∷ xs) zero (suc j) y h = refl
get-set-other (z ∷ xs) (suc i) zero y h = refl
get-set-other (z ∷ xs) (suc i) (suc j) y h = get-set-other xs i j y (λ e. h (ap suc e))

-- ---- one pool

-- an item that is there is counted
pub counted : (key : List ℕ) (items : List Item) (y : Item) → item_at key items ≡ Some y → 1 ≤ count (is_at key) items
counted key items y e = omega (arith, tally-without (λ x. cond (is_at key x) 1 0) key items y e, ap {B = ℕ} (λ b. cond b 1 0) (item_at-is key items y e))

pub some_of : (o : Option Item) → is_some o ≡ true → (x : Item) × (o ≡ Some x)
some_of None h = absurd cc
some_of (Some x) h = (x, refl)

-- ---- all pools

-- where a pool has the key's item, and no key has two, no other pool has one
pub elsewhere : (key : List ℕ) (pools : List Pool) (h i : ℕ) (there pool : Pool) → items_at key pools ≤ 1 → slice_get pools h ≡ Some there → has key there ≡ true → slice_get pools i ≡ Some pool → i ≢ h → item_at key pool.items ≡ None
elsewhere key pools h i there pool single at holds found other =
    let bare : Pool = record pool { items = [] } in
    let f : Pool → ℕ = λ (p : Pool). count (is_at key) p.items in
    let x = some_of (item_at key there.items) holds in
    let one = counted key there.items x.0 x.1 in
    let sum = tally-set f pools i pool bare found in
    let kept : slice_get (slice_set pools i bare) h ≡ Some there = get-set-other pools i h bare (λ e. other (sym e)) ∙ at in
    let less = tally-get f (slice_set pools i bare) h there kept in
    count-none key pool.items (omega (arith, single, one, sum, less))

-- where no pool has the key's item, no pool has one
pub nowhere : (key : List ℕ) (pools : List Pool) (i : ℕ) (pool : Pool) → home_of key pools ≡ None → slice_get pools i ≡ Some pool → item_at key pool.items ≡ None
nowhere key [] i pool h at = absurd cc
nowhere key (p ∷ pools) i pool h at = nowhere_step key p pools i pool (item_at key p.items) refl h at (nowhere key pools) where
  nowhere_step : (key : List ℕ) (p : Pool) (pools : List Pool) (i : ℕ) (pool : Pool) (o : Option Item) → item_at key p.items ≡ o → cond (is_some o) (Some 0) (option_map suc (home_of key pools)) ≡ None → slice_get (p ∷ pools) i ≡ Some pool → ((j : ℕ) (q : Pool) → home_of key pools ≡ None → slice_get pools j ≡ Some q → item_at key q.items ≡ None) → item_at key pool.items ≡ None
  nowhere_step key p pools i pool (Some x) e h at rest = absurd cc
  nowhere_step key p pools zero pool None e h at rest = let same : p ≡ pool = cc in subst (λ (q : Pool). item_at key q.items ≡ None) same e
  nowhere_step key p pools (suc i) pool None e h at rest = let none = mapped-none suc (home_of key pools) h in rest i pool none at

none_step : (key : List ℕ) (x : Item) (items : List Item) (b : Bool) → (item_at key items ≡ None → count (is_at key) items ≡ 0) → cond b (Some x) (item_at key items) ≡ None → cond b 1 0 + count (is_at key) items ≡ 0
none_step key x items true h e = absurd cc
none_step key x items false h e = omega (arith, h e)

pub none-counted : (key : List ℕ) (items : List Item) → item_at key items ≡ None → count (is_at key) items ≡ 0
none-counted key [] e = refl
none-counted key (x ∷ items) e = none_step key x items (is_at key x) (none-counted key items) e

nowhere_at_step : (key : List ℕ) (p : Pool) (pools : List Pool) (o : Option Item) → item_at key p.items ≡ o → cond (is_some o) (Some 0) (option_map suc (home_of key pools)) ≡ None → (home_of key pools ≡ None → items_at key pools ≡ 0) → count (is_at key) p.items + items_at key pools ≡ 0
nowhere_at_step key p pools (Some x) e h rest = absurd cc
nowhere_at_step key p pools None e h rest =
    let none = mapped-none suc (home_of key pools) h in
    omega (arith, rest none, none-counted key p.items e)

pub none_at : (key : List ℕ) (pools : List Pool) → home_of key pools ≡ None → items_at key pools ≡ 0
none_at key [] h = refl
none_at key (p ∷ pools) h = nowhere_at_step key p pools (item_at key p.items) refl h (none_at key pools)

-- ---- the key's pool, if it's another one than this

arrived_step : (key : List ℕ) (pools : List Pool) (own i : ℕ) (x : Pool) (o : Option ℕ) → home_of key pools ≡ o → items_at key pools ≤ 1 → slice_get pools i ≡ Some x → has key x ≡ true → i ≢ own → Some i ≡ beside own o
arrived_step key pools own i x None e single at holds other =
    let none = ap is_some (nowhere key pools i x e at) in
    absurd (cc)
arrived_step key pools own i x (Some h) e single at holds other =
    let there = home key pools h e in
    ⊎_elim
    (λ (same : ((i == h) ≡ true) × (i ≡ h)). ⊎_elim
    (λ (mine : ((h == own) ≡ true) × (h ≡ own)). absurd (other (same.1 ∙ mine.1)))
    (λ (apart : ((h == own) ≡ false) × (h ≢ own)). ap Some same.1 ∙ sym (ap (λ b. cond b None (Some h)) apart.0))
    (eqb_tells h own))
    (λ (apart : ((i == h) ≡ false) × (i ≢ h)).
    let none = ap is_some (elsewhere key pools h i there.pool x single there.found there.holds at apart.1) in
    absurd (cc))
    (eqb_tells i h)

-- another pool that has the key's item is the key's
pub arrived-beside : (key : List ℕ) (pools : List Pool) (own i : ℕ) (x : Pool) → items_at key pools ≤ 1 → i < length pools → x ≡ get_or pools i x → has key x ≡ true → i ≢ own → Some i ≡ beside own (home_of key pools)
arrived-beside key pools own i x single lt read holds other = arrived_step key pools own i x (home_of key pools) refl single (slice_get_read pools (length pools) i x refl lt read) holds other

-- the pools before are one more
pub further : (key : List ℕ) (pools : List Pool) (own i : ℕ) (x : Pool) → i < length pools → x ≡ get_or pools i x → (i ≢ own → has key x ≡ false) → ((j : ℕ) (pool : Pool) → j < i → j ≢ own → slice_get pools j ≡ Some pool → has key pool ≡ false)
    → (j : ℕ) (pool : Pool) → j < i + 1 → j ≢ own → slice_get pools j ≡ Some pool → has key pool ≡ false
further key pools own i x lt read none before j pool below other at = ⊎_elim
    (λ (same : ((j == i) ≡ true) × (j ≡ i)).
    let here : slice_get pools i ≡ Some x = slice_get_read pools (length pools) i x refl lt read in
    let is : x ≡ pool = let at' = sym here ∙ ap (λ n. slice_get pools n) (sym same.1) ∙ at in cc in
    subst (λ (p : Pool). has key p ≡ false) is (none (λ (e : i ≡ own). other (same.1 ∙ e))))
    (λ (apart : ((j == i) ≡ false) × (j ≢ i)). before j pool (omega (arith, below, apart.1)) other at)
    (eqb_tells j i)

passed_step : (key : List ℕ) (pools : List Pool) (own : ℕ) (o : Option ℕ) → home_of key pools ≡ o → ((j : ℕ) (pool : Pool) → j < length pools → j ≢ own → slice_get pools j ≡ Some pool → has key pool ≡ false) → None ≡ beside own o
passed_step key pools own None e none = refl
passed_step key pools own (Some h) e none =
    let there = home key pools h e in
    ⊎_elim
    (λ (mine : ((h == own) ≡ true) × (h ≡ own)). sym (ap (λ b. cond b None (Some h)) mine.0))
    (λ (apart : ((h == own) ≡ false) × (h ≢ own)).
    let has-none = none h there.pool (slice_get_within pools h there.pool there.found) apart.1 there.found in
    let holds = there.holds in
    absurd (cc))
    (eqb_tells h own)

-- where no other pool has one, the key's is this, or none is
pub all-passed-beside : (key : List ℕ) (pools : List Pool) (own : ℕ) → ((j : ℕ) (pool : Pool) → j < length pools → j ≢ own → slice_get pools j ≡ Some pool → has key pool ≡ false) → None ≡ beside own (home_of key pools)
all-passed-beside key pools own none = passed_step key pools own (home_of key pools) refl none

some_step : (own at : ℕ) (o : Option ℕ) → Some at ≡ beside own o → (o ≡ Some at) × (own ≢ at)
some_step own at None e = absurd cc
some_step own at (Some h) e = ⊎_elim
    (λ (mine : ((h == own) ≡ true) × (h ≡ own)). let none = e ∙ ap (λ b. cond b None (Some h)) mine.0 in absurd (cc))
    (λ (apart : ((h == own) ≡ false) × (h ≢ own)).
    let same : h ≡ at = let is = e ∙ ap (λ b. cond b None (Some h)) apart.0 in cc in
    (ap Some same, λ (x : own ≡ at). apart.1 (same ∙ sym x)))
    (eqb_tells h own)

pub beside-some : (own at : ℕ) (o : Option ℕ) → Some at ≡ beside own o → (o ≡ Some at) × (own ≢ at)
beside-some own at o e = some_step own at o e

pub beside-none : (own : ℕ) (o : Option ℕ) → None ≡ beside own o → (o ≡ None) ⊎ (o ≡ Some own)
beside-none own None e = inl refl
beside-none own (Some h) e = ⊎_elim
    (λ (mine : ((h == own) ≡ true) × (h ≡ own)). inr (ap Some mine.1))
    (λ (apart : ((h == own) ≡ false) × (h ≢ own)). let none = e ∙ ap (λ b. cond b None (Some h)) apart.0 in absurd (cc))
    (eqb_tells h own)
