-- The place of an open charge, and what its end leaves.
use Rattle.std.proofs.Common.{◌≡◌, ℕ, zero, suc, ◌+◌, ◌-◌, ◌<◌, ◌≤◌, ◌==◌, nat_eq, nat_lt, Bool, true, false, cond, ◌&&◌, List, [], ◌∷◌, map, length, Option, Some, None, find, position, take, slice_get, slice_set, get_or, swap_remove, option_map, IsSome, refl, sym, ap, ◌∙◌, arith, bytes_eq}
use Rattle.std.specs.List.{position_or_len}
use Rattle.std.specs.Option.{option_map_or}
use Rattle.std.specs.Map.{lookup, keys_of}
use Rattle.std.proofs.lemmas.List.{length-map}
use Rattle.std.proofs.lemmas.List.Folds.{find_at}
use Rattle.std.proofs.lemmas.List.Sums.{sum_by-swap_remove}
use Rattle.std.proofs.lemmas.Option.{slice_get_within, slice_get-get_or, get_or_from_slice_get, slice_get-map}
use Rattle.indexmap.specs.IndexMap.{swap_remove_by}
use Rattle.indexmap.proofs.SetLemmas.{map-swap_remove}
use Rattle.hc_types.specs.Tally.{tally, count}
use Rattle.hc_types.proofs.Tallies.{tally-get}
use Rattle.hc_memory.specs.declared.open.OpenCharge.{OpenCharge}
use Rattle.hc_memory.specs.Item.{Open}
use Rattle.hc_memory.specs.Charges.{has_number, charge_at, closed, is_open, open_at, open_of, is_stray}
use Rattle.hc_memory.proofs.Books.{tally-sum, found_position, position_entries, is_open-found, found-is_open, open-entries, open-none, within-none}

-- ---- lists

-- the element that takes a place doesn't hang on what stands for none
pub same_removed : {X : Type 0} (xs : List X) (i : ℕ) (d e : X) → 0 < length xs → swap_remove xs i d ≡ swap_remove xs i e
same_removed xs i d e some =
    let last : length xs - 1 < length xs = omega (arith, some) in
    ap (λ x. take (length xs - 1) (slice_set xs i x)) (sym (get_or_from_slice_get xs (length xs - 1) (get_or xs (length xs - 1) d) e (slice_get-get_or xs (length xs - 1) d last)))

position_step : (i at : ℕ) (b : Bool) → cond b (Some i) None ≡ Some at → i ≡ at
position_step i at true h = cc
position_step i at false h = absurd cc

position-is : {X : Type 0} (p : X → Bool) (xs : List X) (at : ℕ) → position p xs ≡ Some at → position_or_len p xs ≡ at
position-is p xs at h = position_step (position_or_len p xs) at (nat_lt (position_or_len p xs) (length xs)) h

-- what stands at the place is what is found
pub position-found : {X : Type 0} (p : X → Bool) (xs : List X) (at : ℕ) → position p xs ≡ Some at → slice_get xs at ≡ find p xs
position-found p xs at h = sym (find_at p xs ∙ ap (slice_get xs) (position-is p xs at h))

pub position-removed : {X : Type 0} (p : X → Bool) (xs : List X) (at : ℕ) (x : X) → position p xs ≡ Some at → slice_get xs at ≡ Some x → swap_remove_by p xs ≡ swap_remove xs at x
position-removed p [] at x h there = absurd cc
position-removed p (y ∷ xs) at x h there = ap (λ o. option_map_or (λ i. swap_remove (y ∷ xs) i y) o (y ∷ xs)) h ∙ same_removed (y ∷ xs) at y x (omega arith)

-- what goes takes its term along
pub tally-removed : {X : Type 0} (f : X → ℕ) (xs : List X) (at : ℕ) (x : X) → slice_get xs at ≡ Some x → tally f xs ≡ tally f (swap_remove xs at x) + f x
tally-removed f xs at x there = omega (arith, tally-sum f (swap_remove xs at x), tally-sum f xs, sum_by-swap_remove f xs at x (slice_get_within xs at x there), ap f (get_or_from_slice_get xs at x x there))

pub there-at : {X : Type 0} (xs : List X) (at : ℕ) → at < length xs → (x : X) × (slice_get xs at ≡ Some x)
there-at [] at lt = absurd (omega (arith, lt))
there-at (x ∷ xs) zero lt = (x, refl)
there-at (x ∷ xs) (suc at) lt = there-at xs at (omega (arith, lt))

-- ---- the place of a charge

pub record IsPlace (charge : Open) (charges : List Open) (at : ℕ) : Type 0 where
  pub mine : is_open charge charges ≡ true
  pub there : slice_get charges at ≡ Some charge
  pub within : at < length charges
  pub closes : closed charge.number charges ≡ swap_remove charges at charge

place_step : (charge : Open) (charges : List Open) (at : ℕ) (b : Bool) → is_open charge charges ≡ b → cond b (position (has_number charge.number) charges) None ≡ Some at → IsPlace charge charges at
place_step charge charges at false e h = absurd cc
place_step charge charges at true e h =
    let there = position-found (has_number charge.number) charges at h ∙ is_open-found charge charges e in
    record { mine = e; there = there; within = slice_get_within charges at charge there; closes = position-removed (has_number charge.number) charges at charge h there }

pub at-place : (charge : Open) (charges : List Open) (at : ℕ) → open_at charge charges ≡ Some at → IsPlace charge charges at
at-place charge charges at h = place_step charge charges at (is_open charge charges) refl h

nowhere_step : (charge : Open) (charges : List Open) (b : Bool) → is_open charge charges ≡ b → cond b (position (has_number charge.number) charges) None ≡ None → b ≡ false
nowhere_step charge charges false e h = refl
nowhere_step charge charges true e h = let found = found_position (has_number charge.number) charges charge (is_open-found charge charges e) in absurd cc

pub no-place : (charge : Open) (charges : List Open) → open_at charge charges ≡ None → is_open charge charges ≡ false
no-place charge charges h = nowhere_step charge charges (is_open charge charges) refl h

exact_step : (charge : Open) (charges : List Open) (o : Option ℕ) → o ≡ open_at charge charges → (IsSome o → charge_at charge.number charges ≡ Some charge) × (charge_at charge.number charges ≡ Some charge → IsSome o)
exact_step charge charges None e = (
  λ none. absurd cc,
  λ found. let mine = found-is_open charge charges found in let not = no-place charge charges (sym e) in absurd cc,
)
exact_step charge charges (Some at) e = (
  λ some. is_open-found charge charges (at-place charge charges at (sym e)).mine,
  λ found. refl,
)

-- there is one exactly where the charge is open
pub open_at-exact : (charge : Open) (charges : List Open) (o : Option ℕ) → o ≡ open_at charge charges → (IsSome o → charge_at charge.number charges ≡ Some charge) × (charge_at charge.number charges ≡ Some charge → IsSome o)
open_at-exact charge charges o e = exact_step charge charges o e

-- ---- entries

pub open-there : {A : Type 0} (charge : Open) (es : List (ℕ × OpenCharge A)) (at : ℕ) (c : OpenCharge A) (r : Bool) → Some at ≡ position (nat_eq charge.number) (keys_of es) → Some c ≡ lookup (nat_eq charge.number) es → r ≡ ((charge.pool == c.pool) && bytes_eq charge.key c.key && (charge.size == c.size)) → r ≡ true → Some at ≡ open_at charge (map open_of es)
open-there charge es at c r place found same mine =
    let is = sym (open-entries charge es c r found same) ∙ mine in
    place ∙ sym (position_entries charge.number es) ∙ sym (ap (λ b. cond b (position (has_number charge.number) (map open_of es)) None) is)

pub open-other : {A : Type 0} (charge : Open) (es : List (ℕ × OpenCharge A)) (c : OpenCharge A) (r : Bool) → Some c ≡ lookup (nat_eq charge.number) es → r ≡ ((charge.pool == c.pool) && bytes_eq charge.key c.key && (charge.size == c.size)) → r ≡ false → None ≡ open_at charge (map open_of es)
open-other charge es c r found same not =
    let is = sym (open-entries charge es c r found same) ∙ not in
    sym (ap (λ b. cond b (position (has_number charge.number) (map open_of es)) None) is)

pub open-nowhere : {A : Type 0} (charge : Open) (es : List (ℕ × OpenCharge A)) → None ≡ lookup (nat_eq charge.number) es → None ≡ open_at charge (map open_of es)
open-nowhere charge es none = ap (λ b. cond b (position (has_number charge.number) (map open_of es)) None) (open-none charge es none)

-- the charge at a place is of one of the pools, and of a value that may be
pub there-within : (pools : ℕ) (charges : List Open) (at : ℕ) (charge : Open) → slice_get charges at ≡ Some charge → count (is_stray pools) charges ≡ 0 → (charge.pool < pools) × (charge.size ≤ 1048576)
there-within pools charges at charge there none = within-none pools charge (omega (arith, tally-get (λ (c : Open). cond (is_stray pools c) 1 0) charges at charge there, none))

pub no-entry : {A : Type 0} (es : List (ℕ × OpenCharge A)) (at : ℕ) → None ≡ slice_get es at → at < length (map open_of es) → ⊥
no-entry es at none lt =
    let x = there-at es at (omega (arith, lt, length-map es open_of)) in
    let there = x.1 in
    absurd cc

-- the entry at a place goes
pub record Ends {A : Type 0} (es new : List (ℕ × OpenCharge A)) (at : ℕ) (entry : ℕ × OpenCharge A) : Type 0 where
  pub there : slice_get (map open_of es) at ≡ Some (open_of entry)
  pub left : map open_of new ≡ swap_remove (map open_of es) at (open_of entry)
  pub grown : (f : Open → ℕ) → tally f (map open_of es) ≡ tally f (map open_of new) + f (open_of entry)

pub ends : {A : Type 0} (es new : List (ℕ × OpenCharge A)) (at : ℕ) (entry : ℕ × OpenCharge A) → Some entry ≡ slice_get es at → new ≡ swap_remove es at entry → Ends es new at entry
ends {A} es new at entry read is =
    let there : slice_get (map open_of es) at ≡ Some (open_of entry) = slice_get-map open_of es at ∙ sym (ap (option_map open_of) read) in
    let lt = slice_get_within es at entry (sym read) in
    let left = ap (map open_of) is ∙ map-swap_remove open_of es at entry (omega (arith, lt)) in
    record { there = there; left = left; grown = λ f. tally-removed f (map open_of es) at (open_of entry) there ∙ ap (λ xs. tally f xs + f (open_of entry)) (sym left) }

-- no charge is stray once one has gone
pub stray-removed : (pools : ℕ) (charges new : List Open) (charge : Open) → ((f : Open → ℕ) → tally f charges ≡ tally f new + f charge) → count (is_stray pools) charges ≡ 0 → count (is_stray pools) new ≡ 0
stray-removed pools charges new charge grown none = omega (arith, grown (λ (c : Open). cond (is_stray pools c) 1 0), none)
