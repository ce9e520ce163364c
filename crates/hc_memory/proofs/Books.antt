-- Sums over the charges that are open, as one opens and as one closes.
use Rattle.std.proofs.Common.{◌≡◌, ℕ, ◌+◌, ◌-◌, ◌<◌, ◌≤◌, ◌==◌, nat_eq, nat_lt, Bool, true, false, cond, not, ◌&&◌, ◌||◌, List, [], ◌∷◌, ◌++◌, map, length, Option, Some, None, find, position, take, replicate, slice_get, slice_set, get_or, swap_remove, sum_by, option_map, refl, sym, ap, ◌∙◌, arith, subst, ⊎_elim, bytes_eq, length-set, eqb-true, eq-eqb, ltb-true, ltb-false, lt-ltb, le-ltb, length-append}
use Rattle.std.specs.List.{position_or_len}
use Rattle.std.specs.Option.{option_map_or}
use Rattle.std.specs.Map.{lookup, keys_of}
use Rattle.std.proofs.lemmas.Bool.{and_parts, and_from}
use Rattle.std.proofs.lemmas.Bool.Decides.{eqb_tells}
use Rattle.std.proofs.lemmas.Grind.{get_or-set_at}
use Rattle.std.proofs.lemmas.List.{get_or-set_other, length-map, length-replicate, get_or-replicate, map-append, take_all}
use Rattle.std.proofs.lemmas.List.Folds.{find_at}
use Rattle.std.proofs.lemmas.List.Sums.{sum_by-cons, sum_by-swap_remove}
use Rattle.std.proofs.lemmas.Option.{slice_get_within, slice_get-get_or, get_or_from_slice_get}
use Rattle.std.proofs.lemmas.Slice.Eq.{bytes_eq-Decides}
use Rattle.indexmap.specs.IndexMap.{IndexMap, insert_entry, swap_remove_by}
use Rattle.indexmap.proofs.CallerLemmas.{insert_entry-new}
use Rattle.hc_types.specs.Tally.{tally, count}
use Rattle.hc_types.proofs.Tallies.{tally-push}
use Rattle.hc_memory.specs.declared.open.OpenCharge.{OpenCharge}
use Rattle.hc_memory.specs.declared.usage.Usage.{Usage}
use Rattle.hc_memory.specs.Item.{Open, open_cost}
use Rattle.hc_memory.specs.Charges.{has_number, charge_at, closed, usage_of, is_same, is_same_as, is_open, open_of, AreSums, is_stray}
use Rattle.hc_memory.proofs.Keyed.{mapped-none}

-- ---- sums

pub tally-sum : {X : Type 0} (f : X → ℕ) (xs : List X) → tally f xs ≡ sum_by f xs
tally-sum f [] = refl
tally-sum f (x ∷ xs) = omega (arith, tally-sum f xs, sum_by-cons f x xs)

count_step : (b : Bool) (m n : ℕ) → m ≤ n → cond b 1 0 + m ≤ 1 + n
count_step true m n h = omega (arith, h)
count_step false m n h = omega (arith, h)

pub count-length : {X : Type 0} (test : X → Bool) (xs : List X) → count test xs ≤ length xs
count-length test [] = omega arith
count-length test (x ∷ xs) = omega (arith, count_step (test x) (count test xs) (length xs) (count-length test xs))

-- ---- what takes the first that passes out takes its term out

pub found_position : {X : Type 0} (p : X → Bool) (xs : List X) (x : X) → find p xs ≡ Some x → position p xs ≡ Some (position_or_len p xs)
found_position p xs x found = ap (λ b. cond b (Some (position_or_len p xs)) None) (lt-ltb _ _ (slice_get_within xs (position_or_len p xs) x (sym (find_at p xs) ∙ found)))

pub tally-swap_removed : {X : Type 0} (f : X → ℕ) (p : X → Bool) (xs : List X) (x : X) → find p xs ≡ Some x → tally f (swap_remove_by p xs) + f x ≡ tally f xs
tally-swap_removed f p [] x found = cc
tally-swap_removed f p (y ∷ xs) x found =
    let i = position_or_len p (y ∷ xs) in
    let at : slice_get (y ∷ xs) i ≡ Some x = sym (find_at p (y ∷ xs)) ∙ found in
    let without = ap (λ o. tally f (option_map_or (λ i. swap_remove (y ∷ xs) i y) o (y ∷ xs))) (found_position p (y ∷ xs) x found) in
    omega (arith, without, tally-sum f (swap_remove (y ∷ xs) i y), tally-sum f (y ∷ xs), sum_by-swap_remove f (y ∷ xs) i y (slice_get_within (y ∷ xs) i x at), ap f (get_or_from_slice_get (y ∷ xs) i x y at))

missing_step : {X : Type 0} (xs : List X) (i : ℕ) (d : X) (b : Bool) → nat_lt i (length xs) ≡ b → slice_get xs i ≡ None → cond b (Some i) None ≡ None
missing_step xs i d true lt none = let at = slice_get-get_or xs i d (ltb-true _ _ lt) in cc
missing_step xs i d false lt none = refl

pub swap_removed-none : {X : Type 0} (p : X → Bool) (xs : List X) → find p xs ≡ None → swap_remove_by p xs ≡ xs
swap_removed-none p [] none = refl
swap_removed-none p (y ∷ xs) none =
    let i = position_or_len p (y ∷ xs) in
    ap (λ o. option_map_or (λ i. swap_remove (y ∷ xs) i y) o (y ∷ xs)) (missing_step (y ∷ xs) i y (nat_lt i (length (y ∷ xs))) refl (sym (find_at p (y ∷ xs)) ∙ none))

-- ---- open charges

-- as one closes
pub tally-closed : (f : Open → ℕ) (number : ℕ) (charges : List Open) (charge : Open) → charge_at number charges ≡ Some charge → tally f (closed number charges) + f charge ≡ tally f charges
tally-closed f number charges charge found = tally-swap_removed f (has_number number) charges charge found

pub count-closed : (test : Open → Bool) (number : ℕ) (charges : List Open) (charge : Open) → charge_at number charges ≡ Some charge → count test (closed number charges) + cond (test charge) 1 0 ≡ count test charges
count-closed test number charges charge found = tally-closed (λ (x : Open). cond (test x) 1 0) number charges charge found

-- as none closes
pub closed-none : (number : ℕ) (charges : List Open) → charge_at number charges ≡ None → closed number charges ≡ charges
closed-none number charges none = swap_removed-none (has_number number) charges none

-- ---- what a pool's charges come to, as they grow by one

pub usage-other : (pool : ℕ) (less more : List Open) (charge : Open) → (charge.pool == pool) ≡ false → ((f : Open → ℕ) → tally f more ≡ tally f less + f charge) → usage_of pool more ≡ usage_of pool less
usage-other pool less more charge other grown =
    let f : Open → ℕ = λ c. cond (c.pool == pool) (open_cost c) 0 in
    let one : Open → ℕ = λ c. cond (c.pool == pool) 1 0 in
    let no_bytes : f charge ≡ 0 = ap (λ b. cond b (open_cost charge) 0) other in
    let none : one charge ≡ 0 = ap (λ b. cond b 1 0) other in
    let bytes : tally f more ≡ tally f less = omega (arith, grown f, no_bytes) in
    let number : tally one more ≡ tally one less = omega (arith, grown one, none) in
    λ i. record { bytes = bytes i; number = number i }

pub usage-own : (pool : ℕ) (less more : List Open) (charge : Open) → (charge.pool == pool) ≡ true → ((f : Open → ℕ) → tally f more ≡ tally f less + f charge) → usage_of pool more ≡ record { bytes = (usage_of pool less).bytes + open_cost charge; number = (usage_of pool less).number + 1 }
usage-own pool less more charge own grown = λ i. record {
  bytes = (grown (λ (c : Open). cond (c.pool == pool) (open_cost c) 0) ∙ ap (λ b. (usage_of pool less).bytes + cond b (open_cost charge) 0) own) i;
  number = (grown (λ (c : Open). cond (c.pool == pool) 1 0) ∙ ap (λ b. (usage_of pool less).number + cond b 1 0) own) i;
}

-- counters of which one is set are the sums still, where no other pool's sum changes
pub sums-set : (usage : List Usage) (old new : List Open) (pool : ℕ) (u : Usage) → AreSums usage old → pool < length usage → ((p : ℕ) → (pool == p) ≡ false → usage_of p new ≡ usage_of p old) → u ≡ usage_of pool new → AreSums (slice_set usage pool u) new
sums-set usage old new pool u sums within others now p lt =
    slice_get-get_or (slice_set usage pool u) p u lt
    ∙ ap Some (⊎_elim
    (λ own. get_or-set_at usage pool p u u (sym own.1) within ∙ now ∙ ap (λ q. usage_of q new) own.1)
    (λ other. get_or-set_other usage pool p u u (λ e. other.1 (sym e)) ∙ get_or_from_slice_get usage p (usage_of p old) u (sums p (subst (λ n. p < n) (length-set usage pool u) lt)) ∙ sym (others p other.0))
    (eqb_tells pool p))

pub read-sum : (usage : List Usage) (charges : List Open) (pool : ℕ) (u : Usage) → AreSums usage charges → pool < length usage → u ≡ get_or usage pool u → u ≡ usage_of pool charges
read-sum usage charges pool u sums within read = read ∙ get_or_from_slice_get usage pool (usage_of pool charges) u (sums pool within)

module _ (usage : List Usage) (less more : List Open) (charge : Open) (pool : ℕ) (grown : (f : Open → ℕ) → tally f more ≡ tally f less + f charge) (same : pool ≡ charge.pool) (within : pool < length usage) (u : Usage) (read : u ≡ get_or usage pool u) where
  others : (p : ℕ) → (pool == p) ≡ false → usage_of p more ≡ usage_of p less
  others p other = usage-other p less more charge (ap (λ n. n == p) (sym same) ∙ other) grown

  own : usage_of pool more ≡ record { bytes = (usage_of pool less).bytes + open_cost charge; number = (usage_of pool less).number + 1 }
  own = usage-own pool less more charge (eq-eqb charge.pool pool (sym same)) grown

  -- with the charge's cost
  pub sums-grown : (v : Usage) → AreSums usage less → v ≡ record { bytes = u.bytes + open_cost charge; number = u.number + 1 } → AreSums (slice_set usage pool v) more
  sums-grown v sums now =
      let before = read-sum usage less pool u sums within read in
      sums-set usage less more pool v sums within others (now ∙ ap (λ (w : Usage). record { bytes = w.bytes + open_cost charge; number = w.number + 1 }) before ∙ sym own)

  -- and without it
  pub sums-shrunk : (v : Usage) → AreSums usage more → v ≡ record { bytes = u.bytes - open_cost charge; number = u.number - 1 } → AreSums (slice_set usage pool v) less
  sums-shrunk v sums now =
      let before = read-sum usage more pool u sums within read ∙ own in
      let bytes : u.bytes - open_cost charge ≡ (usage_of pool less).bytes = omega (arith, ap (λ (w : Usage). w.bytes) before) in
      let number : u.number - 1 ≡ (usage_of pool less).number = omega (arith, ap (λ (w : Usage). w.number) before) in
      sums-set usage more less pool v sums within (λ p other. sym (others p other)) (now ∙ (λ i. record { bytes = bytes i; number = number i }))

  -- which the sum has
  pub sums-charged : AreSums usage more → (open_cost charge ≤ u.bytes) × (1 ≤ u.number)
  sums-charged sums =
      let before = read-sum usage more pool u sums within read ∙ own in
      (omega (arith, ap (λ (w : Usage). w.bytes) before), omega (arith, ap (λ (w : Usage). w.number) before))

-- ---- which charge is open

pub same-is : (a b : Open) → is_same a b ≡ true → a ≡ b
same-is a b h =
    let size = and_parts _ _ h in
    let key = and_parts _ _ size.0 in
    let both = and_parts _ _ key.0 in
    λ i. record {
      number = eqb-true a.number b.number both.0 i;
      pool = eqb-true a.pool b.pool both.1 i;
      key = (bytes_eq-Decides a.key b.key).0 key.1 i;
      size = eqb-true a.size b.size size.1 i;
    }

pub same-refl : (a : Open) → is_same a a ≡ true
same-refl a = and_from _ _ (and_from _ _ (and_from _ _ (eq-eqb a.number a.number refl) (eq-eqb a.pool a.pool refl)) ((bytes_eq-Decides a.key a.key).1 refl)) (eq-eqb a.size a.size refl)

same_step : (charge : Open) (found : Option Open) → is_same_as charge found ≡ true → found ≡ Some charge
same_step charge None h = cc
same_step charge (Some other) h = ap Some (sym (same-is charge other h))

pub is_open-found : (charge : Open) (charges : List Open) → is_open charge charges ≡ true → charge_at charge.number charges ≡ Some charge
is_open-found charge charges h = same_step charge (charge_at charge.number charges) h

pub found-is_open : (charge : Open) (charges : List Open) → charge_at charge.number charges ≡ Some charge → is_open charge charges ≡ true
found-is_open charge charges found = ap (is_same_as charge) found ∙ same-refl charge

-- ---- entries

found_step : {A : Type 0} (number : ℕ) (e : ℕ × OpenCharge A) (o : Option Open) (p : Option (OpenCharge A)) (b : Bool) → (number == e.0) ≡ b → o ≡ option_map (λ c. open_of (number, c)) p → cond b (Some (open_of e)) o ≡ option_map (λ c. open_of (number, c)) (cond b (Some e.1) p)
found_step number e o p true same h = ap (λ n. Some (open_of (n, e.1))) (sym (eqb-true number e.0 same))
found_step number e o p false same h = h

-- the charge with a number is the value under it
pub charge_at-entries : {A : Type 0} (number : ℕ) (es : List (ℕ × OpenCharge A)) → charge_at number (map open_of es) ≡ option_map (λ c. open_of (number, c)) (lookup (nat_eq number) es)
charge_at-entries number [] = refl
charge_at-entries number (e ∷ es) = found_step number e (charge_at number (map open_of es)) (lookup (nat_eq number) es) (number == e.0) refl (charge_at-entries number es)

place_entries : {A : Type 0} (number : ℕ) (es : List (ℕ × OpenCharge A)) → position_or_len (has_number number) (map open_of es) ≡ position_or_len (nat_eq number) (keys_of es)
place_entries number [] = refl
place_entries number (e ∷ es) = ap (λ n. cond (not (number == e.0)) (1 + n) 0) (place_entries number es)

pub position_entries : {A : Type 0} (number : ℕ) (es : List (ℕ × OpenCharge A)) → position (has_number number) (map open_of es) ≡ position (nat_eq number) (keys_of es)
position_entries number es = λ i. cond (nat_lt (place_entries number es i) ((length-map es open_of ∙ sym (length-map es (λ e. e.0))) i)) (Some (place_entries number es i)) None

-- ---- no charge is stray

stray_step : (x y : Bool) → ◌≡◌ {A = ℕ} (cond (not x || y) 1 0) 0 → (x ≡ true) × (y ≡ false)
stray_step true true h = absurd (omega (arith, h))
stray_step true false h = (refl, refl)
stray_step false y h = absurd (omega (arith, h))

pub within-none : (pools : ℕ) (charge : Open) → ◌≡◌ {A = ℕ} (cond (is_stray pools charge) 1 0) 0 → (charge.pool < pools) × (charge.size ≤ 1048576)
within-none pools charge h =
    let parts = stray_step (nat_lt charge.pool pools) (nat_lt 1048576 charge.size) h in
    (ltb-true charge.pool pools parts.0, ltb-false 1048576 charge.size parts.1)

none_stray : (x y : Bool) → x ≡ true → y ≡ false → ◌≡◌ {A = ℕ} (cond (not x || y) 1 0) 0
none_stray x y p q = λ i. cond (not (p i) || q i) 1 0

-- ---- what the entries answer

pub open-entries : {A : Type 0} (charge : Open) (es : List (ℕ × OpenCharge A)) (c : OpenCharge A) (r : Bool) → Some c ≡ lookup (nat_eq charge.number) es → r ≡ ((charge.pool == c.pool) && bytes_eq charge.key c.key && (charge.size == c.size)) → r ≡ is_open charge (map open_of es)
open-entries charge es c r found same =
    same
    ∙ sym (ap (λ b. b && (charge.pool == c.pool) && bytes_eq charge.key c.key && (charge.size == c.size)) (eq-eqb charge.number charge.number refl))
    ∙ sym (ap (is_same_as charge) (charge_at-entries charge.number es ∙ sym (ap (option_map (λ c. open_of (charge.number, c))) found)))

pub open-none : {A : Type 0} (charge : Open) (es : List (ℕ × OpenCharge A)) → None ≡ lookup (nat_eq charge.number) es → false ≡ is_open charge (map open_of es)
open-none charge es none = sym (ap (is_same_as charge) (charge_at-entries charge.number es ∙ sym (ap (option_map (λ c. open_of (charge.number, c))) none)))

-- ---- what begins

pub begun-entries : {A S : Type 0} (m : IndexMap ℕ (OpenCharge A) S) (new : List (ℕ × OpenCharge A)) (number : ℕ) (c : OpenCharge A) → charge_at number (map open_of m.entries) ≡ None → new ≡ insert_entry nat_eq m.entries number c → map open_of new ≡ map open_of m.entries ++ open_of (number, c) ∷ []
begun-entries m new number c free is = ap (map open_of) (is ∙ insert_entry-new nat_eq m number c (mapped-none (λ c. open_of (number, c)) (lookup (nat_eq number) m.entries) (sym (charge_at-entries number m.entries) ∙ free))) ∙ map-append open_of m.entries ((number, c) ∷ [])

pub stray-begun : (pools : ℕ) (charges new : List Open) (charge : Open) → new ≡ charges ++ charge ∷ [] → charge.pool < pools → charge.size ≤ 1048576 → count (is_stray pools) charges ≡ 0 → count (is_stray pools) new ≡ 0
stray-begun pools charges new charge is pool size none =
    let f : Open → ℕ = λ c. cond (is_stray pools c) 1 0 in
    let zero : f charge ≡ 0 = none_stray (nat_lt charge.pool pools) (nat_lt 1048576 charge.size) (lt-ltb charge.pool pools pool) (le-ltb 1048576 charge.size size) in
    omega (arith, ap (tally f) is, tally-push f charges charge, zero, none)

-- fewer are of a pool than there are
pub number-below : (pool : ℕ) (charges new : List Open) (charge : Open) → new ≡ charges ++ charge ∷ [] → (usage_of pool charges).number + 1 ≤ length new
number-below pool charges new charge is = omega (arith, count-length (λ (c : Open). c.pool == pool) charges, ap length is, length-append charges (charge ∷ []))

-- ---- none yet

abbrev idle : Usage
idle = record { bytes = 0; number = 0 }

from_none : (pools : ℕ) → take pools [] ++ replicate (pools - 0) idle ≡ replicate pools idle
from_none pools =
    let few : take pools [] ≡ [] = take_all pools [] (omega arith) in
    let same : pools - 0 ≡ pools = omega arith in
    λ i. few i ++ replicate (same i) idle

-- as many counters as pools
pub no-usage : (pools many : ℕ) (old new : List Usage) → old ≡ [] → many ≡ 0 → new ≡ take pools old ++ replicate (pools - many) (record { bytes = 0; number = 0 }) → new ≡ replicate pools (record { bytes = 0; number = 0 })
no-usage pools many old new none zero is = is ∙ (λ i. take pools (none i) ++ replicate (pools - zero i) idle) ∙ from_none pools

pub no-sums : (pools : ℕ) (usage : List Usage) (charges : List Open) → usage ≡ replicate pools (record { bytes = 0; number = 0 }) → charges ≡ [] → AreSums usage charges × (count (is_stray (length usage)) charges ≡ 0)
no-sums pools usage charges is none = rw (is, none) (λ pool lt. slice_get-get_or (replicate pools idle) pool idle lt ∙ ap (λ u. Some u) (get_or-replicate pools pool idle idle (omega (arith, lt, length-replicate pools idle))), refl)
