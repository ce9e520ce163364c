-- The live charges of a history, the items and the open charges, in any order.
use Rattle.std.proofs.Common.{◌≡◌, ℕ, ◌+◌, ◌<◌, ◌≤◌, ◌++◌, ◌==◌, Bool, true, false, not, ◌&&◌, List, [], ◌∷◌, refl, ap, ◌∙◌, arith, map}
use Rattle.std.specs.Prelude.{filter}
use mathlib.Core.Bool.{cond}
use Rattle.std.specs.Str.{bytes_eq}
use Rattle.std.proofs.lemmas.Bool.{eq-eqb}
use Rattle.hc_types.specs.Tally.{tally, count}
use Rattle.hc_types.proofs.Tallies.{tally-filter, tally-map, tally-push, tally-where}
use Rattle.hc_memory.specs.Item.{Item, Open}
use Rattle.hc_history.specs.Books.{Charge, has_number, linked_at}
use Rattle.hc_history.specs.Lawful.{is_charge_of}
use Rattle.hc_machine.specs.items.Items.{item_has, open_has, charge_at, open_at}
use Rattle.hc_machine.proofs.items.Items.{bytes_eq-refl}

-- the charges are the items' and the open ones
abbrev pub Same : List Charge → List Item → List Open → Type 0
Same charges items opens = (f : Charge → ℕ) → tally f charges ≡ tally (λ item. f (charge_at item)) items + tally (λ charge. f (open_at charge)) opens

pub eqb-same : (n : ℕ) → (n == n) ≡ true
eqb-same n = eq-eqb n n refl

if_not : (b : Bool) (n : ℕ) → b ≡ false → cond (not b) n 0 ≡ n
if_not true n h = cc
if_not false n h = refl

if_so : (b : Bool) (n : ℕ) → b ≡ true → cond (not b) n 0 ≡ 0
if_so true n h = refl
if_so false n h = cc

pub one_if : (b : Bool) → b ≡ true → ◌≡◌ {A = ℕ} (cond b 1 0) 1
one_if true h = refl
one_if false h = cc

-- the order of items doesn't tell
pub Same-reordered : (charges : List Charge) (items items' : List Item) (opens : List Open) → ((f : Item → ℕ) → tally f items ≡ tally f items') → Same charges items opens → Same charges items' opens
Same-reordered charges items items' opens order same f = omega (arith, same f, order (λ item. f (charge_at item)))

-- what is left of charges once those of a number are freed
stays_items : (n : ℕ) (f : Charge → ℕ) (items : List Item) → count (item_has n) items ≡ 0 → tally (λ item. cond (not (has_number n (charge_at item))) (f (charge_at item)) 0) items ≡ tally (λ item. f (charge_at item)) items
stays_items n f items none = tally-where (item_has n) (λ item. cond (not (has_number n (charge_at item))) (f (charge_at item)) 0) (λ item. f (charge_at item)) (λ i h. if_not (item_has n i) (f (charge_at i)) h) items none

stays_opens : (n : ℕ) (f : Charge → ℕ) (opens : List Open) → count (open_has n) opens ≡ 0 → tally (λ charge. cond (not (has_number n (open_at charge))) (f (open_at charge)) 0) opens ≡ tally (λ charge. f (open_at charge)) opens
stays_opens n f opens none = tally-where (open_has n) (λ charge. cond (not (has_number n (open_at charge))) (f (open_at charge)) 0) (λ charge. f (open_at charge)) (λ c h. if_not (open_has n c) (f (open_at c)) h) opens none

-- the first item's charge is freed
pub Same-evicted : (charges : List Charge) (x : Item) (items : List Item) (opens : List Open) → count (item_has x.number) (x ∷ items) + count (open_has x.number) opens ≤ 1 → Same charges (x ∷ items) opens → Same (filter (λ charge. not (has_number x.number charge)) charges) items opens
Same-evicted charges x items opens one same f =
    let stays = λ (charge : Charge). not (has_number x.number charge) in
    let left = λ (charge : Charge). cond (stays charge) (f charge) 0 in
    let own = one_if (x.number == x.number) (eqb-same x.number) in
    let gone : left (charge_at x) ≡ 0 = if_so (x.number == x.number) (f (charge_at x)) (eqb-same x.number) in
    let rest = stays_items x.number f items (omega (arith, one, own)) in
    let others = stays_opens x.number f opens (omega (arith, one, own)) in
    let all : tally f (filter stays charges) ≡ tally left charges = tally-filter f stays charges in
    let before = same left in
    omega arith

-- an open charge is freed
pub Same-closed : (charges : List Charge) (items : List Item) (opens rest : List Open) (c : Open) → ((f : Open → ℕ) → tally f rest + f c ≡ tally f opens) → count (item_has c.number) items + count (open_has c.number) opens ≤ 1 → Same charges items opens → Same (filter (λ charge. not (has_number c.number charge)) charges) items rest
Same-closed charges items opens rest c sum one same f =
    let stays = λ (charge : Charge). not (has_number c.number charge) in
    let left = λ (charge : Charge). cond (stays charge) (f charge) 0 in
    let own = one_if (c.number == c.number) (eqb-same c.number) in
    let counted = sum (λ (o : Open). cond (open_has c.number o) 1 0) in
    let gone : left (open_at c) ≡ 0 = if_so (c.number == c.number) (f (open_at c)) (eqb-same c.number) in
    let kept = stays_items c.number f items (omega (arith, one, own, counted)) in
    let others = stays_opens c.number f rest (omega (arith, one, own, counted)) in
    let all : tally f (filter stays charges) ≡ tally left charges = tally-filter f stays charges in
    let before = same left in
    let taken = sum (λ (o : Open). left (open_at o)) in
    omega arith

-- an open charge is linked
pub Same-linked : (charges : List Charge) (items : List Item) (opens rest : List Open) (c : Open) (item : Item) → record (open_at c) { linked = true } ≡ charge_at item → ((f : Open → ℕ) → tally f rest + f c ≡ tally f opens) → count (item_has c.number) items + count (open_has c.number) opens ≤ 1 → Same charges items opens → Same (map (linked_at c.number) charges) (items ++ item ∷ []) rest
Same-linked charges items opens rest c item is sum one same f =
    let link = linked_at c.number in
    let g = λ (charge : Charge). f (link charge) in
    let own = one_if (c.number == c.number) (eqb-same c.number) in
    let counted = sum (λ (o : Open). cond (open_has c.number o) 1 0) in
    let all : tally f (map link charges) ≡ tally g charges = tally-map f link charges in
    let before = same g in
    let taken = sum (λ (o : Open). g (open_at o)) in
    let this : g (open_at c) ≡ f (charge_at item) = ap (λ b. f (cond b (record (open_at c) { linked = true }) (open_at c))) (eqb-same c.number) ∙ ap f is in
    let kept : tally (λ i. g (charge_at i)) items ≡ tally (λ i. f (charge_at i)) items = tally-where (item_has c.number) (λ i. g (charge_at i)) (λ i. f (charge_at i)) (λ i h. ap (λ b. f (cond b (record (charge_at i) { linked = true }) (charge_at i))) h) items (omega (arith, one, own, counted)) in
    let others : tally (λ o. g (open_at o)) rest ≡ tally (λ o. f (open_at o)) rest = tally-where (open_has c.number) (λ o. g (open_at o)) (λ o. f (open_at o)) (λ o h. ap (λ b. f (cond b (record (open_at o) { linked = true }) (open_at o))) h) rest (omega (arith, one, own, counted)) in
    let pushed = tally-push (λ i. f (charge_at i)) items item in
    omega arith

and_true : (a b : Bool) → a ≡ true → b ≡ true → (a && b) ≡ true
and_true true true h k = refl
and_true true false h k = k
and_true false b h k = h

-- the first item's charge is live
pub charge_found : (charges : List Charge) (x : Item) (items : List Item) (opens : List Open) → Same charges (x ∷ items) opens → 0 < count (is_charge_of x.number x.key x.pool) charges
charge_found charges x items opens same =
    let here : is_charge_of x.number x.key x.pool (charge_at x) ≡ true = and_true ((x.number == x.number) && bytes_eq x.key x.key) (x.pool == x.pool) (and_true (x.number == x.number) (bytes_eq x.key x.key) (eqb-same x.number) (bytes_eq-refl x.key)) (eqb-same x.pool) in
    let all = same (λ charge. cond (is_charge_of x.number x.key x.pool charge) 1 0) in
    omega (arith, all, one_if (is_charge_of x.number x.key x.pool (charge_at x)) here)
