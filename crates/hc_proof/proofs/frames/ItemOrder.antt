-- The order of items doesn't tell which item a key has.
use Rattle.std.proofs.Common.{◌≡◌, ℕ, ◌≤◌, Bool, true, false, List, Option, Some, None, refl, ap, sym, ◌∙◌, arith}
use Rattle.std.specs.Prelude.{if◌then◌else◌}
use Rattle.std.specs.Str.{bytes_eq}
use Rattle.hc_types.specs.Tally.{tally, count}
use Rattle.hc_memory.specs.Item.{Item, Open}
use Rattle.hc_memory.specs.Pool.{is_at, item_at, without}
use Rattle.hc_memory.proofs.Keyed.{same_bytes, tally-without, item_at-is}
use Rattle.hc_memory.proofs.Keys.{counted, none-counted}
use Rattle.hc_machine.proofs.items.Items.{bytes_eq-refl, none-summed}
use Rattle.hc_history.specs.Note.{Note}
use Rattle.hc_history.specs.Books.{charges}
use Rattle.hc_machine.specs.items.Items.{item_has}
use Rattle.hc_invariant.specs.Tells.{ChargesTell}
use Rattle.hc_machine.proofs.items.Same.{Same-reordered}

-- the only item under a key is all that a sum over the key sees
only_one : (key : List ℕ) (items : List Item) (x : Item) (f : Item → ℕ) → count (is_at key) items ≤ 1 → item_at key items ≡ Some x → tally (λ item. if is_at key item then f item else 0) items ≡ f x
only_one key items x f one found =
    let here = item_at-is key items x found in
    let counts = tally-without (λ item. if is_at key item then 1 else 0) key items x found in
    let sums = tally-without (λ item. if is_at key item then f item else 0) key items x found in
    let counts' = rw here at counts in
    let sums' = rw here at sums in
    omega (arith, sums', none-summed (is_at key) f (without key items) (omega (arith, counts', one)))

text_step : (a b : List ℕ) (t : Bool) → bytes_eq b a ≡ t → ◌≡◌ {A = ℕ} (if t then 1 else 0) 1 → b ≡ a
text_step a b true e h = same_bytes b a e
text_step a b false e h = absurd (omega (arith, h))

-- two items that no number tells apart have the same text
text_same : (g : Item → List ℕ) (x y : Item) → ((f : Item → ℕ) → f x ≡ f y) → g x ≡ g y
text_same g x y each =
    let refl_y : ◌≡◌ {A = ℕ} (if bytes_eq (g y) (g y) then 1 else 0) 1 = ap {B = ℕ} (λ b. if b then 1 else 0) (bytes_eq-refl (g y)) in
    sym (text_step (g x) (g y) (bytes_eq (g y) (g x)) refl (each (λ item. if bytes_eq (g y) (g item) then 1 else 0) ∙ refl_y))

bool_same : (a b : Bool) → ◌≡◌ {A = ℕ} (if a then 1 else 0) (if b then 1 else 0) → a ≡ b
bool_same true true h = refl
bool_same false false h = refl
bool_same true false h = absurd (omega (arith, h))
bool_same false true h = absurd (omega (arith, h))

item_same : (x y : Item) → ((f : Item → ℕ) → f x ≡ f y) → x ≡ y
item_same x y each =
    let number : x.number ≡ y.number = each (λ i. i.number) in
    let pool : x.pool ≡ y.pool = each (λ i. i.pool) in
    let key : x.key ≡ y.key = text_same (λ i. i.key) x y each in
    let value : x.value ≡ y.value = text_same (λ i. i.value) x y each in
    let expiry : x.expiry ≡ y.expiry = each (λ i. i.expiry) in
    let clean : x.clean ≡ y.clean = bool_same x.clean y.clean (each (λ i. if i.clean then 1 else 0)) in
    λ i. record { number = number i; pool = pool i; key = key i; value = value i; expiry = expiry i; clean = clean i }

found_step : (key : List ℕ) (xs ys : List Item) (o p : Option Item) → count (is_at key) xs ≤ 1 → count (is_at key) ys ≤ 1 → ((f : Item → ℕ) → tally f xs ≡ tally f ys) → item_at key xs ≡ o → item_at key ys ≡ p → o ≡ p
found_step key xs ys None None one one' same e f = refl
found_step key xs ys (Some x) None one one' same e f = absurd (omega (arith, counted key xs x e, none-counted key ys f, same (λ item. if is_at key item then 1 else 0)))
found_step key xs ys None (Some y) one one' same e f = absurd (omega (arith, counted key ys y f, none-counted key xs e, same (λ item. if is_at key item then 1 else 0)))
found_step key xs ys (Some x) (Some y) one one' same e f =
    ap (λ (z : Item). Some z) (item_same x y (λ g. omega (arith, only_one key xs x g one e, only_one key ys y g one' f, same (λ item. if is_at key item then g item else 0))))

pub found_same : (key : List ℕ) (xs ys : List Item) → count (is_at key) xs ≤ 1 → ((f : Item → ℕ) → tally f xs ≡ tally f ys) → item_at key xs ≡ item_at key ys
found_same key xs ys one same = found_step key xs ys (item_at key xs) (item_at key ys) one (omega (arith, one, same (λ item. if is_at key item then 1 else 0))) same refl refl

-- nor do the books tell it
pub charges_sorted : (older : List Note) (items items' : List Item) (opens : List Open) (made : ℕ) → ((f : Item → ℕ) → tally f items ≡ tally f items') → ChargesTell older items opens made → ChargesTell older items' opens made
charges_sorted older items items' opens made order t = record {
  one_key = λ key. omega (arith, t.one_key key, order (λ item. if is_at key item then 1 else 0));
  one_number = λ n. omega (arith, t.one_number n, order (λ item. if item_has n item then 1 else 0));
  fresh = λ n lt. omega (arith, t.fresh n lt, order (λ item. if item_has n item then 1 else 0));
  same = Same-reordered (charges older) items items' opens order t.same;
}
