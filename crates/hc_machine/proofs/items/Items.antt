-- Items under keys, and the entries of the map that they come to.
use Rattle.std.proofs.Common.{◌≡◌, ℕ, ◌+◌, ◌≤◌, Bool, true, false, List, [], ◌∷◌, Some, None, refl, ap, sym, ◌∙◌, arith, subst}
use Rattle.std.proofs.lemmas.Slice.Eq.{bytes_eq-Decides}
use Rattle.std.specs.Str.{bytes_eq}
use mathlib.Core.Bool.{cond}
use Rattle.hc_types.specs.Tally.{tally, count}
use Rattle.hc_memory.specs.Item.{Item}
use Rattle.hc_memory.specs.Pool.{is_at, item_at, without}
use Rattle.hc_memory.proofs.Keyed.{same_bytes, tally-without, item_at-is, count-none}

-- ---- keys

pub bytes_eq-refl : (a : List ℕ) → bytes_eq a a ≡ true
bytes_eq-refl a = (bytes_eq-Decides a a).1 refl

sym_step : (a b : List ℕ) (s t : Bool) → bytes_eq a b ≡ s → bytes_eq b a ≡ t → s ≡ t
sym_step a b true true e f = refl
sym_step a b false false e f = refl
sym_step a b true false e f = let same = same_bytes a b e in let other : bytes_eq b a ≡ true = subst (λ c. bytes_eq c a ≡ true) same (bytes_eq-refl a) in cc
sym_step a b false true e f = let same = same_bytes b a f in let other : bytes_eq a b ≡ true = subst (λ c. bytes_eq c b ≡ true) same (bytes_eq-refl b) in cc

pub bytes_eq-sym : (a b : List ℕ) → bytes_eq a b ≡ bytes_eq b a
bytes_eq-sym a b = sym_step a b (bytes_eq a b) (bytes_eq b a) refl refl

-- ---- items that go and come

gone_step : (key : List ℕ) (y : Item) (items : List Item) (b : Bool) → is_at key y ≡ b → (count (is_at key) items ≤ 1 → item_at key (without key items) ≡ None) → cond b 1 0 + count (is_at key) items ≤ 1 → item_at key (cond b items (y ∷ without key items)) ≡ None
gone_step key y items true e h one = count-none key items (omega arith)
gone_step key y items false e h one = ap (λ b. cond b (Some y) (item_at key (without key items))) e ∙ h (omega arith)

-- where no key is there twice, the key is gone
pub item_at-gone : (key : List ℕ) (items : List Item) → count (is_at key) items ≤ 1 → item_at key (without key items) ≡ None
item_at-gone key [] one = refl
item_at-gone key (y ∷ items) one = gone_step key y items (is_at key y) refl (item_at-gone key items) one

other_key : (key k a : List ℕ) → bytes_eq key a ≡ true → bytes_eq key k ≡ false → bytes_eq k a ≡ false
other_key key k a e other = let same = same_bytes key a e in subst (λ b. bytes_eq k b ≡ false) same (bytes_eq-sym k key ∙ other)

kept_step : (key k : List ℕ) (y : Item) (items : List Item) (b : Bool) → is_at key y ≡ b → bytes_eq key k ≡ false → item_at k (without key items) ≡ item_at k items → item_at k (cond b items (y ∷ without key items)) ≡ cond (is_at k y) (Some y) (item_at k items)
kept_step key k y items true e other h = sym (ap (λ b. cond b (Some y) (item_at k items)) (other_key key k y.key e other))
kept_step key k y items false e other h = ap (cond (is_at k y) (Some y)) h

-- the other keys stay
pub item_at-other : (key k : List ℕ) (items : List Item) → bytes_eq key k ≡ false → item_at k (without key items) ≡ item_at k items
item_at-other key k [] other = refl
item_at-other key k (y ∷ items) other = kept_step key k y items (is_at key y) refl other (item_at-other key k items other)

-- ---- the same items in another order

-- sums over items that no test passes are 0
zero_step : (f : Item → ℕ) (x : Item) (b : Bool) (m n : ℕ) → (m ≡ 0 → n ≡ 0) → cond b 1 0 + m ≡ 0 → cond b (f x) 0 + n ≡ 0
zero_step f x true m n h z = absurd (omega arith)
zero_step f x false m n h z = omega (arith, h (omega arith))

pub none-summed : (test : Item → Bool) (f : Item → ℕ) (items : List Item) → count test items ≡ 0 → tally (λ item. cond (test item) (f item) 0) items ≡ 0
none-summed test f [] z = refl
none-summed test f (x ∷ items) z = zero_step f x (test x) (count test items) (tally (λ item. cond (test item) (f item) 0) items) (none-summed test f items) z

-- the only item under a key is all that a sum over the key sees
only_one : (key : List ℕ) (items : List Item) (x : Item) (f : Item → ℕ) → count (is_at key) items ≤ 1 → item_at key items ≡ Some x → tally (λ item. cond (is_at key item) (f item) 0) items ≡ f x
only_one key items x f one found =
    let here = item_at-is key items x found in
    let counts = tally-without (λ item. cond (is_at key item) 1 0) key items x found in
    let sums = tally-without (λ item. cond (is_at key item) (f item) 0) key items x found in
    let counts' = rw here at counts in
    let sums' = rw here at sums in
    omega (arith, sums', none-summed (is_at key) f (without key items) (omega (arith, counts', one)))

value_step : (a b : List ℕ) (t : Bool) → bytes_eq b a ≡ t → ◌≡◌ {A = ℕ} (cond t 1 0) 1 → b ≡ a
value_step a b true e h = same_bytes b a e
value_step a b false e h = absurd (omega (arith, h))
