-- Charges by the notes: parts that are joined, notes that tell of none, and which charges are open behind them.
use Rattle.std.proofs.Common.{◌≡◌, ℕ, ◌+◌, ◌≤◌, ◌==◌, Bool, true, false, not, ◌&&◌, ◌||◌, List, [], ◌∷◌, ◌++◌, map, filter, Some, refl, ap, sym, ◌∙◌, arith, cond}
use Rattle.std.specs.Prelude.{if◌then◌else◌}
use Rattle.std.specs.List.{list_any}
use Rattle.hc_types.specs.Tally.{count}
use Rattle.hc_memory.specs.Item.{Item}
use Rattle.hc_memory.specs.Pool.{item_at, without}
use Rattle.hc_history.specs.Note.{Note, Exists, Did, Charged, Linked, Freed}
use Rattle.hc_history.specs.Books.{Charge, charges, has_number, linked_at}
use Rattle.hc_history.specs.Lawful.{past}
use Rattle.hc_machine.specs.items.Items.{item_has}
use Rattle.hc_laws.specs.First.{NonePasses}
use Rattle.hc_laws.specs.Walking.{is_of_flash, Asked, AnyFlash}
use Rattle.hc_laws.proofs.walk.Parts.{any_flash}
use Rattle.hc_proof.proofs.frames.ByNumber.{same_number}
use Rattle.hc_proof.proofs.frames.Charges.{first-order}
use Rattle.hc_follows.specs.Desk.{Adding}
use Rattle.hc_follows.specs.Claims.{is_open}
use Rattle.hc_follows.specs.Charging.{charged_in, is_linked_next, is_waited_for, links_what_it_charges, is_refused_next, frees_no_open}

-- ---- notes that tell of no charge

abbrev pub is_of_charges : Note → Bool
is_of_charges (Charged number key pool bytes) = true
is_of_charges (Linked number) = true
is_of_charges (Freed number) = true
is_of_charges note = false

abbrev pub NoCharges : List Note → Type 0
NoCharges notes = NonePasses is_of_charges notes

no_charges : (note : Note) → is_of_flash note ≡ true → is_of_charges note ≡ false
no_charges (Charged number key pool bytes) h = absurd cc
no_charges (Linked number) h = absurd cc
no_charges (Freed number) h = absurd cc
no_charges note h = refl

-- what is told of flash is of no charge
pub uncharged : Asked is_of_flash is_of_charges AnyFlash
uncharged = any_flash is_of_flash is_of_charges no_charges

pub none_made : (part : List Note) → NoCharges part → charged_in part ≡ 0
none_made [] h = refl
none_made (Charged number key pool bytes ∷ part) h = absurd cc
none_made (Linked number ∷ part) h = absurd cc
none_made (Freed number ∷ part) h = absurd cc
none_made (note ∷ part) h = none_made part h

pub none_freed : (adds : List Adding) (older part : List Note) → NoCharges part → frees_no_open adds older part ≡ true
none_freed adds older [] h = refl
none_freed adds older (Charged number key pool bytes ∷ part) h = absurd cc
none_freed adds older (Linked number ∷ part) h = absurd cc
none_freed adds older (Freed number ∷ part) h = absurd cc
none_freed adds older (note ∷ part) h = none_freed adds (note ∷ older) part h

pub same_charges : (older part : List Note) → NoCharges part → charges (past older part) ≡ charges older
same_charges older [] h = refl
same_charges older (Charged number key pool bytes ∷ part) h = absurd cc
same_charges older (Linked number ∷ part) h = absurd cc
same_charges older (Freed number ∷ part) h = absurd cc
same_charges older (note ∷ part) h = same_charges (note ∷ older) part h

-- ---- parts that are joined

pub made-append : (one two : List Note) → charged_in (one ++ two) ≡ charged_in one + charged_in two
made-append [] two = omega arith
made-append (Charged number key pool bytes ∷ one) two = omega (arith, made-append one two)
made-append (note ∷ one) two = made-append one two

pub links_none : (start part : List Note) → charged_in part ≡ 0 → links_what_it_charges start part ≡ true
links_none start [] h = refl
links_none start (Charged number key pool bytes ∷ part) h = absurd (omega (arith, h))
links_none start (note ∷ part) h = links_none start part h

pub links-behind : (start one two : List Note) → charged_in one ≡ 0 → links_what_it_charges start (one ++ two) ≡ links_what_it_charges start two
links-behind start [] two h = refl
links-behind start (Charged number key pool bytes ∷ one) two h = absurd (omega (arith, h))
links-behind start (note ∷ one) two h = links-behind start one two h

pub links-before : (start one two : List Note) → links_what_it_charges start one ≡ true → charged_in two ≡ 0 → links_what_it_charges start (one ++ two) ≡ true
links-before start [] two h none = links_none start two none
links-before start (Charged number key pool bytes ∷ one) two h none = linked (is_waited_for start key) one h
  where
    linked : (waited : Bool) (one : List Note) → (waited && is_linked_next number one && (charged_in one == 0)) ≡ true → (waited && is_linked_next number (one ++ two) && (charged_in (one ++ two) == 0)) ≡ true
    linked false one h = absurd cc
    linked true (Linked other ∷ one) h = let same : charged_in (one ++ two) ≡ charged_in one = omega (arith, made-append one two, none) in (λ i. (other == number) && (same i == 0)) ∙ h
    linked true one h = absurd cc
links-before start (note ∷ one) two h none = links-before start one two h none

and_parts : (a b : Bool) → (a && b) ≡ true → (a ≡ true) × (b ≡ true)
and_parts true true h = (refl, refl)
and_parts true false h = absurd cc
and_parts false b h = absurd cc

or_more : (a b c : Bool) → (b ≡ true → c ≡ true) → (a || b) ≡ true → (a || c) ≡ true
or_more true b c more h = refl
or_more false b c more h = more h

refused-append : (adds : List Adding) (number : ℕ) (one two : List Note) → is_refused_next adds number one ≡ true → is_refused_next adds number (one ++ two) ≡ true
refused-append adds number (Did call Exists ∷ one) two h = h
refused-append adds number one two h = absurd cc

pub frees-append : (adds : List Adding) (older one two : List Note) → frees_no_open adds older one ≡ true → frees_no_open adds (past older one) two ≡ true → frees_no_open adds older (one ++ two) ≡ true
frees-append adds older [] two p q = q
frees-append adds older (Freed number ∷ one) two p q =
    let both = and_parts (not (is_open number older) || is_refused_next adds number one) (frees_no_open adds (Freed number ∷ older) one) p in
    let here = or_more (not (is_open number older)) (is_refused_next adds number one) (is_refused_next adds number (one ++ two)) (refused-append adds number one two) both.0 in
    let rest = frees-append adds (Freed number ∷ older) one two both.1 q in
    λ i. here i && rest i
frees-append adds older (note ∷ one) two p q = frees-append adds (note ∷ older) one two p q

-- ---- which charges are open

abbrev is_number : ℕ → Charge → Bool
is_number n charge = charge.number == n

abbrev is_unlinked : Charge → Bool
is_unlinked charge = not charge.linked

-- is_open, over the charges of the books
abbrev pub open_among : ℕ → List Charge → Bool
open_among n all = list_any (is_number n) (filter is_unlinked all)

-- one more before it, or none
kept_any : {X : Type 0} (p : X → Bool) (x : X) (xs : List X) (b : Bool) → list_any p xs ≡ true → list_any p (if b then x ∷ xs else xs) ≡ true
kept_any p x xs true h = go (p x)
  where
    go : (t : Bool) → (t || list_any p xs) ≡ true
    go true = refl
    go false = h
kept_any p x xs false h = h

-- the same one before it, or none
same_any : {X : Type 0} (p : X → Bool) (x : X) (xs ys : List X) (b : Bool) → (list_any p xs ≡ true → list_any p ys ≡ true) → list_any p (if b then x ∷ xs else xs) ≡ true → list_any p (if b then x ∷ ys else ys) ≡ true
same_any p x xs ys true more h = or_more (p x) (list_any p xs) (list_any p ys) more h
same_any p x xs ys false more h = more h

less_linked : (n number : ℕ) (all : List Charge) → open_among n (map (linked_at number) all) ≡ true → open_among n all ≡ true
less_linked n number [] h = h
less_linked n number (c ∷ all) h = go (has_number number c) h (less_linked n number all)
  where
    go : (t : Bool) → open_among n ((if t then record c { linked = true } else c) ∷ map (linked_at number) all) ≡ true → (open_among n (map (linked_at number) all) ≡ true → open_among n all ≡ true) → open_among n (c ∷ all) ≡ true
    go true h more = kept_any (is_number n) c (filter is_unlinked all) (is_unlinked c) (more h)
    go false h more = same_any (is_number n) c (filter is_unlinked (map (linked_at number) all)) (filter is_unlinked all) (is_unlinked c) more h

less_freed : (n number : ℕ) (all : List Charge) → open_among n (filter (λ charge. not (has_number number charge)) all) ≡ true → open_among n all ≡ true
less_freed n number [] h = h
less_freed n number (c ∷ all) h = go (not (has_number number c)) h (less_freed n number all)
  where
    rest : List Charge
    rest = filter (λ charge. not (has_number number charge)) all

    go : (t : Bool) → open_among n (if t then c ∷ rest else rest) ≡ true → (open_among n rest ≡ true → open_among n all ≡ true) → open_among n (c ∷ all) ≡ true
    go true h more = same_any (is_number n) c (filter is_unlinked rest) (filter is_unlinked all) (is_unlinked c) more h
    go false h more = kept_any (is_number n) c (filter is_unlinked all) (is_unlinked c) (more h)

linked_closes : (number : ℕ) (all : List Charge) → open_among number (map (linked_at number) all) ≡ false
linked_closes number [] = refl
linked_closes number (c ∷ all) = go (has_number number c) refl (linked_closes number all)
  where
    rest : List Charge
    rest = filter is_unlinked (map (linked_at number) all)

    other : (b : Bool) → has_number number c ≡ false → list_any (is_number number) rest ≡ false → list_any (is_number number) (if b then c ∷ rest else rest) ≡ false
    other true e more = λ i. e i || more i
    other false e more = more

    go : (t : Bool) → has_number number c ≡ t → list_any (is_number number) rest ≡ false → open_among number ((if t then record c { linked = true } else c) ∷ map (linked_at number) all) ≡ false
    go true e more = more
    go false e more = other (is_unlinked c) e more

-- what is open behind a note of a charge was open before it
pub open_freed : (n number : ℕ) (older : List Note) → is_open n (Freed number ∷ older) ≡ true → is_open n older ≡ true
open_freed n number older h = less_freed n number (charges older) h

pub open_linked : (n number : ℕ) (older : List Note) → is_open n (Linked number ∷ older) ≡ true → is_open n older ≡ true
open_linked n number older h = less_linked n number (charges older) h

pub none_linked : (number : ℕ) (older : List Note) → is_open number (Linked number ∷ older) ≡ false
none_linked number older = linked_closes number (charges older)

-- also behind a charge that is linked at once
pub open_brought : (n number : ℕ) (key : List ℕ) (pool bytes : ℕ) (older : List Note) → is_open n (Linked number ∷ Charged number key pool bytes ∷ older) ≡ true → is_open n older ≡ true
open_brought n number key pool bytes older h = go (number == number) (same_number number) h
  where
    c : Charge
    c = record { number = number; key = key; pool = pool; bytes = bytes; linked = false }

    go : (t : Bool) → t ≡ true → open_among n ((if t then record c { linked = true } else c) ∷ map (linked_at number) (charges older)) ≡ true → is_open n older ≡ true
    go true e h = less_linked n number (charges older) h
    go false e h = absurd cc

pub open_still : (n : ℕ) (older part : List Note) → NoCharges part → is_open n (past older part) ≡ true → is_open n older ≡ true
open_still n older part none h = sym (ap (open_among n) (same_charges older part none)) ∙ h

-- ---- items aren't open

-- no item has the number of an open charge
abbrev pub Apart : List Note → List Item → Type 0
Apart older items = (n : ℕ) → is_open n older ≡ true → count (item_has n) items ≡ 0

-- and so of fewer items, where no charge is open anew
pub apart_less : (older newer : List Note) (items after : List Item) → ((n : ℕ) → is_open n newer ≡ true → is_open n older ≡ true) → ((n : ℕ) → count (item_has n) after ≤ count (item_has n) items) → Apart older items → Apart newer after
apart_less older newer items after opened fewer h n o = omega (arith, fewer n, h n (opened n o))

-- an item's charge isn't open
pub item_linked : (older : List Note) (items : List Item) (x : Item) → 1 ≤ count (item_has x.number) items → Apart older items → is_open x.number older ≡ false
item_linked older items x some h = go (is_open x.number older) refl
  where
    go : (t : Bool) → is_open x.number older ≡ t → t ≡ false
    go true e = absurd (omega (arith, some, h x.number e))
    go false e = refl

pub own_counts : (x : Item) (items : List Item) → 1 ≤ count (item_has x.number) (x ∷ items)
own_counts x items = let own : ◌≡◌ {A = ℕ} (cond (item_has x.number x) 1 0) 1 = ap {B = ℕ} (λ b. cond b 1 0) (same_number x.number) in omega (arith, own)

pub found_linked : (older : List Note) (items : List Item) (key : List ℕ) (x : Item) → item_at key items ≡ Some x → Apart older items → is_open x.number older ≡ false
found_linked older items key x found h =
    item_linked older items x (omega (arith, first-order key items x found (λ (i : Item). cond (item_has x.number i) 1 0), own_counts x (without key items))) h
