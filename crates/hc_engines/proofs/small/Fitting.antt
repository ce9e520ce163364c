-- What is written fits its page.
use Rattle.std.proofs.Common.{◌≡◌, ℕ, ◌+◌, ◌≤◌, ◌<◌, ◌^◌, Bool, true, false, List, [], ◌∷◌, ◌++◌, refl, arith, ap, ◌∙◌, nat_lt, length, length-append}
use Rattle.std.proofs.lemmas.List.Concat.{flat_map-cons}
use Rattle.std.specs.List.{AllByRecursion}
use Rattle.hc_types.specs.declared.config.FlashConfig.{FlashConfig}
use Rattle.hc_types.specs.Places.{is_small_by}
use Rattle.hc_types.specs.FlashEntry.{FlashEntry}
use Rattle.hc_bucket.specs.Page.{IsSmall, Fits, used, entry_bytes, entries_bytes}
use Rattle.hc_bucket.proofs.Numbers.{wide16, wide64}
use Rattle.std.specs.Int.{w16, w64, to_be_bytes}
use Rattle.std.specs.Str.{bytes_eq}
use Rattle.hc_engines.specs.small.Entries.{without, staying, page_put, size_of}
use Rattle.hc_engines.specs.small.Sound.{IsEntry, Limits}
use Rattle.hc_engines.proofs.small.Under.{differ_from, distinct_from, Differ-without, Differ-page_put}

pub size-is : (e : FlashEntry) → size_of e ≡ 12 + length e.key + length e.value
size-is e =
    let a = length-append (to_be_bytes w16 (length e.value)) (to_be_bytes w64 e.expiry ++ (e.key ++ e.value)) in
    let b = length-append (to_be_bytes w64 e.expiry) (e.key ++ e.value) in
    let d = length-append e.key e.value in
    omega (arith, a, b, d, wide16.len (length e.value), wide64.len e.expiry)

pub used-cons : (e : FlashEntry) (es : List FlashEntry) → used (e ∷ es) ≡ used es + size_of e
used-cons e es = let cut : length (entries_bytes (e ∷ es)) ≡ length (entry_bytes e) + length (entries_bytes es) = ap length (flat_map-cons entry_bytes e es) ∙ length-append (entry_bytes e) (entries_bytes es) in omega (arith, cut)

pub used-push : (es : List FlashEntry) (e : FlashEntry) → used (es ++ e ∷ []) ≡ used es + size_of e
used-push [] e = used-cons e []
used-push (x ∷ es) e = omega (arith, used-cons x (es ++ e ∷ []), used-cons x es, used-push es e)

-- a small entry is one of a page, and fits one
pub small_entry : (flash : FlashConfig) (e : FlashEntry) → Limits flash → IsEntry e → is_small_by flash e.key (length e.value) ≡ true → IsSmall e × (4 + size_of e ≤ flash.page)
small_entry flash e l h small =
    let le : length e.key + length e.value ≤ flash.small_max = grind (arith, small) in
    let s = size-is e in
    (record { some_key = h.some_key; key = h.key; value = omega (arith, le, l.small, l.most_page); pool = h.pool; expiry = h.expiry }, omega (arith, le, s, l.small, l.least_page))

-- ---- lists

each-without : (key : List ℕ) (es : List FlashEntry) → AllByRecursion IsSmall es → AllByRecursion IsSmall (without key es)
each-without key [] h = tt
each-without key (e ∷ es) h = cases (bytes_eq e.key key) refl (each-without key es h.1)
  where
    cases : (t : Bool) → bytes_eq e.key key ≡ t → AllByRecursion IsSmall (without key es) → AllByRecursion IsSmall (without key (e ∷ es))
    cases true p rest = rw p rest
    cases false p rest = rw p (h.0, rest)

each-staying : (size : ℕ) (e : FlashEntry) (es : List FlashEntry) → AllByRecursion IsSmall es → AllByRecursion IsSmall (staying size e es)
each-staying size e [] h = tt
each-staying size e (x ∷ es) h = cases (nat_lt size (used (x ∷ es) + size_of e)) refl (each-staying size e es h.1)
  where
    cases : (t : Bool) → nat_lt size (used (x ∷ es) + size_of e) ≡ t → AllByRecursion IsSmall (staying size e es) → AllByRecursion IsSmall (staying size e (x ∷ es))
    cases true p rest = rw p rest
    cases false p rest = rw p h

each-push : (es : List FlashEntry) (e : FlashEntry) → AllByRecursion IsSmall es → IsSmall e → AllByRecursion IsSmall (es ++ e ∷ [])
each-push [] e h s = (s, tt)
each-push (x ∷ es) e h s = (h.0, each-push es e h.1 s)

pub used-without : (key : List ℕ) (es : List FlashEntry) → used (without key es) ≤ used es
used-without key [] = omega arith
used-without key (e ∷ es) = cases (bytes_eq e.key key) refl (used-without key es)
  where
    cases : (t : Bool) → bytes_eq e.key key ≡ t → used (without key es) ≤ used es → used (without key (e ∷ es)) ≤ used (e ∷ es)
    cases true p le = rw p (omega (arith, le, used-cons e es))
    cases false p le = rw p (omega (arith, le, used-cons e es, used-cons e (without key es)))

used-staying : (size : ℕ) (e : FlashEntry) (es : List FlashEntry) → 4 + size_of e ≤ size → used (staying size e es) + size_of e ≤ size
used-staying size e [] h = omega (arith, h)
used-staying size e (x ∷ es) h = cases (nat_lt size (used (x ∷ es) + size_of e)) refl (used-staying size e es h)
  where
    cases : (t : Bool) → nat_lt size (used (x ∷ es) + size_of e) ≡ t → used (staying size e es) + size_of e ≤ size → used (staying size e (x ∷ es)) + size_of e ≤ size
    cases true p le = rw p le
    cases false p le = rw p (grind (arith, p))

-- ---- pages

pub fits-put : (size : ℕ) (e : FlashEntry) (es : List FlashEntry) → size < 2 ^ 16 → Fits size es → IsSmall e → 4 + size_of e ≤ size → Fits size (page_put size e es)
fits-put size e es small fits one room =
    let le : used (page_put size e es) ≤ size = omega (arith, used-push (staying size e (without e.key es)) e, used-staying size e (without e.key es) room) in
    record {
      each = each-push (staying size e (without e.key es)) e (each-staying size e (without e.key es) (each-without e.key es fits.each)) one;
      distinct_keys = distinct_from (page_put size e es) (Differ-page_put size e es (differ_from es fits.distinct_keys));
      number = omega (arith, le, small);
      room = le;
    }

pub fits-without : (size : ℕ) (key : List ℕ) (es : List FlashEntry) → Fits size es → Fits size (without key es)
fits-without size key es fits = record {
  each = each-without key es fits.each;
  distinct_keys = distinct_from (without key es) (Differ-without key es (differ_from es fits.distinct_keys));
  number = omega (arith, used-without key es, fits.number);
  room = omega (arith, used-without key es, fits.room);
}

pub fits-none : (size : ℕ) → 4 ≤ size → Fits size []
fits-none size h = record { each = tt; distinct_keys = refl; number = omega arith; room = omega (arith, h) }
