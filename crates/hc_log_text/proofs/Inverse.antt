-- What was read of the first fields tells them.
use Rattle.std.proofs.Common.{◌≡◌, ℕ, ◌-◌, ◌<◌, ◌==◌, nat_le, nat_lt, Bool, true, false, not, ◌&&◌, ◌⊎◌, inl, inr, List, [], ◌∷◌, ◌++◌, length, take, drop, slice_index, replicate, zero, suc, Option, Some, None, unwrap_or, option_map, refl, sym, ap, ◌∙◌, arith, if◌then◌else◌}
use Rattle.std.proofs.lemmas.Bool.{and_from, and_parts, eqb-true}
use Rattle.std.proofs.lemmas.Slice.Eq.{bytes_eq-Decides}
use Rattle.std.proofs.lemmas.List.{drop_all, length-replicate}
use Rattle.std.proofs.Math.Seq.{split_at}
use Rattle.std.specs.Char.{is_ascii_digit}
use Rattle.std.specs.List.{list_all}
use Rattle.std.specs.Fmt.{decimal}
use Rattle.std.specs.Str.{bytes_eq}
use Rattle.hc_trace_text.specs.Numbers.{number_of, number_below, below, IsNumberOf, is_visible, is_key, times, repeated_of, value_of}
use Rattle.hc_trace_text.specs.Texts.{is_repeated, first_of, value_text}
use Rattle.hc_trace_text.proofs.Decimals.{is-number}
use Rattle.hc_log_text.specs.Said.{is_shown, is_short}
use Rattle.hc_log_text.specs.Reading.{ended, number_at, number_alone, is_short_key, key_at, key_alone, is_starred, is_proper, proper_value, value_at, value_alone, ◌>>=◌}

pub none-is-not-some : {A : Type 0} (x : A) → None ≡ Some x → ⊥
none-is-not-some x e = cc

pub same : {A : Type 0} (x y : A) → Some x ≡ Some y → x ≡ y
same x y e = ap (λ o. unwrap_or o y) e

-- a step that came out went by what came out of the one before
pub record Bound {A B : Type 0} (o : Option A) (f : A → Option B) (y : B) : Type 0 where
  pub first : A
  pub is : o ≡ Some first
  pub next : f first ≡ Some y

pub bound : {A B : Type 0} (o : Option A) (f : A → Option B) (y : B) → (o >>= f) ≡ Some y → Bound o f y
bound None f y e = absurd (none-is-not-some y e)
bound (Some x) f y e = record { first = x; is = refl; next = e }

pub record Mapped {A B : Type 0} (o : Option A) (f : A → B) (y : B) : Type 0 where
  pub first : A
  pub is : o ≡ Some first
  pub gives : f first ≡ y

pub mapped : {A B : Type 0} (f : A → B) (o : Option A) (y : B) → option_map f o ≡ Some y → Mapped o f y
mapped f None y e = absurd (none-is-not-some y e)
mapped f (Some x) y e = record { first = x; is = refl; gives = same (f x) y e }

by-test : {A : Type 0} (word w : List ℕ) (a b : Option A) (y : A) (test : Bool) → bytes_eq word w ≡ test → (if test then a else b) ≡ Some y → ((word ≡ w) × (a ≡ Some y)) ⊎ (b ≡ Some y)
by-test word w a b y true e h = inl ((bytes_eq-Decides word w).0 e, h)
by-test word w a b y false e h = inr h

-- it is this word, or another
pub chosen : {A : Type 0} (word w : List ℕ) (a b : Option A) (y : A) → (if bytes_eq word w then a else b) ≡ Some y → ((word ≡ w) × (a ≡ Some y)) ⊎ (b ≡ Some y)
chosen word w a b y h = by-test word w a b y (bytes_eq word w) refl h

pub tested : {A : Type 0} (test : Bool) (a : Option A) (y : A) → (if test then a else None) ≡ Some y → (test ≡ true) × (a ≡ Some y)
tested true a y h = (refl, h)
tested false a y h = absurd (none-is-not-some y h)

pub record Ended {A : Type 0} (x : A) (fields : List (List ℕ)) (y : A) : Type 0 where
  pub none : fields ≡ []
  pub is : x ≡ y

pub ended-is : {A : Type 0} (x : A) (fields : List (List ℕ)) (y : A) → ended x fields ≡ Some y → Ended x fields y
ended-is x [] y h = record { none = refl; is = same x y h }
ended-is x (field ∷ fields) y h = absurd (none-is-not-some y h)

-- ---- numbers

pub record Number (limit : ℕ) (fields : List (List ℕ)) (n : ℕ) (rest : List (List ℕ)) : Type 0 where
  pub fields-are : fields ≡ decimal n ∷ rest
  pub small : nat_lt n limit ≡ true

is-below : (limit : ℕ) (o : Option ℕ) (n : ℕ) → below limit o ≡ Some n → (o ≡ Some n) × (nat_lt n limit ≡ true)
is-below limit None n h = absurd (none-is-not-some n h)
is-below limit (Some m) n h =
    let t = tested (nat_lt m limit) (Some m) n h in
    let e = same m n t.1 in
    (t.1, sym (ap (λ k. nat_lt k limit) e) ∙ t.0)

printed : (text : List ℕ) (o : Option ℕ) (n : ℕ) → o ≡ Some n → IsNumberOf text o → text ≡ decimal n
printed text None n e h = absurd (none-is-not-some n e)
printed text (Some m) n e h = h.1 ∙ ap decimal (same m n e)

pub number-first : (limit : ℕ) (fields : List (List ℕ)) (p : ℕ × List (List ℕ)) → number_at limit fields ≡ Some p → Number limit fields p.0 p.1
number-first limit [] p h = absurd (none-is-not-some p h)
number-first limit (field ∷ fields) p h =
    let m = mapped (λ n. (n, fields)) (number_below limit field) p h in
    let b = is-below limit (number_of field) m.first m.is in
    let n : m.first ≡ p.0 = ap (λ q. q.0) m.gives in
    let rest : fields ≡ p.1 = ap (λ q. q.1) m.gives in
    let text = printed field (number_of field) m.first b.0 (is-number field) in
    record { fields-are = λ i. (text ∙ ap decimal n) i ∷ rest i; small = sym (ap (λ k. nat_lt k limit) n) ∙ b.1 }

pub number-last : (limit : ℕ) (fields : List (List ℕ)) (n : ℕ) → number_alone limit fields ≡ Some n → Number limit fields n []
number-last limit fields n h =
    let b = bound (number_at limit fields) (λ p. ended p.0 p.1) n h in
    let f = number-first limit fields b.first b.is in
    let e = ended-is b.first.0 b.first.1 n b.next in
    record { fields-are = f.fields-are ∙ (λ i. decimal (e.is i) ∷ e.none i); small = sym (ap (λ k. nat_lt k limit) e.is) ∙ f.small }

-- ---- keys

pub record KeyText (fields : List (List ℕ)) (key : List ℕ) (rest : List (List ℕ)) : Type 0 where
  pub fields-are : fields ≡ key ∷ rest
  pub shown : is_key key ≡ true
  pub short : is_short key ≡ true

pub key-first : (fields : List (List ℕ)) (p : List ℕ × List (List ℕ)) → key_at fields ≡ Some p → KeyText fields p.0 p.1
key-first [] p h = absurd (none-is-not-some p h)
key-first (field ∷ fields) p h =
    let t = tested (is_short_key field) (Some (field, fields)) p h in
    let e = same (field, fields) p t.1 in
    let parts = and_parts (is_short field) (is_key field) t.0 in
    let text : field ≡ p.0 = ap (λ q. q.0) e in
    record { fields-are = λ i. (e i).0 ∷ (e i).1; shown = sym (ap is_key text) ∙ parts.1; short = sym (ap is_short text) ∙ parts.0 }

pub key-last : (fields : List (List ℕ)) (key : List ℕ) → key_alone fields ≡ Some key → KeyText fields key []
key-last fields key h =
    let b = bound (key_at fields) (λ p. ended p.0 p.1) key h in
    let f = key-first fields b.first b.is in
    let e = ended-is b.first.0 b.first.1 key b.next in
    record { fields-are = f.fields-are ∙ (λ i. e.is i ∷ e.none i); shown = sym (ap is_key e.is) ∙ f.shown; short = sym (ap is_short e.is) ∙ f.short }

-- ---- values

pub record ValueText (fields : List (List ℕ)) (value : List ℕ) (rest : List (List ℕ)) : Type 0 where
  pub fields-are : fields ≡ value_text value ∷ rest
  pub shown : is_shown value ≡ true

-- a text that is the value's
abbrev IsText : List ℕ → List ℕ → Type 0
IsText text value = (text ≡ value_text value) × (is_shown value ≡ true)

false-and : (b c : Bool) → (not b && c) ≡ true → (b ≡ false) × (c ≡ true)
false-and false c h = (refl, h)
false-and true c h = cc

plain-text : (rest value : List ℕ) → (if list_all is_visible rest then Some rest else None) ≡ Some value → is_proper false value ≡ true → IsText (61 ∷ rest) value
plain-text rest value h p =
    let t = tested (list_all is_visible rest) (Some rest) value h in
    let e = same rest value t.1 in
    let q = false-and (is_repeated value) (nat_le (length value) 2097152) p in
    (ap (λ v. 61 ∷ v) e ∙ rw q.0 refl, and_from (list_all is_visible value) _ (sym (ap (list_all is_visible) e) ∙ t.0) q.1)

record Times (o : Option ℕ) (c : ℕ) (value : List ℕ) : Type 0 where
  n : ℕ
  is : o ≡ Some n
  low : nat_le 1 n ≡ true
  high : nat_le n 2097152 ≡ true
  value-is : replicate n c ≡ value

times-are : (o : Option ℕ) (c : ℕ) (value : List ℕ) → times o c ≡ Some value → Times o c value
times-are None c value h = absurd (none-is-not-some value h)
times-are (Some n) c value h =
    let t = tested (nat_le 1 n && nat_le n 2097152) (Some (replicate n c)) value h in
    let u = and_parts (nat_le 1 n) (nat_le n 2097152) t.0 in
    record { n = n; is = refl; low = u.0; high = u.1; value-is = same (replicate n c) value t.1 }

all-visible : (n c : ℕ) → is_visible c ≡ true → list_all is_visible (replicate n c) ≡ true
all-visible zero c h = refl
all-visible (suc n) c h = and_from (is_visible c) _ h (all-visible n c h)

first-is : (n c : ℕ) → nat_le 1 n ≡ true → first_of (replicate n c) ≡ c ∷ []
first-is zero c h = cc
first-is (suc n) c h = refl

-- a last byte and those before it
parted : (text : List ℕ) → 0 < length text → text ≡ take (length text - 1) text ++ slice_index text (length text - 1) ∷ []
parted text some =
    let at : length text - 1 < length text = omega (arith, some) in
    let none : drop (suc (length text - 1)) text ≡ [] = drop_all (suc (length text - 1)) text (omega (arith, some)) in
    split_at text (length text - 1) 0 at ∙ ap (λ rest. take (length text - 1) text ++ slice_index text (length text - 1) ∷ rest) none

some-byte : (text : List ℕ) (n : ℕ) → number_of (take (length text - 1) text) ≡ Some n → 0 < length text
some-byte [] n h = absurd (none-is-not-some n h)
some-byte (c ∷ text) n h = omega arith

starred-text : (rest value : List ℕ) → repeated_of rest ≡ Some value → is_proper true value ≡ true → IsText (42 ∷ rest) value
starred-text rest value h p =
    let c = slice_index rest (length rest - 1) in
    let front = take (length rest - 1) rest in
    let t = tested (is_visible c && not (is_ascii_digit c)) (times (number_of front) c) value h in
    let seen = (and_parts (is_visible c) (not (is_ascii_digit c)) t.0).0 in
    let m = times-are (number_of front) c value t.1 in
    let digits : front ≡ decimal m.n = printed front (number_of front) m.n m.is (is-number front) in
    let whole : rest ≡ decimal m.n ++ c ∷ [] = parted rest (some-byte rest m.n m.is) ∙ ap (λ f. f ++ c ∷ []) digits in
    let long : length value ≡ m.n = sym (ap length m.value-is) ∙ length-replicate m.n c in
    let first : first_of value ≡ c ∷ [] = sym (ap first_of m.value-is) ∙ first-is m.n c m.low in
    let text : 42 ∷ decimal (length value) ++ first_of value ≡ value_text value = rw p refl in (
      ap (λ r. 42 ∷ r) whole ∙ (λ i. 42 ∷ decimal (sym long i) ++ sym first i) ∙ text,
      and_from (list_all is_visible value) _ (sym (ap (list_all is_visible) m.value-is) ∙ all-visible m.n c seen) (ap (λ k. nat_le k 2097152) long ∙ m.high),
    )

by-mark : (mark : ℕ) (rest value : List ℕ) (plain starred : Bool) → (mark == 61) ≡ plain → (mark == 42) ≡ starred
    → (if plain then (if list_all is_visible rest then Some rest else None) else (if starred then repeated_of rest else None)) ≡ Some value → is_proper starred value ≡ true → IsText (mark ∷ rest) value
by-mark mark rest value true false e f h p = rw (eqb-true mark 61 e) (plain-text rest value h p)
by-mark mark rest value true true e f h p =
    let no : 61 ≡ 42 = sym (eqb-true mark 61 e) ∙ eqb-true mark 42 f in
    absurd (omega (arith, no))
by-mark mark rest value false true e f h p = rw (eqb-true mark 42 f) (starred-text rest value h p)
by-mark mark rest value false false e f h p = absurd (none-is-not-some value h)

marked : (text value : List ℕ) → value_of text ≡ Some value → is_proper (is_starred text) value ≡ true → IsText text value
marked [] value h p = absurd (none-is-not-some value h)
marked (mark ∷ rest) value h p = by-mark mark rest value (mark == 61) (mark == 42) refl refl h p

value-text : (text value : List ℕ) → proper_value text ≡ Some value → IsText text value
value-text text value h =
    let b = bound (value_of text) (λ v. if is_proper (is_starred text) v then Some v else None) value h in
    let t = tested (is_proper (is_starred text) b.first) (Some b.first) value b.next in
    let e = same b.first value t.1 in
    marked text value (b.is ∙ ap (λ v. Some v) e) (sym (ap (is_proper (is_starred text)) e) ∙ t.0)

pub value-first : (fields : List (List ℕ)) (p : List ℕ × List (List ℕ)) → value_at fields ≡ Some p → ValueText fields p.0 p.1
value-first [] p h = absurd (none-is-not-some p h)
value-first (field ∷ fields) p h =
    let m = mapped (λ v. (v, fields)) (proper_value field) p h in
    let v = value-text field m.first m.is in
    let is : m.first ≡ p.0 = ap (λ q. q.0) m.gives in
    let rest : fields ≡ p.1 = ap (λ q. q.1) m.gives in
    record { fields-are = λ i. (v.0 ∙ ap value_text is) i ∷ rest i; shown = sym (ap is_shown is) ∙ v.1 }

pub value-last : (fields : List (List ℕ)) (value : List ℕ) → value_alone fields ≡ Some value → ValueText fields value []
value-last fields value h =
    let b = bound (value_at fields) (λ p. ended p.0 p.1) value h in
    let f = value-first fields b.first b.is in
    let e = ended-is b.first.0 b.first.1 value b.next in
    record { fields-are = f.fields-are ∙ (λ i. value_text (e.is i) ∷ e.none i); shown = sym (ap is_shown e.is) ∙ f.shown }
