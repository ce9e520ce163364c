-- Entries read where they stand, one after the other.
use Rattle.std.proofs.Common.{◌≡◌, ◌≢◌, ℕ, zero, suc, ◌+◌, ◌-◌, ◌*◌, ◌%◌, ◌^◌, ◌<◌, ◌≤◌, ◌==◌, Bool, true, false, not, ◌&&◌, ◌||◌, List, [], ◌∷◌, ◌++◌, length, Option, Some, None, refl, sym, ap, ◌∙◌, append_assoc, append-nil, arith, nat_eq, subst}
use Rattle.std.specs.Prelude.{is_some, IfSome, bit_or, bit_and, if◌then◌else◌}
use Rattle.std.specs.List.{list_any, list_all, AllByRecursion}
use Rattle.std.specs.Cmp.Lexicographic.{pointwise, nat_list_eq_equiv, same_text}
use Rattle.std.specs.Int.{bit_at}
use Rattle.std.proofs.lemmas.Bool.{eqb-true}
use Rattle.std.proofs.lemmas.List.{nil_from_length}
use Rattle.std.proofs.lemmas.Nat.{and_or_self, one_shl}
use Rattle.std.proofs.lemmas.Nat.Bits.{bit_at_or, bit_at_and, same_from_bits}
use Rattle.hc_types.specs.FlashEntry.{FlashEntry}
use Rattle.hc_bucket.specs.Page.{distinct, entries_bytes, IsSmall, IsPage}
use Rattle.hc_bucket.specs.Reading.{◌>>=◌, entry_at, entries_at, whole_at, page_at}
use Rattle.hc_bucket.specs.Whole.{all_at, read_of, mark_at, IsWhole}
use Rattle.hc_bucket.proofs.Numbers.{IsBytes, bind_some, some_is}
use Rattle.hc_bucket.proofs.Pages.{entry_takes, entries_take, page_takes}

-- ---- one after the other

-- what was read before, and what is still read
abbrev pub with_front : List FlashEntry → Option (List FlashEntry × List ℕ) → Option (List FlashEntry × List ℕ)
with_front front read = read >>= λ x. Some (front ++ x.0, x.1)

no_front : (read : Option (List FlashEntry × List ℕ)) → read ≡ with_front [] read
no_front None = refl
no_front (Some x) = refl

one_front : (e : FlashEntry) (front : List FlashEntry) (read : Option (List FlashEntry × List ℕ)) → (with_front front read >>= λ x. Some (e ∷ x.0, x.1)) ≡ with_front (e ∷ front) read
one_front e front None = refl
one_front e front (Some x) = refl

pub joined : (n m : ℕ) (bytes : List ℕ) (x : List FlashEntry × List ℕ) → entries_at n bytes ≡ Some x → entries_at (n + m) bytes ≡ with_front x.0 (entries_at m x.1)
unfolding entries_at
joined zero m bytes x h =
    let same : ([], bytes) ≡ x = some_is ([], bytes) x h in
    let none : 0 + m ≡ m = omega arith in
    ap (λ n. entries_at n bytes) none ∙ no_front (entries_at m bytes) ∙ ap (λ (y : List FlashEntry × List ℕ). with_front y.0 (entries_at m y.1)) same
joined (suc n) m bytes x h =
    let a = bind_some (entry_at bytes) (λ first. entries_at n first.1 >>= λ others. Some (first.0 ∷ others.0, others.1)) x h in
    let b = bind_some (entries_at n a.0.1) (λ others. Some (a.0.0 ∷ others.0, others.1)) x a.2 in
    let more = joined n m a.0.1 b.0 b.1 in
    let same : (a.0.0 ∷ b.0.0, b.0.1) ≡ x = some_is (a.0.0 ∷ b.0.0, b.0.1) x b.2 in
    let longer : suc n + m ≡ suc (n + m) = omega arith in
    ap (λ k. entries_at k bytes) longer ∙ ap (λ (o : Option (FlashEntry × List ℕ)). o >>= λ first. entries_at (n + m) first.1 >>= λ others. Some (first.0 ∷ others.0, others.1)) a.1
    ∙ ap (λ (o : Option (List FlashEntry × List ℕ)). o >>= λ others. Some (a.0.0 ∷ others.0, others.1)) more
    ∙ one_front a.0.0 b.0.0 (entries_at m b.0.1)
    ∙ ap (λ (y : List FlashEntry × List ℕ). with_front y.0 (entries_at m y.1)) same

-- so many were read, and the rest stands behind them
abbrev IsRead : List ℕ → ℕ → List ℕ → Type 0
IsRead bytes i rest = entries_at i bytes ≡ Some (all_at i bytes, rest)

-- one more is read
one_more : (bytes rest after : List ℕ) (i : ℕ) (e : FlashEntry) → IsRead bytes i rest → entry_at rest ≡ Some (e, after) → entries_at (i + 1) bytes ≡ Some (all_at i bytes ++ e ∷ [], after)
unfolding entries_at
one_more bytes rest after i e h here = joined i 1 bytes (all_at i bytes, rest) h ∙ rw here refl

all_more : (bytes rest after : List ℕ) (i : ℕ) (e : FlashEntry) → IsRead bytes i rest → entry_at rest ≡ Some (e, after) → all_at (i + 1) bytes ≡ all_at i bytes ++ e ∷ []
all_more bytes rest after i e h here = ap read_of (one_more bytes rest after i e h here)

is_read : (bytes rest after : List ℕ) (i : ℕ) (e : FlashEntry) → IsRead bytes i rest → entry_at rest ≡ Some (e, after) → IsRead bytes (i + 1) after
is_read bytes rest after i e h here = one_more bytes rest after i e h here ∙ ap (λ (es : List FlashEntry). Some (es, after)) (sym (all_more bytes rest after i e h here))

-- all of them, from the ones that were read
all_of : (bytes rest : List ℕ) (i count : ℕ) → i ≤ count → IsRead bytes i rest → entries_at count bytes ≡ with_front (all_at i bytes) (entries_at (count - i) rest)
all_of bytes rest i count le h = let sum : i + (count - i) ≡ count = omega arith in ap (λ n. entries_at n bytes) (sym sum) ∙ joined i (count - i) bytes (all_at i bytes, rest) h

pub none-some : {X : Type 0} (x : X) → None ≡ Some x → ⊥
none-some x h = absurd cc

-- where the next one can't be read, they can't
pub none_more : (bytes rest : List ℕ) (i count : ℕ) → i < count → IsRead bytes i rest → entry_at rest ≡ None → entries_at count bytes ≡ None
unfolding entries_at
none_more bytes rest i count lt h none =
    let k : count - i ≡ suc (count - i - 1) = omega arith in
    all_of bytes rest i count (omega arith) h ∙ ap (λ n. with_front (all_at i bytes) (entries_at n rest)) k ∙ rw none refl

-- ---- keys

abbrev pub among : List ℕ → List FlashEntry → Bool
among key es = list_any (λ other. pointwise nat_eq other.key key) es

or_assoc : (x y z : Bool) → ((x || y) || z) ≡ (x || (y || z))
or_assoc true y z = refl
or_assoc false y z = refl

among-append : (key : List ℕ) (xs ys : List FlashEntry) → among key (xs ++ ys) ≡ (among key xs || among key ys)
among-append key [] ys = refl
among-append key (x ∷ xs) ys = ap (λ (b : Bool). pointwise nat_eq x.key key || b) (among-append key xs ys) ∙ sym (or_assoc (pointwise nat_eq x.key key) (among key xs) (among key ys))

or_true : (b : Bool) → (b || true) ≡ true
or_true true = refl
or_true false = refl

and_false : (b : Bool) → (b && false) ≡ false
and_false true = refl
and_false false = refl

-- an entry with this key stands among them
pub stands : (key : List ℕ) (front more : List FlashEntry) (e : FlashEntry) → pointwise nat_eq e.key key ≡ true → among key (front ++ e ∷ more) ≡ true
stands key front more e h = among-append key front (e ∷ more) ∙ ap (λ (b : Bool). among key front || (b || among key more)) h ∙ or_true (among key front)

same-swap : (a b : List ℕ) → pointwise nat_eq a b ≡ pointwise nat_eq b a
same-swap a b = nat_list_eq_equiv.symm a b

-- a key that is there already stands twice
pub doubled : (front more : List FlashEntry) (e : FlashEntry) → among e.key front ≡ true → distinct (front ++ e ∷ more) ≡ false
doubled [] more e h = absurd cc
doubled (x ∷ front) more e h = cases (pointwise nat_eq x.key e.key) refl (doubled front more e)
  where
    cases : (t : Bool) → pointwise nat_eq x.key e.key ≡ t → (among e.key front ≡ true → distinct (front ++ e ∷ more) ≡ false) → distinct (x ∷ (front ++ e ∷ more)) ≡ false
    cases true p next = ap (λ (b : Bool). not b && distinct (front ++ e ∷ more)) (stands x.key front more e (same-swap e.key x.key ∙ p))
    cases false p next =
        let there : among e.key front ≡ true = ap (λ (b : Bool). b || among e.key front) (sym p) ∙ h in
        ap (λ (b : Bool). not (among x.key (front ++ e ∷ more)) && b) (next there) ∙ and_false (not (among x.key (front ++ e ∷ more)))

and-true : (x y : Bool) → (x && y) ≡ true → (x ≡ true) × (y ≡ true)
and-true true y h = (refl, h)
and-true false y h = absurd cc

not-true : (x : Bool) → not x ≡ true → x ≡ false
not-true true h = absurd cc
not-true false h = refl

or-false : (x y : Bool) → (x || y) ≡ false → (x ≡ false) × (y ≡ false)
or-false true y h = absurd cc
or-false false y h = (refl, h)

-- a new key leaves them distinct
pub still_distinct : (front : List FlashEntry) (e : FlashEntry) → distinct front ≡ true → among e.key front ≡ false → distinct (front ++ e ∷ []) ≡ true
still_distinct [] e d n = refl
still_distinct (x ∷ front) e d n =
    let apart = or-false (pointwise nat_eq x.key e.key) (among e.key front) n in
    let before = and-true (not (among x.key front)) (distinct front) d in
    let here : among x.key (front ++ e ∷ []) ≡ false = among-append x.key front (e ∷ []) ∙ (λ i. not-true (among x.key front) before.0 i || ((same-swap e.key x.key ∙ apart.0) i || false)) in
    (λ i. not (here i) && still_distinct front e before.1 apart.1 i)

-- ---- marks

-- the marks of all their keys are set
abbrev pub Marks : ℕ → List FlashEntry → Type 0
Marks marks es = (key : List ℕ) → among key es ≡ true → bit_and marks (mark_at key) ≡ mark_at key

-- a bit that is set stays set when more are set
pub stays : (word more bits : ℕ) → bit_and word bits ≡ bits → bit_and (bit_or word more) bits ≡ bits
stays word more bits h = same_from_bits (bit_and (bit_or word more) bits) bits each
  where
    each : (i : ℕ) → bit_at (bit_and (bit_or word more) bits) i ≡ bit_at bits i
    each i =
        let here : bit_at (bit_and word bits) i ≡ bit_at bits i = ap (λ n. bit_at n i) h in
        let a = bit_at_and word bits i in
        let b = bit_at_and (bit_or word more) bits i in
        let c = bit_at_or word more i in
        grind (arith, here, a, b, c)

marks_more : (marks : ℕ) (es : List FlashEntry) (e : FlashEntry) → Marks marks es → Marks (bit_or marks (mark_at e.key)) (es ++ e ∷ [])
marks_more marks es e m key h = cases (among key es) refl
  where
    here : (t : Bool) → pointwise nat_eq e.key key ≡ t → (t || false) ≡ true → bit_and (bit_or marks (mark_at e.key)) (mark_at key) ≡ mark_at key
    here true p h = ap (λ (k : List ℕ). bit_and (bit_or marks (mark_at k)) (mark_at key)) (same_text e.key key (sym p)) ∙ and_or_self (mark_at key) marks
    here false p h = absurd cc

    cases : (t : Bool) → among key es ≡ t → bit_and (bit_or marks (mark_at e.key)) (mark_at key) ≡ mark_at key
    cases true p = stays marks (mark_at e.key) (mark_at key) (m key p)
    cases false p = here (pointwise nat_eq e.key key) refl (ap (λ (b : Bool). b || (pointwise nat_eq e.key key || false)) (sym p) ∙ sym (among-append key es (e ∷ [])) ∙ h)

-- ---- a key is looked for

pub record Passed (bytes key : List ℕ) (count i : ℕ) (rest : List ℕ) : Type 0 where
  pub le : i ≤ count
  pub read : entries_at i bytes ≡ Some (all_at i bytes, rest)
  pub none : among key (all_at i bytes) ≡ false

pub passed_first : (bytes key : List ℕ) (count : ℕ) → Passed bytes key count 0 bytes
unfolding entries_at
passed_first bytes key count = record { le = omega arith; read = refl; none = refl }

pub passed_more : (bytes key : List ℕ) (count i : ℕ) (rest after : List ℕ) (e : FlashEntry) → i < count → entry_at rest ≡ Some (e, after) → pointwise nat_eq e.key key ≡ false → Passed bytes key count i rest → Passed bytes key count (i + 1) after
passed_more bytes key count i rest after e lt here other p = record {
  le = omega (arith, lt);
  read = is_read bytes rest after i e p.read here;
  none = ap (among key) (all_more bytes rest after i e p.read here) ∙ among-append key (all_at i bytes) (e ∷ []) ∙ (λ j. p.none j || (other j || false));
}

pub passed_stops : (bytes key : List ℕ) (count i : ℕ) (rest : List ℕ) (front : List FlashEntry) (behind : List ℕ) → i < count → entry_at rest ≡ None → Passed bytes key count i rest → entries_at count bytes ≡ Some (front, behind) → false ≡ among key front
passed_stops bytes key count i rest front behind lt none p all = absurd (none-some (front, behind) (sym (none_more bytes rest i count lt p.read none) ∙ all))

pub passed_here : (bytes key : List ℕ) (count i : ℕ) (rest after : List ℕ) (e : FlashEntry) (front : List FlashEntry) (behind : List ℕ) → i < count → entry_at rest ≡ Some (e, after) → pointwise nat_eq e.key key ≡ true → Passed bytes key count i rest
    → entries_at count bytes ≡ Some (front, behind) → true ≡ among key front
passed_here bytes key count i rest after e front behind lt here same p all =
    let next = is_read bytes rest after i e p.read here in
    let whole : with_front (all_at (i + 1) bytes) (entries_at (count - (i + 1)) after) ≡ Some (front, behind) = sym (all_of bytes after (i + 1) count (omega (arith, lt)) next) ∙ all in
    let more = bind_some (entries_at (count - (i + 1)) after) (λ x. Some (all_at (i + 1) bytes ++ x.0, x.1)) (front, behind) whole in
    let front-is : all_at (i + 1) bytes ++ more.0.0 ≡ front = ap (λ (x : List FlashEntry × List ℕ). x.0) (some_is _ (front, behind) more.2) in
    let split : (all_at i bytes ++ e ∷ []) ++ more.0.0 ≡ front = ap (λ (es : List FlashEntry). es ++ more.0.0) (sym (all_more bytes rest after i e p.read here)) ∙ front-is in
    let cut : all_at i bytes ++ e ∷ more.0.0 ≡ front = sym (append_assoc (all_at i bytes) (e ∷ []) more.0.0) ∙ split in
    sym (ap (among key) (sym cut) ∙ stands key (all_at i bytes) more.0.0 e same)

pub passed_all : (bytes key : List ℕ) (count i : ℕ) (rest : List ℕ) (front : List FlashEntry) (behind : List ℕ) → count ≤ i → Passed bytes key count i rest → entries_at count bytes ≡ Some (front, behind) → false ≡ among key front
passed_all bytes key count i rest front behind ge p all =
    let same : i ≡ count = omega (arith, ge, p.le) in
    let both : Some (all_at i bytes, rest) ≡ Some (front, behind) = sym p.read ∙ ap (λ n. entries_at n bytes) same ∙ all in
    sym (ap (among key) (sym (ap (λ (x : List FlashEntry × List ℕ). x.0) (some_is _ (front, behind) both))) ∙ p.none)

-- ---- all are looked at

pub record Scanned (bytes : List ℕ) (count i marks : ℕ) (rest : List ℕ) : Type 0 where
  pub le : i ≤ count
  pub read : entries_at i bytes ≡ Some (all_at i bytes, rest)
  pub differ : distinct (all_at i bytes) ≡ true
  pub marked : Marks marks (all_at i bytes)

pub scan_first : (bytes : List ℕ) (count : ℕ) → Scanned bytes count 0 0 bytes
unfolding entries_at
scan_first bytes count = record { le = omega arith; read = refl; differ = refl; marked = λ key h. absurd cc }

pub scan_stops : (bytes : List ℕ) (count i marks : ℕ) (rest : List ℕ) → i < count → entry_at rest ≡ None → Scanned bytes count i marks rest → false ≡ is_some (whole_at count bytes [])
unfolding whole_at
scan_stops bytes count i marks rest lt none s = rw (none_more bytes rest i count lt s.read none) refl

pub unset : (marks mark : ℕ) (es : List FlashEntry) (key : List ℕ) → mark ≡ mark_at key → (bit_and marks mark ≡ mark → ⊥) → Marks marks es → among key es ≡ false
unset marks mark es key is test m = cases (among key es) refl
  where
    cases : (t : Bool) → among key es ≡ t → among key es ≡ false
    cases false p = p
    cases true p = absurd (test (ap (bit_and marks) is ∙ m key p ∙ sym is))

pub scan_more : (bytes : List ℕ) (count i marks : ℕ) (rest after : List ℕ) (e : FlashEntry) → i < count → entry_at rest ≡ Some (e, after) → among e.key (all_at i bytes) ≡ false → Scanned bytes count i marks rest
    → Scanned bytes count (i + 1) (bit_or marks (mark_at e.key)) after
scan_more bytes count i marks rest after e lt here new s =
    let more = all_more bytes rest after i e s.read here in
    record {
      le = omega (arith, lt);
      read = is_read bytes rest after i e s.read here;
      differ = ap distinct more ∙ still_distinct (all_at i bytes) e s.differ new;
      marked = subst (λ (es : List FlashEntry). Marks (bit_or marks (mark_at e.key)) es) (sym more) (marks_more marks (all_at i bytes) e s.marked);
    }

pub scan_twice : (bytes : List ℕ) (count i marks : ℕ) (rest after : List ℕ) (e : FlashEntry) → i < count → entry_at rest ≡ Some (e, after) → among e.key (all_at i bytes) ≡ true → Scanned bytes count i marks rest → false ≡ is_some (whole_at count bytes [])
unfolding whole_at
scan_twice bytes count i marks rest after e lt here twice s = sym (ap (λ (o : Option (List FlashEntry × List ℕ)). is_some (o >>= λ es. if length es.1 == 0 && true && distinct es.0 then Some es.0 else None)) all ∙ go (entries_at (count - (i + 1)) after))
  where
    front : List FlashEntry
    front = all_at i bytes ++ e ∷ []

    all : entries_at count bytes ≡ with_front (all_at i bytes ++ e ∷ []) (entries_at (count - (i + 1)) after)
    all = all_of bytes after (i + 1) count (omega (arith, lt)) (is_read bytes rest after i e s.read here) ∙ ap (λ (es : List FlashEntry). with_front es (entries_at (count - (i + 1)) after)) (all_more bytes rest after i e s.read here)

    go : (o : Option (List FlashEntry × List ℕ)) → is_some (with_front (all_at i bytes ++ e ∷ []) o >>= λ es. if length es.1 == 0 && true && distinct es.0 then Some es.0 else None) ≡ false
    go None = refl
    go (Some x) =
        let same : distinct ((all_at i bytes ++ e ∷ []) ++ x.0) ≡ false = ap distinct (append_assoc (all_at i bytes) (e ∷ []) x.0) ∙ doubled (all_at i bytes) x.0 e twice in
        ap (λ (b : Bool). is_some (if length x.1 == 0 && true && b then Some ((all_at i bytes ++ e ∷ []) ++ x.0) else None)) same
        ∙ ap (λ (b : Bool). is_some (if b then Some ((all_at i bytes ++ e ∷ []) ++ x.0) else None)) (and_false (length x.1 == 0 && true))

pub scan_all : (bytes : List ℕ) (count i marks : ℕ) (rest : List ℕ) → count ≤ i → Scanned bytes count i marks rest → (length rest == 0) ≡ is_some (whole_at count bytes [])
unfolding whole_at
scan_all bytes count i marks rest ge s =
    let same : i ≡ count = omega (arith, ge, s.le) in
    sym (ap (λ (o : Option (List FlashEntry × List ℕ)). is_some (o >>= λ es. if length es.1 == 0 && true && distinct es.0 then Some es.0 else None)) (ap (λ n. entries_at n bytes) (sym same) ∙ s.read) ∙ ap (λ (b : Bool). is_some (if length rest == 0 && true && b then Some (all_at i bytes) else None)) s.differ ∙ last (length rest == 0))
  where
    last : (t : Bool) → is_some (if t && true && true then Some (all_at i bytes) else None) ≡ t
    last true = refl
    last false = refl

-- ---- the first of whole entries

pub whole_stops : (count : ℕ) (bytes : List ℕ) → count ≢ 0 → IsWhole count bytes → entry_at bytes ≡ None → ⊥
unfolding entries_at
whole_stops zero bytes some w none = some refl
whole_stops (suc n) bytes some w none = none-some (all_at (suc n) bytes, []) (sym (ap (λ (o : Option (FlashEntry × List ℕ)). o >>= λ first. entries_at n first.1 >>= λ others. Some (first.0 ∷ others.0, others.1)) none) ∙ w.read)

pub record Follows (n count : ℕ) (bytes : List ℕ) (e : FlashEntry) (after : List ℕ) : Type 0 where
  pub whole : IsWhole n after
  pub first : all_at count bytes ≡ e ∷ all_at n after

follows : (n : ℕ) (bytes : List ℕ) (e : FlashEntry) (after : List ℕ) → IsWhole (suc n) bytes → entry_at bytes ≡ Some (e, after) → Follows n (suc n) bytes e after
unfolding entries_at
follows n bytes e after w here =
    let read : (entries_at n after >>= λ others. Some (e ∷ others.0, others.1)) ≡ Some (all_at (suc n) bytes, []) = sym (ap (λ (o : Option (FlashEntry × List ℕ)). o >>= λ first. entries_at n first.1 >>= λ others. Some (first.0 ∷ others.0, others.1)) here) ∙ w.read in
    let b = bind_some (entries_at n after) (λ others. Some (e ∷ others.0, others.1)) (all_at (suc n) bytes, []) read in
    let both = some_is (e ∷ b.0.0, b.0.1) (all_at (suc n) bytes, []) b.2 in
    let done : b.0.1 ≡ [] = ap (λ (x : List FlashEntry × List ℕ). x.1) both in
    let all : e ∷ b.0.0 ≡ all_at (suc n) bytes = ap (λ (x : List FlashEntry × List ℕ). x.0) both in
    let rest-is : all_at n after ≡ b.0.0 = ap read_of b.1 in
    let first = entry_takes bytes (e, after) w.fits here in
    let taken = entries_take n after b.0 first.0.rest_fits b.1 in
    let spelled : after ≡ entries_bytes b.0.0 = taken.0.parts ∙ ap (λ (z : List ℕ). entries_bytes b.0.0 ++ z) done ∙ append-nil (entries_bytes b.0.0) in
    record {
      whole = record {
        fits = first.0.rest_fits;
        read = b.1 ∙ (λ i. Some (sym rest-is i, done i));
        spelled = spelled ∙ ap entries_bytes (sym rest-is);
        each = subst (λ (es : List FlashEntry). AllByRecursion IsSmall es) (sym rest-is) taken.2;
      };
      first = sym all ∙ ap (λ (es : List FlashEntry). e ∷ es) (sym rest-is);
    }

pub whole_next : (count : ℕ) (bytes : List ℕ) (e : FlashEntry) (after : List ℕ) → count ≢ 0 → IsWhole count bytes → entry_at bytes ≡ Some (e, after) → Follows (count - 1) count bytes e after
whole_next zero bytes e after some w here = absurd (some refl)
whole_next (suc n) bytes e after some w here = let less : suc n - 1 ≡ n = omega arith in subst (λ m. Follows m (suc n) bytes e after) (sym less) (follows n bytes e after w here)

-- whole bytes, by what was asked of them
pub is_whole_by : (count : ℕ) (bytes : List ℕ) → IsBytes bytes → is_some (whole_at count bytes []) ≡ true → IsWhole count bytes
unfolding whole_at
is_whole_by count bytes fits h = go (entries_at count bytes) refl h
  where
    go : (o : Option (List FlashEntry × List ℕ)) → entries_at count bytes ≡ o → is_some (o >>= λ es. if length es.1 == 0 && true && distinct es.0 then Some es.0 else None) ≡ true → IsWhole count bytes
    go None e h = absurd cc
    go (Some x) e h =
        let test = is-true (length x.1 == 0) (distinct x.0) x.0 h in
        let done : x.1 ≡ [] = nil_from_length x.1 (eqb-true _ _ test) in
        let all : all_at count bytes ≡ x.0 = ap read_of e in
        let taken = entries_take count bytes x fits e in
        record {
          fits = fits;
          read = e ∙ (λ i. Some (sym all i, done i));
          spelled = taken.0.parts ∙ ap (λ (z : List ℕ). entries_bytes x.0 ++ z) done ∙ append-nil (entries_bytes x.0) ∙ ap entries_bytes (sym all);
          each = subst (λ (es : List FlashEntry). AllByRecursion IsSmall es) (sym all) taken.2;
        }
      where
        is-true : (a b : Bool) (es : List FlashEntry) → is_some (if a && true && b then Some es else None) ≡ true → a ≡ true
        is-true true b es h = refl
        is-true false b es h = absurd cc

-- what is read of bytes that were looked at
pub whole_is : (count : ℕ) (bytes unused : List ℕ) → whole_at count bytes unused ≡ (if list_all (λ b. b == 0) unused && is_some (whole_at count bytes []) then Some (all_at count bytes) else None)
unfolding whole_at
whole_is count bytes unused = go (entries_at count bytes) (list_all (λ b. b == 0) unused)
  where
    each : (a z d : Bool) (es : List FlashEntry) → (if a && z && d then Some es else None) ≡ (if z && is_some (if a && true && d then Some es else None) then Some es else None)
    each true true true es = refl
    each true true false es = refl
    each true false d es = refl
    each false true d es = refl
    each false false d es = refl

    go : (o : Option (List FlashEntry × List ℕ)) (z : Bool)
        → (o >>= λ es. if length es.1 == 0 && z && distinct es.0 then Some es.0 else None) ≡ (if z && is_some (o >>= λ es. if length es.1 == 0 && true && distinct es.0 then Some es.0 else None) then Some (read_of o) else None)
    go None true = refl
    go None false = refl
    go (Some x) z = each (length x.1 == 0) z (distinct x.0) x.0

pub none_are : (count : ℕ) (bytes : List ℕ) → count ≡ 0 → all_at count bytes ≡ []
unfolding entries_at
none_are zero bytes h = refl
none_are (suc n) bytes h = absurd (omega (arith, h))

-- a page that is read is one of the entries that it gave
pub is_page : (size : ℕ) (page : List ℕ) (read : Option (List FlashEntry)) → IsBytes page → read ≡ page_at size page → IfSome read (λ es. IsPage size es page)
is_page size page None fits h = tt
is_page size page (Some es) fits h = page_takes size page es fits (sym h)

pub one_mark : (digest : ℕ) → (1 * 2 ^ (digest % 64)) % 2 ^ 64 ≡ 2 ^ (digest % 64)
one_mark digest = one_shl (digest % 64) 64 (omega arith)

-- no bytes are no entries
pub none_whole : IsWhole 0 []
unfolding entries_at
none_whole = record { fits = λ i. omega arith; read = refl; spelled = refl; each = tt }
