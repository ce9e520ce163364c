-- What loops over a page's entries keep.
use Rattle.std.proofs.Common.{◌≡◌, ℕ, ◌+◌, ◌-◌, ◌<◌, ◌≤◌, ◌^◌, Bool, true, false, List, [], ◌∷◌, ◌++◌, length, take, drop, Some, not, refl, ap, sym, ◌∙◌, arith, nat_lt, append_assoc, append-nil, length-append}
use Rattle.std.specs.Prelude.{bit_or, if◌then◌else◌, replicate}
use Rattle.std.specs.Int.{w16, w64, to_be_bytes}
use Rattle.std.specs.Str.{bytes_eq}
use Rattle.std.specs.Int.Bits.{or_zero_l, or_zero_r}
use Rattle.std.proofs.lemmas.List.{take_at, drop_at, drop-drop}
use Rattle.std.proofs.lemmas.List.Concat.{flat_map-cons}
use Rattle.std.proofs.lemmas.Grind.{flat_map-append}
use Rattle.hc_types.specs.FlashEntry.{FlashEntry}
use Rattle.hc_bucket.specs.Page.{used, entry_bytes, entries_bytes, IsPage}
use Rattle.hc_bucket.proofs.Numbers.{wide16, wide64}
use Rattle.hc_bucket.proofs.Pages.{fewer_than_bytes, page_len}
use Rattle.hc_engines.specs.Engine.{Loss}
use Rattle.hc_engines.specs.small.Bloom.{word_of, bits_of}
use Rattle.hc_engines.specs.small.Entries.{under, without, size_of, pushed_out, staying, full_losses, put_losses}
use Rattle.hc_engines.proofs.Words.{bits_later}
use Rattle.hc_engines.proofs.small.Fitting.{used-cons, used-without, size-is}
use Rattle.hc_bighash.specs.Paged.{IsValueAt}

-- ---- the entries but that of a key

pub without_same : (key : List ℕ) (e : FlashEntry) (es : List FlashEntry) → bytes_eq e.key key ≡ true → without key (e ∷ es) ≡ without key es
without_same key e es h = rw h refl

pub without_other : (key : List ℕ) (e : FlashEntry) (es : List FlashEntry) → bytes_eq e.key key ≡ false → without key (e ∷ es) ≡ e ∷ without key es
without_other key e es h = rw h refl

bytes-cons : (e : FlashEntry) (es : List FlashEntry) → entries_bytes (e ∷ es) ≡ entry_bytes e ++ entries_bytes es
bytes-cons e es = flat_map-cons entry_bytes e es

pub differs : (b : Bool) → true ≡ not b → b ≡ false
differs true h = absurd cc
differs false h = refl

pub agrees : (b : Bool) → false ≡ not b → b ≡ true
agrees true h = refl
agrees false h = absurd cc

-- ---- they are put on a page

-- a page that was begun, with these entries and one more
pub begun_with : (xs : List FlashEntry) (e : FlashEntry) (begun more all : List ℕ) → begun ≡ replicate 4 0 ++ entries_bytes [] → more ≡ begun ++ entries_bytes xs → all ≡ more ++ entry_bytes e → all ≡ replicate 4 0 ++ entries_bytes (xs ++ e ∷ [])
begun_with xs e begun more all b m a =
    let both : entries_bytes (xs ++ e ∷ []) ≡ entries_bytes xs ++ entry_bytes e = flat_map-append entry_bytes xs (e ∷ []) ∙ ap (λ (z : List ℕ). entries_bytes xs ++ z) (bytes-cons e [] ∙ append-nil (entry_bytes e)) in
    a ∙ ap (λ (z : List ℕ). z ++ entry_bytes e) (m ∙ ap (λ (z : List ℕ). z ++ entries_bytes xs) b) ∙ ap (λ (z : List ℕ). replicate 4 0 ++ z) (sym both)

pub begun_only : (xs : List FlashEntry) (begun all : List ℕ) → begun ≡ replicate 4 0 ++ entries_bytes [] → all ≡ begun ++ entries_bytes xs → all ≡ replicate 4 0 ++ entries_bytes xs
begun_only xs begun all b a = a ∙ ap (λ (z : List ℕ). z ++ entries_bytes xs) b

pub record Keeping (key before page : List ℕ) (es rest : List FlashEntry) (count word : ℕ) : Type 0 where
  pub pages : page ++ entries_bytes (without key rest) ≡ before ++ entries_bytes (without key es)
  pub counts : count + length (without key rest) ≡ length (without key es)
  pub words : bit_or (word_of (without key rest)) word ≡ word_of (without key es)

pub none_kept : (key page : List ℕ) (es : List FlashEntry) → Keeping key page page es es 0 0
none_kept key page es = record { pages = refl; counts = omega arith; words = or_zero_r (word_of (without key es)) }

pub passes : (key before page : List ℕ) (es rest after : List FlashEntry) (e : FlashEntry) (count word : ℕ) → rest ≡ e ∷ after → bytes_eq e.key key ≡ true → Keeping key before page es rest count word → Keeping key before page es after count word
passes key before page es rest after e count word is same k =
    let left : without key rest ≡ without key after = ap (without key) is ∙ without_same key e after same in
    record { pages = ap (λ (xs : List FlashEntry). page ++ entries_bytes xs) (sym left) ∙ k.pages; counts = omega (arith, ap length left, k.counts); words = ap (λ (xs : List FlashEntry). bit_or (word_of xs) word) (sym left) ∙ k.words }

pub stays_on : (key before page longer : List ℕ) (es rest after : List FlashEntry) (e : FlashEntry) (count word bits : ℕ) → rest ≡ e ∷ after → bytes_eq e.key key ≡ false → longer ≡ page ++ entry_bytes e → bits ≡ bits_of e.key
    → Keeping key before page es rest count word → Keeping key before longer es after (count + 1) (bit_or word bits)
stays_on key before page longer es rest after e count word bits is other more set k =
    let left : without key rest ≡ e ∷ without key after = ap (without key) is ∙ without_other key e after other in
    record {
      pages = ap (λ (xs : List ℕ). xs ++ entries_bytes (without key after)) more ∙ append_assoc page (entry_bytes e) (entries_bytes (without key after)) ∙ ap (λ (xs : List ℕ). page ++ xs) (sym (ap entries_bytes left ∙ bytes-cons e (without key after))) ∙ k.pages;
      counts = omega (arith, ap length left, k.counts);
      words = ap (λ b. bit_or (word_of (without key after)) (bit_or word b)) set ∙ bits_later (word_of (without key after)) word (bits_of e.key) ∙ ap (λ (xs : List FlashEntry). bit_or (word_of xs) word) (sym left) ∙ k.words;
    }

-- there are fewer than what a page can count
pub few : (key before page : List ℕ) (es rest after : List FlashEntry) (e : FlashEntry) (count word : ℕ) → rest ≡ e ∷ after → bytes_eq e.key key ≡ false → used es < 2 ^ 16 → Keeping key before page es rest count word → count + 1 < 2 ^ 64
few key before page es rest after e count word is other small k =
    let left : without key rest ≡ e ∷ without key after = ap (without key) is ∙ without_other key e after other in
    omega (arith, ap length left, k.counts, fewer_than_bytes (without key es), used-without key es, small)

pub record Kept (key before page : List ℕ) (es : List FlashEntry) (count word : ℕ) : Type 0 where
  pub page_is : page ≡ before ++ entries_bytes (without key es)
  pub count_is : count ≡ length (without key es)
  pub word_is : word ≡ word_of (without key es)

pub all_kept : (key before page : List ℕ) (es rest : List FlashEntry) (count word : ℕ) → rest ≡ [] → Keeping key before page es rest count word → Kept key before page es count word
all_kept key before page es rest count word none k =
    let left : without key rest ≡ [] = ap (without key) none in
    record {
      page_is = sym (append-nil page) ∙ ap (λ (xs : List FlashEntry). page ++ entries_bytes xs) (sym left) ∙ k.pages;
      count_is = omega (arith, ap length left, k.counts);
      word_is = sym (or_zero_l word) ∙ ap (λ (xs : List FlashEntry). bit_or (word_of xs) word) (sym left) ∙ k.words;
    }

-- ---- how many bytes they use

pub record Counting (key : List ℕ) (es rest : List FlashEntry) (sum : ℕ) : Type 0 where
  pub total : sum + length (entries_bytes (without key rest)) ≡ used (without key es)

pub counts_not : (key : List ℕ) (es rest after : List FlashEntry) (e : FlashEntry) (sum : ℕ) → rest ≡ e ∷ after → bytes_eq e.key key ≡ true → Counting key es rest sum → Counting key es after sum
counts_not key es rest after e sum is same c = record { total = omega (arith, ap (λ (xs : List FlashEntry). length (entries_bytes xs)) (ap (without key) is ∙ without_same key e after same), c.total) }

pub counts_too : (key : List ℕ) (es rest after : List FlashEntry) (e : FlashEntry) (sum len : ℕ) → rest ≡ e ∷ after → bytes_eq e.key key ≡ false → len ≡ size_of e → Counting key es rest sum → Counting key es after (sum + len)
counts_too key es rest after e sum len is other size c =
    let left : entries_bytes (without key rest) ≡ entry_bytes e ++ entries_bytes (without key after) = ap entries_bytes (ap (without key) is ∙ without_other key e after other) ∙ bytes-cons e (without key after) in
    record { total = omega (arith, ap length left, length-append (entry_bytes e) (entries_bytes (without key after)), size, c.total) }

pub below : (key : List ℕ) (es rest : List FlashEntry) (sum : ℕ) → used es < 2 ^ 16 → Counting key es rest sum → sum < 2 ^ 16
below key es rest sum small c = omega (arith, c.total, used-without key es, small)

-- ---- the entries that are pushed out

pub record Pushing (size : ℕ) (e : FlashEntry) (es rest : List FlashEntry) (left : ℕ) (losses : List Loss) : Type 0 where
  pub uses : left ≡ used (without e.key rest)
  pub stay : staying size e (without e.key rest) ≡ staying size e (without e.key es)
  pub lost : losses ++ full_losses (pushed_out size e (without e.key rest)) ≡ put_losses size e es
  pub less : used rest ≤ used es

pub none_pushed : (size : ℕ) (e : FlashEntry) (es : List FlashEntry) (left : ℕ) → left ≡ used (without e.key es) → Pushing size e es es left []
none_pushed size e es left is = record { uses = is; stay = refl; lost = refl; less = omega arith }

pub own_goes : (size : ℕ) (e : FlashEntry) (es rest after : List FlashEntry) (x : FlashEntry) (left : ℕ) (losses : List Loss) → rest ≡ x ∷ after → bytes_eq x.key e.key ≡ true → Pushing size e es rest left losses → Pushing size e es after left losses
own_goes size e es rest after x left losses is same p =
    let w : without e.key rest ≡ without e.key after = ap (without e.key) is ∙ without_same e.key x after same in
    record {
      uses = p.uses ∙ ap used w;
      stay = ap (staying size e) (sym w) ∙ p.stay;
      lost = ap (λ (xs : List FlashEntry). losses ++ full_losses (pushed_out size e xs)) (sym w) ∙ p.lost;
      less = omega (arith, p.less, ap used is, used-cons x after);
    }

push_test : (size : ℕ) (e x : FlashEntry) (rest : List FlashEntry) (t : Bool) → nat_lt size (used (x ∷ rest) + size_of e) ≡ t
    → (pushed_out size e (x ∷ rest) ≡ (if t then x ∷ pushed_out size e rest else [])) × (staying size e (x ∷ rest) ≡ (if t then staying size e rest else x ∷ rest))
push_test size e x rest t h = (ap (λ b. if b then x ∷ pushed_out size e rest else []) h, ap (λ b. if b then staying size e rest else x ∷ rest) h)

pub one_goes : (size : ℕ) (e : FlashEntry) (es rest after : List FlashEntry) (x : FlashEntry) (left len gone : ℕ) (losses : List Loss) (loss : Loss) → rest ≡ x ∷ after → bytes_eq x.key e.key ≡ false → len ≡ size_of e → gone ≡ size_of x → size < left + len
    → loss ∷ [] ≡ full_losses (x ∷ []) → Pushing size e es rest left losses → Pushing size e es after (left - gone) (losses ++ loss ∷ [])
one_goes size e es rest after x left len gone losses loss is other size-is gone-is over loss-is p =
    let behind : List FlashEntry = without e.key after in
    let w : without e.key rest ≡ x ∷ behind = ap (without e.key) is ∙ without_other e.key x after other in
    let more : size < used (x ∷ behind) + size_of e = omega (arith, p.uses, ap used w, size-is, over) in
    let test : nat_lt size (used (x ∷ behind) + size_of e) ≡ true = grind (arith, more) in
    record {
      uses = omega (arith, p.uses, ap used w, used-cons x behind, gone-is);
      stay = sym (ap (staying size e) w ∙ (push_test size e x behind true test).1) ∙ p.stay;
      lost = append_assoc losses (loss ∷ []) (full_losses (pushed_out size e behind)) ∙ ap (λ (xs : List Loss). losses ++ (xs ++ full_losses (pushed_out size e behind))) loss-is
          ∙ ap (λ (xs : List FlashEntry). losses ++ full_losses xs) (sym (ap (pushed_out size e) w ∙ (push_test size e x behind true test).0)) ∙ p.lost;
      less = omega (arith, p.less, ap used is, used-cons x after);
    }

-- the entry that goes uses no more than what is used
pub enough : (size : ℕ) (e : FlashEntry) (es rest after : List FlashEntry) (x : FlashEntry) (left gone : ℕ) (losses : List Loss) → rest ≡ x ∷ after → bytes_eq x.key e.key ≡ false → gone ≡ size_of x → Pushing size e es rest left losses → gone ≤ left
enough size e es rest after x left gone losses is other gone-is p =
    let w : without e.key rest ≡ x ∷ without e.key after = ap (without e.key) is ∙ without_other e.key x after other in
    omega (arith, p.uses, ap used w, used-cons x (without e.key after), gone-is)

pub record Pushed (size : ℕ) (e : FlashEntry) (es rest : List FlashEntry) (losses : List Loss) : Type 0 where
  pub stay : without e.key rest ≡ staying size e (without e.key es)
  pub lost : losses ≡ put_losses size e es
  pub less : used rest ≤ used es

room_left : (size : ℕ) (e : FlashEntry) (es : List FlashEntry) → used es + size_of e ≤ size → (staying size e es ≡ es) × (pushed_out size e es ≡ [])
room_left size e [] h = (refl, refl)
room_left size e (x ∷ es) h = let test : nat_lt size (used (x ∷ es) + size_of e) ≡ false = grind (arith, h) in ((push_test size e x es false test).1, (push_test size e x es false test).0)

none_left : (size : ℕ) (e : FlashEntry) (es : List FlashEntry) → es ≡ [] → (staying size e es ≡ es) × (pushed_out size e es ≡ [])
none_left size e [] h = (refl, refl)
none_left size e (x ∷ es) h = absurd cc

ended : (size : ℕ) (e : FlashEntry) (es rest : List FlashEntry) (left : ℕ) (losses : List Loss) → (staying size e (without e.key rest) ≡ without e.key rest) × (pushed_out size e (without e.key rest) ≡ []) → Pushing size e es rest left losses → Pushed size e es rest losses
ended size e es rest left losses both p = record {
  stay = sym both.0 ∙ p.stay;
  lost = sym (append-nil losses) ∙ ap (λ (xs : List FlashEntry). losses ++ full_losses xs) (sym both.1) ∙ p.lost;
  less = p.less;
}

pub has_room : (size : ℕ) (e : FlashEntry) (es rest : List FlashEntry) (left len : ℕ) (losses : List Loss) → len ≡ size_of e → left + len ≤ size → Pushing size e es rest left losses → Pushed size e es rest losses
has_room size e es rest left len losses is le p = ended size e es rest left losses (room_left size e (without e.key rest) (omega (arith, p.uses, is, le))) p

pub has_none : (size : ℕ) (e : FlashEntry) (es rest : List FlashEntry) (left : ℕ) (losses : List Loss) → rest ≡ [] → Pushing size e es rest left losses → Pushed size e es rest losses
has_none size e es rest left losses none p = ended size e es rest left losses (none_left size e (without e.key rest) (ap (without e.key) none)) p

-- ---- an entry is looked for

pub under_same : (key : List ℕ) (e : FlashEntry) (es : List FlashEntry) → bytes_eq e.key key ≡ true → under key (e ∷ es) ≡ Some e
under_same key e es h = rw h refl

pub under_other : (key : List ℕ) (e : FlashEntry) (es : List FlashEntry) → bytes_eq e.key key ≡ false → under key (e ∷ es) ≡ under key es
under_other key e es h = rw h refl

-- the bytes of a page from the entries on that are left
pub record Finding (key page : List ℕ) (es rest : List FlashEntry) (end : ℕ) : Type 0 where
  pub found : under key rest ≡ under key es
  pub bytes : drop end page ≡ entries_bytes rest ++ drop (used es) page
  pub ends : end + length (entries_bytes rest) ≡ used es
  pub inside : used es ≤ length page

drop-four : (a b : ℕ) (rest : List ℕ) → drop 4 (to_be_bytes w16 a ++ (to_be_bytes w16 b ++ rest)) ≡ rest
drop-four a b rest = refl

pub looks : (key page : List ℕ) (size : ℕ) (es : List FlashEntry) → IsPage size es page → Finding key page es es 4
looks key page size es is =
    let zeros : List ℕ = replicate (size - used es) 0 in
    let front : drop 4 page ≡ entries_bytes es ++ zeros = ap (drop 4) is.1 ∙ drop-four (length es) (used es) (entries_bytes es ++ zeros) in
    let tail : drop (used es) page ≡ zeros = sym (drop-drop (length (entries_bytes es)) 4 page) ∙ ap (drop (length (entries_bytes es))) front ∙ drop_at (entries_bytes es) zeros (length (entries_bytes es)) refl in
    record {
      found = refl;
      bytes = front ∙ ap (λ (z : List ℕ). entries_bytes es ++ z) (sym tail);
      ends = refl;
      inside = omega (arith, ap length is.1, page_len size es is.0.room, is.0.room);
    }

behind : (page : List ℕ) (es rest after : List FlashEntry) (e : FlashEntry) (end len : ℕ) → rest ≡ e ∷ after → len ≡ size_of e → drop end page ≡ entries_bytes rest ++ drop (used es) page → drop (end + len) page ≡ entries_bytes after ++ drop (used es) page
behind page es rest after e end len is size h =
    let cut : drop end page ≡ entry_bytes e ++ (entries_bytes after ++ drop (used es) page) = h ∙ ap (λ (xs : List FlashEntry). entries_bytes xs ++ drop (used es) page) is ∙ ap (λ (z : List ℕ). z ++ drop (used es) page) (bytes-cons e after) ∙ append_assoc (entry_bytes e) (entries_bytes after) (drop (used es) page) in
    sym (drop-drop len end page) ∙ ap (drop len) cut ∙ drop_at (entry_bytes e) (entries_bytes after ++ drop (used es) page) len (sym size)

ends-later : (es rest after : List FlashEntry) (e : FlashEntry) (end len : ℕ) → rest ≡ e ∷ after → len ≡ size_of e → end + length (entries_bytes rest) ≡ used es → (end + len) + length (entries_bytes after) ≡ used es
ends-later es rest after e end len is size h = omega (arith, ap (λ (xs : List FlashEntry). length (entries_bytes xs)) is, ap length (bytes-cons e after), length-append (entry_bytes e) (entries_bytes after), size, h)

pub looks_on : (key page : List ℕ) (es rest after : List FlashEntry) (e : FlashEntry) (end len : ℕ) → rest ≡ e ∷ after → len ≡ size_of e → bytes_eq e.key key ≡ false → Finding key page es rest end → Finding key page es after (end + len)
looks_on key page es rest after e end len is size other f = record {
  found = sym (ap (under key) is ∙ under_other key e after other) ∙ f.found;
  bytes = behind page es rest after e end len is size f.bytes;
  ends = ends-later es rest after e end len is size f.ends;
  inside = f.inside;
}

-- the value stands at the end of its entry
pub value_at : (key page : List ℕ) (es rest after : List FlashEntry) (e : FlashEntry) (end len : ℕ) → rest ≡ e ∷ after → len ≡ size_of e → Finding key page es rest end → IsValueAt page (end + len) e.value
value_at key page es rest after e end len is size f =
    let z : List ℕ = entries_bytes after ++ drop (used es) page in
    let front : List ℕ = length e.key ∷ e.pool ∷ (to_be_bytes w16 (length e.value) ++ (to_be_bytes w64 e.expiry ++ e.key)) in
    let whole : entry_bytes e ≡ front ++ e.value = ap (λ (xs : List ℕ). length e.key ∷ e.pool ∷ xs) (simp append_assoc) in
    let cut : drop end page ≡ (front ++ e.value) ++ z = f.bytes ∙ ap (λ (xs : List FlashEntry). entries_bytes xs ++ drop (used es) page) is ∙ ap (λ (xs : List ℕ). xs ++ drop (used es) page) (bytes-cons e after) ∙ append_assoc (entry_bytes e) (entries_bytes after) (drop (used es) page) ∙ ap (λ (xs : List ℕ). xs ++ z) whole in
    let front-len : length front ≡ 12 + length e.key = omega (arith, length-append (to_be_bytes w16 (length e.value)) (to_be_bytes w64 e.expiry ++ e.key), length-append (to_be_bytes w64 e.expiry) e.key, wide16.len (length e.value), wide64.len e.expiry) in
    let start : (end + len) - length e.value ≡ end + length front = omega (arith, size, size-is e, front-len) in
    let at : drop ((end + len) - length e.value) page ≡ e.value ++ z = ap (λ n. drop n page) start ∙ sym (drop-drop (length front) end page) ∙ ap (drop (length front)) (cut ∙ append_assoc front e.value z) ∙ drop_at front (e.value ++ z) (length front) refl in
    record {
      long = omega (arith, size, size-is e);
      inside = omega (arith, ends-later es rest after e end len is size f.ends, f.inside);
      is = ap (take (length e.value)) at ∙ take_at e.value z (length e.value) refl;
    }
