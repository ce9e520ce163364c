-- No field of a note has a space, so that a line falls into its fields.
use Rattle.std.proofs.Common.{◌≡◌, ℕ, ◌^◌, ◌≤◌, ◌==◌, nat_lt, nat_le, Bool, true, false, not, ◌&&◌, List, [], ◌∷◌, ◌++◌, length, Option, Some, None, refl, sym, ap, ◌∙◌, arith}
use Rattle.std.proofs.lemmas.Bool.{and_parts, ltb-true, leb-true, lt-ltb, eqb-true}
use Rattle.std.proofs.lemmas.List.{append-nil}
use Rattle.std.specs.Prelude.{codes}
use Rattle.std.specs.Fmt.{decimal}
use Rattle.std.specs.List.{list_all}
use Rattle.hex.specs.Hex.{encode_lower}
use Rattle.hc_types.specs.Loss as loss
use Rattle.hc_types.specs.Loss.{Scope, Cause}
use Rattle.hc_types.specs.declared.loss.Why.{Why}
use Rattle.hc_types.specs.declared.loss.Why.TheVariants.{NoFlash, Tombstone, NotAdmitted, TooLarge, QueueFull}
use Rattle.hc_history.specs.Note.{Op, Insert, Add, Find, Remove, Reply, Stored, Exists, Hit, Miss, FoundInMemory, NotInMemory, Note, Begin, Did, End, Lose, Charged, Linked, Freed, Queued, Unqueued, Writing, Written, Buried, Raised, Read, Wrote, Opened, Flushed, Cleared, Now}
use Rattle.hc_trace_text.specs.Lines.{fields_of, Lacks}
use Rattle.hc_trace_text.specs.Numbers.{is_visible, is_key}
use Rattle.hc_trace_text.specs.Texts.{is_repeated, first_of, value_text}
use Rattle.hc_trace_text.proofs.Decimals.{number-digits}
use Rattle.hc_trace_text.proofs.Orders.{visible-lacks, digits-lack}
use Rattle.hc_trace_text.proofs.Parts.{fields-one, fields-ended, lacks-append}
use Rattle.hc_log_text.specs.Text.{behind, joined, op_fields, reply_fields, scope_fields, why_word, cause_fields, page_text, written_word, note_fields, note_text}
use Rattle.hc_log_text.specs.Said.{is_shown, is_shown_op, is_shown_reply, is_shown_scope, is_shown_cause, is_sayable, is_short, is_bytes, fits_op, fits_scope, fits_cause, fits_page, fits}
use Rattle.hc_log_text.specs.Reading.{is_small_digit}
use Rattle.hc_log_text.proofs.Parts.{number-of}
use Rattle.hc_log_text.proofs.Pages.{page-is}

-- none of these has a space
abbrev pub AllLack : List (List ℕ) → Type 0
AllLack [] = Unit {0}
AllLack (field ∷ fields) = Lacks 32 field × AllLack fields

pub fields-joined : (field : List ℕ) (fields : List (List ℕ)) → Lacks 32 field → AllLack fields → fields_of (field ++ behind fields) ≡ field ∷ fields
fields-joined field [] h a = ap fields_of (append-nil field) ∙ fields-one field h
fields-joined field (next ∷ fields) h a = fields-ended field (next ++ behind fields) h ∙ ap (λ z. field ∷ z) (fields-joined next fields a.0 a.1)

not-space : (b : Bool) → not b ≡ true → b ≡ false
not-space false h = refl
not-space true h = cc

pub word : (text : List ℕ) → list_all (λ c. not (c == 32)) text ≡ true → Lacks 32 text
word [] h = tt
word (c ∷ text) h =
    let t = and_parts (not (c == 32)) (list_all (λ c. not (c == 32)) text) h in
    (not-space (c == 32) t.0, word text t.1)

pub number : (limit n : ℕ) → limit ≤ 2 ^ 64 → nat_lt n limit ≡ true → Lacks 32 (decimal n)
number limit n most h =
    let small = ltb-true n limit h in
    digits-lack (decimal n) (number-digits (decimal n) n (number-of n (omega (arith, small, most))))

key : (text : List ℕ) → is_key text ≡ true → Lacks 32 text
key text h = visible-lacks text (and_parts (nat_lt 0 (length text)) (list_all is_visible text) h).1

within : (n : ℕ) → nat_le n 2097152 ≡ true → nat_lt n 2097153 ≡ true
within n h = let high = leb-true n 2097152 h in lt-ltb n 2097153 (omega (arith, high))

first-lacks : (value : List ℕ) → list_all is_visible value ≡ true → Lacks 32 (first_of value)
first-lacks [] h = tt
first-lacks (c ∷ value) h = ((visible-lacks (c ∷ value) h).0, tt)

value-by : (value : List ℕ) (b : Bool) → is_repeated value ≡ b → is_shown value ≡ true → Lacks 32 (value_text value)
value-by value true e h =
    let t = and_parts (list_all is_visible value) (nat_le (length value) 2097152) h in
    rw e (refl, lacks-append 32 (decimal (length value)) (first_of value) (number 2097153 (length value) (omega arith) (within (length value) t.1)) (first-lacks value t.0))
value-by value false e h =
    let t = and_parts (list_all is_visible value) (nat_le (length value) 2097152) h in
    rw e (refl, visible-lacks value t.0)

value : (bytes : List ℕ) → is_shown bytes ≡ true → Lacks 32 (value_text bytes)
value bytes h = value-by bytes (is_repeated bytes) refl h

small-not-space : (c : ℕ) → is_small_digit c ≡ true → (b : Bool) → (c == 32) ≡ b → b ≡ false
small-not-space c h false e = refl
small-not-space c h true e =
    let is : is_small_digit c ≡ false = ap is_small_digit (eqb-true c 32 e) in
    sym h ∙ is

digits : (text : List ℕ) → list_all is_small_digit text ≡ true → Lacks 32 text
digits [] h = tt
digits (c ∷ text) h =
    let t = and_parts (is_small_digit c) (list_all is_small_digit text) h in
    (small-not-space c t.0 (c == 32) refl, digits text t.1)

page : (bytes : List ℕ) → is_bytes bytes ≡ true → Lacks 32 (encode_lower bytes)
page bytes h = digits (encode_lower bytes) (and_parts _ _ (page-is bytes h)).1

op : (op : Op) → is_shown_op op ≡ true → fits_op op ≡ true → AllLack (op_fields op)
op (Insert text bytes expiry) h f =
    let t = and_parts (is_key text) (is_shown bytes) h in
    let u = and_parts (is_short text) (nat_lt expiry (2 ^ 64)) f in
    (word (codes "insert") refl, (key text t.0, (value bytes t.1, (number (2 ^ 64) expiry (omega arith) u.1, tt))))
op (Add text bytes expiry) h f =
    let t = and_parts (is_key text) (is_shown bytes) h in
    let u = and_parts (is_short text) (nat_lt expiry (2 ^ 64)) f in
    (word (codes "add") refl, (key text t.0, (value bytes t.1, (number (2 ^ 64) expiry (omega arith) u.1, tt))))
op (Find text) h f = (word (codes "find") refl, (key text h, tt))
op (Remove text) h f = (word (codes "remove") refl, (key text h, tt))

reply : (reply : Reply) → is_shown_reply reply ≡ true → AllLack (reply_fields reply)
reply Stored h = (word (codes "stored") refl, tt)
reply Exists h = (word (codes "exists") refl, tt)
reply (Hit bytes) h = (word (codes "hit") refl, (value bytes h, tt))
reply Miss h = (word (codes "miss") refl, tt)
reply FoundInMemory h = (word (codes "found") refl, tt)
reply NotInMemory h = (word (codes "absent") refl, tt)

why : (why : Why) → Lacks 32 (why_word why)
why NoFlash = word (codes "noflash") refl
why Tombstone = word (codes "tombstone") refl
why NotAdmitted = word (codes "notadmitted") refl
why TooLarge = word (codes "toolarge") refl
why QueueFull = word (codes "queuefull") refl

cause : (cause : Cause) → is_shown_cause cause ≡ true → fits_cause cause ≡ true → AllLack (cause_fields cause)
cause (loss.Evicted pool want name) h f =
    let t = and_parts (nat_lt pool (2 ^ 8)) (nat_lt want (2 ^ 64)) f in
    (word (codes "evicted") refl, (why name, (number (2 ^ 8) pool (omega arith) t.0, (number (2 ^ 64) want (omega arith) t.1, tt))))
cause loss.BucketFull h f = (word (codes "bucketfull") refl, tt)
cause (loss.Reclaimed region) h f = (word (codes "reclaimed") refl, (number (2 ^ 32) region (omega arith) f, tt))
cause loss.NoCleanRegion h f = (word (codes "nocleanregion") refl, tt)
cause (loss.Collision by) h f = (word (codes "collision") refl, (key by h, tt))
cause loss.Expired h f = (word (codes "expired") refl, tt)
cause loss.Fault h f = (word (codes "fault") refl, tt)

scope : (scope : Scope) (rest : List (List ℕ)) → is_shown_scope scope ≡ true → fits_scope scope ≡ true → AllLack rest → AllLack (scope_fields scope rest)
scope (loss.Key text) rest h f a = (word (codes "key") refl, (key text h, a))
scope (loss.Bucket bucket) rest h f a = (word (codes "bucket") refl, (number (2 ^ 32) bucket (omega arith) f, a))
scope (loss.Hash kept None) rest h f a = (word (codes "hash") refl, (number (2 ^ 64) kept (omega arith) f, a))
scope (loss.Hash kept (Some but)) rest h f a =
    let t = and_parts (nat_lt kept (2 ^ 64)) (is_short but) f in
    (word (codes "hash") refl, (number (2 ^ 64) kept (omega arith) t.0, (word (codes "but") refl, (key but h, a))))

result : (bytes : Option (List ℕ)) → fits_page bytes ≡ true → Lacks 32 (page_text bytes)
result None h = word (codes "failed") refl
result (Some bytes) h = page bytes h

outcome : (is_written : Bool) → Lacks 32 (written_word is_written)
outcome true = word (codes "ok") refl
outcome false = word (codes "failed") refl

all : (note : Note) → is_sayable note ≡ true → fits note ≡ true → AllLack (note_fields note)
all (Begin call client asked) h f =
    let t = and_parts (nat_lt call (2 ^ 64)) (nat_lt client (2 ^ 8) && fits_op asked) f in
    let u = and_parts (nat_lt client (2 ^ 8)) (fits_op asked) t.1 in
    (word (codes "begin") refl, (number (2 ^ 64) call (omega arith) t.0, (number (2 ^ 8) client (omega arith) u.0, op asked h u.1)))
all (Did call answer) h f = (word (codes "did") refl, (number (2 ^ 64) call (omega arith) f, reply answer h))
all (End call) h f = (word (codes "end") refl, (number (2 ^ 64) call (omega arith) f, tt))
all (Lose what name) h f =
    let s = and_parts (is_shown_scope what) (is_shown_cause name) h in
    let t = and_parts (fits_scope what) (fits_cause name) f in
    (word (codes "lose") refl, scope what (cause_fields name) s.0 t.0 (cause name s.1 t.1))
all (Charged charge text pool bytes) h f =
    let t = and_parts (nat_lt charge (2 ^ 64)) (is_short text && (nat_lt pool (2 ^ 8) && nat_lt bytes (2 ^ 64))) f in
    let u = and_parts (is_short text) (nat_lt pool (2 ^ 8) && nat_lt bytes (2 ^ 64)) t.1 in
    let v = and_parts (nat_lt pool (2 ^ 8)) (nat_lt bytes (2 ^ 64)) u.1 in
    (word (codes "charged") refl, (number (2 ^ 64) charge (omega arith) t.0, (key text h, (number (2 ^ 8) pool (omega arith) v.0, (number (2 ^ 64) bytes (omega arith) v.1, tt)))))
all (Linked charge) h f = (word (codes "linked") refl, (number (2 ^ 64) charge (omega arith) f, tt))
all (Freed charge) h f = (word (codes "freed") refl, (number (2 ^ 64) charge (omega arith) f, tt))
all (Queued text) h f = (word (codes "queued") refl, (key text h, tt))
all (Unqueued text) h f = (word (codes "unqueued") refl, (key text h, tt))
all (Writing text) h f = (word (codes "writing") refl, (key text h, tt))
all (Written text) h f = (word (codes "written") refl, (key text h, tt))
all (Buried text) h f = (word (codes "buried") refl, (key text h, tt))
all (Raised text) h f = (word (codes "raised") refl, (key text h, tt))
all (Read at bytes) h f =
    let t = and_parts (nat_lt at (2 ^ 32)) (fits_page bytes) f in
    (word (codes "read") refl, (number (2 ^ 32) at (omega arith) t.0, (result bytes t.1, tt)))
all (Wrote at bytes is_written) h f =
    let t = and_parts (nat_lt at (2 ^ 32)) (is_bytes bytes) f in
    (word (codes "wrote") refl, (number (2 ^ 32) at (omega arith) t.0, (outcome is_written, (page bytes t.1, tt))))
all (Opened region) h f = (word (codes "opened") refl, (number (2 ^ 32) region (omega arith) f, tt))
all (Flushed region) h f = (word (codes "flushed") refl, (number (2 ^ 32) region (omega arith) f, tt))
all (Cleared region) h f = (word (codes "cleared") refl, (number (2 ^ 32) region (omega arith) f, tt))
all (Now moment) h f = (word (codes "now") refl, (number (2 ^ 64) moment (omega arith) f, tt))

-- a line of these fields falls into them
abbrev Falls : List (List ℕ) → Type 0
Falls fields = AllLack fields → fields_of (joined fields) ≡ fields

falls : (field : List ℕ) (fields : List (List ℕ)) → Falls (field ∷ fields)
falls field fields = λ a. fields-joined field fields a.0 a.1

each-falls : (note : Note) → Falls (note_fields note)
each-falls (Begin call client asked) = falls _ _
each-falls (Did call answer) = falls _ _
each-falls (End call) = falls _ _
each-falls (Lose what name) = falls _ _
each-falls (Charged charge text pool bytes) = falls _ _
each-falls (Linked charge) = falls _ _
each-falls (Freed charge) = falls _ _
each-falls (Queued text) = falls _ _
each-falls (Unqueued text) = falls _ _
each-falls (Writing text) = falls _ _
each-falls (Written text) = falls _ _
each-falls (Buried text) = falls _ _
each-falls (Raised text) = falls _ _
each-falls (Read at bytes) = falls _ _
each-falls (Wrote at bytes is_written) = falls _ _
each-falls (Opened region) = falls _ _
each-falls (Flushed region) = falls _ _
each-falls (Cleared region) = falls _ _
each-falls (Now moment) = falls _ _

pub note-falls : (note : Note) → is_sayable note ≡ true → fits note ≡ true → fields_of (note_text note) ≡ note_fields note
note-falls note h f = each-falls note (all note h f)
