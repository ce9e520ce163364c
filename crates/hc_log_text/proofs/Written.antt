-- A note is read as it is written.
use Rattle.std.proofs.Common.{◌≡◌, ℕ, ◌^◌, ◌≤◌, nat_lt, Bool, true, false, ◌&&◌, List, [], ◌∷◌, Option, Some, None, option_map, refl, ap, ◌∙◌, arith}
use Rattle.std.proofs.lemmas.Bool.{and_parts}
use Rattle.std.specs.Prelude.{codes}
use Rattle.std.specs.Fmt.{decimal}
use Rattle.hex.specs.Hex.{encode_lower}
use Rattle.hc_types.specs.Loss as loss
use Rattle.hc_types.specs.Loss.{Scope, Cause}
use Rattle.hc_types.specs.declared.loss.Why.{Why}
use Rattle.hc_types.specs.declared.loss.Why.TheVariants.{NoFlash, Tombstone, NotAdmitted, TooLarge, QueueFull}
use Rattle.hc_history.specs.Note.{Op, Insert, Add, Find, Remove, Reply, Stored, Exists, Hit, Miss, FoundInMemory, NotInMemory, Note, Begin, Did, End, Lose, Charged, Linked, Freed, Queued, Unqueued, Writing, Written, Buried, Raised, Read, Wrote, Opened, Flushed, Cleared, Now}
use Rattle.hc_trace_text.specs.Numbers.{is_key}
use Rattle.hc_trace_text.specs.Texts.{value_text}
use Rattle.hc_log_text.specs.Text.{op_fields, reply_fields, scope_fields, why_word, cause_fields, page_text, written_word, note_fields}
use Rattle.hc_log_text.specs.Said.{is_shown, is_shown_op, is_shown_reply, is_shown_scope, is_shown_cause, is_sayable, is_short, is_bytes, fits_op, fits_scope, fits_cause, fits_page, fits}
use Rattle.hc_log_text.specs.Reading.{number_at, number_alone, key_at, key_alone, value_at, value_alone, page_alone, why_at, item_of, op_of, reply_of, but_at, scope_at, cause_of, begin_of, did_of, lose_of, charged_of, result_of, outcome_of, keyed, key_note, of_region, flash_note, note_of, first_of_two, ended, ◌>>=◌}
use Rattle.hc_log_text.proofs.Parts.{number-back, key-is, value-back}
use Rattle.hc_log_text.proofs.Pages.{page-is, page-back, no-failure}

pub number : (limit n : ℕ) (fields : List (List ℕ)) → limit ≤ 2 ^ 64 → nat_lt n limit ≡ true → number_at limit (decimal n ∷ fields) ≡ Some (n, fields)
number limit n fields most h = ap (option_map (λ n. (n, fields))) (number-back limit n most h)

last-number : (limit n : ℕ) → limit ≤ 2 ^ 64 → nat_lt n limit ≡ true → number_alone limit (decimal n ∷ []) ≡ Some n
last-number limit n most h = ap (λ o. o >>= (λ p. ended p.0 p.1)) (number limit n [] most h)

key : (text : List ℕ) (fields : List (List ℕ)) → is_key text ≡ true → is_short text ≡ true → key_at (text ∷ fields) ≡ Some (text, fields)
key text fields k s = rw (key-is text k s) refl

last-key : (text : List ℕ) → is_key text ≡ true → is_short text ≡ true → key_alone (text ∷ []) ≡ Some text
last-key text k s = ap (λ o. o >>= (λ p. ended p.0 p.1)) (key text [] k s)

value : (bytes : List ℕ) (fields : List (List ℕ)) → is_shown bytes ≡ true → value_at (value_text bytes ∷ fields) ≡ Some (bytes, fields)
value bytes fields h = ap (option_map (λ v. (v, fields))) (value-back bytes h)

last-value : (bytes : List ℕ) → is_shown bytes ≡ true → value_alone (value_text bytes ∷ []) ≡ Some bytes
last-value bytes h = ap (λ o. o >>= (λ p. ended p.0 p.1)) (value bytes [] h)

last-page : (bytes : List ℕ) → is_bytes bytes ≡ true → page_alone (encode_lower bytes ∷ []) ≡ Some bytes
last-page bytes h = rw (page-is bytes h) (ap (λ b. Some b) (page-back bytes h))

item : (made : List ℕ → List ℕ → ℕ → Op) (text bytes : List ℕ) (expiry : ℕ) → is_key text ≡ true → is_shown bytes ≡ true → is_short text ≡ true → nat_lt expiry (2 ^ 64) ≡ true
    → item_of made (text ∷ value_text bytes ∷ decimal expiry ∷ []) ≡ Some (made text bytes expiry)
item made text bytes expiry k v s e =
    ap (λ o. o >>= (λ p. value_at p.1 >>= (λ q. option_map (made p.0 q.0) (number_alone (2 ^ 64) q.1)))) (key text (value_text bytes ∷ decimal expiry ∷ []) k s)
    ∙ ap (λ o. o >>= (λ q. option_map (made text q.0) (number_alone (2 ^ 64) q.1))) (value bytes (decimal expiry ∷ []) v)
    ∙ ap (option_map (made text bytes)) (last-number (2 ^ 64) expiry (omega arith) e)

op-read : (op : Op) → is_shown_op op ≡ true → fits_op op ≡ true → op_of (op_fields op) ≡ Some op
op-read (Insert text bytes expiry) h f =
    let t = and_parts (is_key text) (is_shown bytes) h in
    let u = and_parts (is_short text) (nat_lt expiry (2 ^ 64)) f in
    item Insert text bytes expiry t.0 t.1 u.0 u.1
op-read (Add text bytes expiry) h f =
    let t = and_parts (is_key text) (is_shown bytes) h in
    let u = and_parts (is_short text) (nat_lt expiry (2 ^ 64)) f in
    item Add text bytes expiry t.0 t.1 u.0 u.1
op-read (Find text) h f = ap (option_map Find) (last-key text h f)
op-read (Remove text) h f = ap (option_map Remove) (last-key text h f)

reply-read : (reply : Reply) → is_shown_reply reply ≡ true → reply_of (reply_fields reply) ≡ Some reply
reply-read Stored h = refl
reply-read Exists h = refl
reply-read (Hit bytes) h = ap (option_map Hit) (last-value bytes h)
reply-read Miss h = refl
reply-read FoundInMemory h = refl
reply-read NotInMemory h = refl

why-read : (why : Why) (fields : List (List ℕ)) → why_at (why_word why ∷ fields) ≡ Some (why, fields)
why-read NoFlash fields = refl
why-read Tombstone fields = refl
why-read NotAdmitted fields = refl
why-read TooLarge fields = refl
why-read QueueFull fields = refl

cause-read : (cause : Cause) → is_shown_cause cause ≡ true → fits_cause cause ≡ true → cause_of (cause_fields cause) ≡ Some cause
cause-read (loss.Evicted pool want why) h f =
    let t = and_parts (nat_lt pool (2 ^ 8)) (nat_lt want (2 ^ 64)) f in
    ap (λ o. o >>= (λ w. number_at (2 ^ 8) w.1 >>= (λ p. option_map (λ want. loss.Evicted p.0 want w.0) (number_alone (2 ^ 64) p.1)))) (why-read why (decimal pool ∷ decimal want ∷ []))
    ∙ ap (λ o. o >>= (λ p. option_map (λ want. loss.Evicted p.0 want why) (number_alone (2 ^ 64) p.1))) (number (2 ^ 8) pool (decimal want ∷ []) (omega arith) t.0)
    ∙ ap (option_map (λ want. loss.Evicted pool want why)) (last-number (2 ^ 64) want (omega arith) t.1)
cause-read loss.BucketFull h f = refl
cause-read (loss.Reclaimed region) h f = ap (option_map loss.Reclaimed) (last-number (2 ^ 32) region (omega arith) f)
cause-read loss.NoCleanRegion h f = refl
cause-read (loss.Collision by) h f = ap (option_map loss.Collision) (last-key by h f)
cause-read loss.Expired h f = refl
cause-read loss.Fault h f = refl

-- what a cause says first isn't the word of a key that is left out
but-not : (kept : ℕ) (cause : Cause) → but_at kept (cause_fields cause) ≡ Some (loss.Hash kept None, cause_fields cause)
but-not kept (loss.Evicted pool want why) = refl
but-not kept loss.BucketFull = refl
but-not kept (loss.Reclaimed region) = refl
but-not kept loss.NoCleanRegion = refl
but-not kept (loss.Collision by) = refl
but-not kept loss.Expired = refl
but-not kept loss.Fault = refl

scope-read : (scope : Scope) (cause : Cause) → is_shown_scope scope ≡ true → fits_scope scope ≡ true → scope_at (scope_fields scope (cause_fields cause)) ≡ Some (scope, cause_fields cause)
scope-read (loss.Key text) cause h f = ap (option_map (λ p. (loss.Key p.0, p.1))) (key text (cause_fields cause) h f)
scope-read (loss.Bucket bucket) cause h f = ap (option_map (λ p. (loss.Bucket p.0, p.1))) (number (2 ^ 32) bucket (cause_fields cause) (omega arith) f)
scope-read (loss.Hash kept None) cause h f =
    ap (λ o. o >>= (λ p. but_at p.0 p.1)) (number (2 ^ 64) kept (cause_fields cause) (omega arith) f) ∙ but-not kept cause
scope-read (loss.Hash kept (Some but)) cause h f =
    let t = and_parts (nat_lt kept (2 ^ 64)) (is_short but) f in
    ap (λ o. o >>= (λ p. but_at p.0 p.1)) (number (2 ^ 64) kept (codes "but" ∷ but ∷ cause_fields cause) (omega arith) t.0)
    ∙ ap (option_map (λ p. (loss.Hash kept (Some p.0), p.1))) (key but (cause_fields cause) h t.1)

read-read : (page : ℕ) (result : Option (List ℕ)) → fits_page result ≡ true → result_of page (page_text result ∷ []) ≡ Some (Read page result)
read-read page None h = refl
read-read page (Some bytes) h = rw (no-failure bytes h) (ap (option_map (λ b. Read page (Some b))) (last-page bytes h))

wrote-read : (page : ℕ) (bytes : List ℕ) (is_written : Bool) → is_bytes bytes ≡ true → outcome_of page (written_word is_written ∷ encode_lower bytes ∷ []) ≡ Some (Wrote page bytes is_written)
wrote-read page bytes true h = ap (option_map (λ b. Wrote page b true)) (last-page bytes h)
wrote-read page bytes false h = ap (option_map (λ b. Wrote page b false)) (last-page bytes h)

-- a note that is none of the first kinds is what the next kind makes of it
later : (first : Option Note) (note : Note) → first ≡ Some note → (second : Option Note) → first_of_two first second ≡ Some note
later first note e second = ap (λ o. first_of_two o second) e

not-keyed : (word : List ℕ) → ((text : List ℕ) → keyed word text ≡ None) → (o : Option (List ℕ)) → (o >>= keyed word) ≡ None
not-keyed word h None = refl
not-keyed word h (Some text) = h text

on-flash : (word : List ℕ) (fields : List (List ℕ)) (note : Note) → ((text : List ℕ) → keyed word text ≡ None) → flash_note word fields ≡ Some note → first_of_two (key_note word fields) (flash_note word fields) ≡ Some note
on-flash word fields note h e = ap (λ o. first_of_two o (flash_note word fields)) (not-keyed word h (key_alone fields)) ∙ e

pub note-read : (note : Note) → is_sayable note ≡ true → fits note ≡ true → note_of (note_fields note) ≡ Some note
note-read (Begin call client op) h f =
    let t = and_parts (nat_lt call (2 ^ 64)) (nat_lt client (2 ^ 8) && fits_op op) f in
    let u = and_parts (nat_lt client (2 ^ 8)) (fits_op op) t.1 in
    let is : begin_of (decimal call ∷ decimal client ∷ op_fields op) ≡ Some (Begin call client op) =
    ap (λ o. o >>= (λ p. number_at (2 ^ 8) p.1 >>= (λ q. option_map (Begin p.0 q.0) (op_of q.1)))) (number (2 ^ 64) call (decimal client ∷ op_fields op) (omega arith) t.0)
    ∙ ap (λ o. o >>= (λ q. option_map (Begin call q.0) (op_of q.1))) (number (2 ^ 8) client (op_fields op) (omega arith) u.0)
    ∙ ap (option_map (Begin call client)) (op-read op h u.1) in
    later _ _ is _
note-read (Did call reply) h f =
    let is : did_of (decimal call ∷ reply_fields reply) ≡ Some (Did call reply) =
    ap (λ o. o >>= (λ p. option_map (Did p.0) (reply_of p.1))) (number (2 ^ 64) call (reply_fields reply) (omega arith) f) ∙ ap (option_map (Did call)) (reply-read reply h) in
    later _ _ is _
note-read (End call) h f = later _ _ (ap (option_map End) (last-number (2 ^ 64) call (omega arith) f)) _
note-read (Lose scope cause) h f =
    let s = and_parts (is_shown_scope scope) (is_shown_cause cause) h in
    let t = and_parts (fits_scope scope) (fits_cause cause) f in
    let is : lose_of (scope_fields scope (cause_fields cause)) ≡ Some (Lose scope cause) =
    ap (λ o. o >>= (λ p. option_map (Lose p.0) (cause_of p.1))) (scope-read scope cause s.0 t.0) ∙ ap (option_map (Lose scope)) (cause-read cause s.1 t.1) in
    later _ _ is _
note-read (Charged charge text pool bytes) h f =
    let t = and_parts (nat_lt charge (2 ^ 64)) (is_short text && (nat_lt pool (2 ^ 8) && nat_lt bytes (2 ^ 64))) f in
    let u = and_parts (is_short text) (nat_lt pool (2 ^ 8) && nat_lt bytes (2 ^ 64)) t.1 in
    let v = and_parts (nat_lt pool (2 ^ 8)) (nat_lt bytes (2 ^ 64)) u.1 in
    let is : charged_of (decimal charge ∷ text ∷ decimal pool ∷ decimal bytes ∷ []) ≡ Some (Charged charge text pool bytes) =
    ap (λ o. o >>= (λ p. key_at p.1 >>= (λ q. number_at (2 ^ 8) q.1 >>= (λ r. option_map (Charged p.0 q.0 r.0) (number_alone (2 ^ 64) r.1))))) (number (2 ^ 64) charge (text ∷ decimal pool ∷ decimal bytes ∷ []) (omega arith) t.0)
    ∙ ap (λ o. o >>= (λ q. number_at (2 ^ 8) q.1 >>= (λ r. option_map (Charged charge q.0 r.0) (number_alone (2 ^ 64) r.1)))) (key text (decimal pool ∷ decimal bytes ∷ []) h u.0)
    ∙ ap (λ o. o >>= (λ r. option_map (Charged charge text r.0) (number_alone (2 ^ 64) r.1))) (number (2 ^ 8) pool (decimal bytes ∷ []) (omega arith) v.0)
    ∙ ap (option_map (Charged charge text pool)) (last-number (2 ^ 64) bytes (omega arith) v.1) in
    later _ _ is _
note-read (Linked charge) h f = later _ _ (ap (option_map Linked) (last-number (2 ^ 64) charge (omega arith) f)) _
note-read (Freed charge) h f = later _ _ (ap (option_map Freed) (last-number (2 ^ 64) charge (omega arith) f)) _
note-read (Queued text) h f = later _ _ (ap (λ o. o >>= keyed (codes "queued")) (last-key text h f)) _
note-read (Unqueued text) h f = later _ _ (ap (λ o. o >>= keyed (codes "unqueued")) (last-key text h f)) _
note-read (Writing text) h f = later _ _ (ap (λ o. o >>= keyed (codes "writing")) (last-key text h f)) _
note-read (Written text) h f = later _ _ (ap (λ o. o >>= keyed (codes "written")) (last-key text h f)) _
note-read (Buried text) h f = later _ _ (ap (λ o. o >>= keyed (codes "buried")) (last-key text h f)) _
note-read (Raised text) h f = later _ _ (ap (λ o. o >>= keyed (codes "raised")) (last-key text h f)) _
note-read (Read page bytes) h f =
    let t = and_parts (nat_lt page (2 ^ 32)) (fits_page bytes) f in
    on-flash (codes "read") (decimal page ∷ page_text bytes ∷ []) _ (λ text. refl)
    (ap (λ o. o >>= (λ p. result_of p.0 p.1)) (number (2 ^ 32) page (page_text bytes ∷ []) (omega arith) t.0) ∙ read-read page bytes t.1)
note-read (Wrote page bytes is_written) h f =
    let t = and_parts (nat_lt page (2 ^ 32)) (is_bytes bytes) f in
    on-flash (codes "wrote") (decimal page ∷ written_word is_written ∷ encode_lower bytes ∷ []) _ (λ text. refl)
    (ap (λ o. o >>= (λ p. outcome_of p.0 p.1)) (number (2 ^ 32) page (written_word is_written ∷ encode_lower bytes ∷ []) (omega arith) t.0) ∙ wrote-read page bytes is_written t.1)
note-read (Opened region) h f = on-flash (codes "opened") (decimal region ∷ []) _ (λ text. refl) (ap (λ o. o >>= of_region (codes "opened")) (last-number (2 ^ 32) region (omega arith) f))
note-read (Flushed region) h f = on-flash (codes "flushed") (decimal region ∷ []) _ (λ text. refl) (ap (λ o. o >>= of_region (codes "flushed")) (last-number (2 ^ 32) region (omega arith) f))
note-read (Cleared region) h f = on-flash (codes "cleared") (decimal region ∷ []) _ (λ text. refl) (ap (λ o. o >>= of_region (codes "cleared")) (last-number (2 ^ 32) region (omega arith) f))
note-read (Now moment) h f = later _ _ (ap (option_map Now) (last-number (2 ^ 64) moment (omega arith) f)) _
