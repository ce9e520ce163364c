-- What is read as a note is its text.
use Rattle.std.proofs.Common.{◌≡◌, ℕ, ◌^◌, nat_lt, Bool, true, ◌&&◌, inl, inr, List, [], ◌∷◌, Some, None, option_map, refl, ap, ◌∙◌, subst}
use Rattle.std.proofs.lemmas.Bool.{and_from}
use Rattle.std.specs.Prelude.{codes}
use Rattle.std.specs.Fmt.{decimal}
use Rattle.hc_types.specs.Loss as loss
use Rattle.hc_types.specs.Loss.{Scope, Cause}
use Rattle.hc_types.specs.declared.loss.Why.{Why}
use Rattle.hc_types.specs.declared.loss.Why.TheVariants.{NoFlash, Tombstone, NotAdmitted, TooLarge, QueueFull}
use Rattle.hc_history.specs.Note.{Op, Insert, Add, Find, Remove, Reply, Stored, Exists, Hit, Miss, FoundInMemory, NotInMemory}
use Rattle.hc_trace_text.specs.Numbers.{is_key}
use Rattle.hc_trace_text.specs.Texts.{value_text}
use Rattle.hc_log_text.specs.Text.{op_fields, reply_fields, scope_fields, why_word, cause_fields}
use Rattle.hc_log_text.specs.Said.{is_shown, is_shown_op, is_shown_reply, is_shown_scope, is_shown_cause, is_short, fits_op, fits_scope, fits_cause}
use Rattle.hc_log_text.specs.Reading.{ended, number_at, number_alone, key_at, key_alone, value_at, value_alone, why_of, why_at, item_of, op_of, plain_reply, reply_of, but_at, key_scope, bucket_scope, hash_scope, scope_at, evicted_of, plain_cause, plain_alone, cause_of, ◌>>=◌}
use Rattle.hc_log_text.proofs.Inverse.{none-is-not-some, same, bound, mapped, chosen, ended-is, number-first, number-last, key-first, key-last, value-first, value-last}

-- these fields are those of what was read, which can be said
abbrev pub Said : {X : Type 0} → (X → List (List ℕ)) → (X → Bool) → (X → Bool) → List (List ℕ) → X → Type 0
Said text shown held fields x = (fields ≡ text x) × (shown x ≡ true) × (held x ≡ true)

-- ---- what a call asks for

abbrev pub SaidOp : List (List ℕ) → Op → Type 0
SaidOp fields op = Said op_fields is_shown_op fits_op fields op

record Item (made : List ℕ → List ℕ → ℕ → Op) (fields : List (List ℕ)) (op : Op) : Type 0 where
  key : List ℕ
  value : List ℕ
  expiry : ℕ
  is : made key value expiry ≡ op
  fields-are : fields ≡ key ∷ value_text value ∷ decimal expiry ∷ []
  shown : (is_key key && is_shown value) ≡ true
  held : (is_short key && nat_lt expiry (2 ^ 64)) ≡ true

item : (made : List ℕ → List ℕ → ℕ → Op) (fields : List (List ℕ)) (op : Op) → item_of made fields ≡ Some op → Item made fields op
item made fields op h =
    let b = bound (key_at fields) (λ k. value_at k.1 >>= (λ v. option_map (made k.0 v.0) (number_alone (2 ^ 64) v.1))) op h in
    let k = key-first fields b.first b.is in
    let c = bound (value_at b.first.1) (λ v. option_map (made b.first.0 v.0) (number_alone (2 ^ 64) v.1)) op b.next in
    let v = value-first b.first.1 c.first c.is in
    let m = mapped (made b.first.0 c.first.0) (number_alone (2 ^ 64) c.first.1) op c.next in
    let n = number-last (2 ^ 64) c.first.1 m.first m.is in
    record {
      key = b.first.0;
      value = c.first.0;
      expiry = m.first;
      is = m.gives;
      fields-are = k.fields-are ∙ ap (λ z. b.first.0 ∷ z) (v.fields-are ∙ ap (λ z. value_text c.first.0 ∷ z) n.fields-are);
      shown = and_from (is_key b.first.0) (is_shown c.first.0) k.shown v.shown;
      held = and_from (is_short b.first.0) (nat_lt m.first (2 ^ 64)) k.short n.small;
    }

insert : (word : List ℕ) (fields : List (List ℕ)) (op : Op) → word ≡ codes "insert" → item_of Insert fields ≡ Some op → SaidOp (word ∷ fields) op
insert word fields op w h =
    let i = item Insert fields op h in
    subst (SaidOp (word ∷ fields)) {x = Insert i.key i.value i.expiry} i.is ((λ j. w j ∷ i.fields-are j), i.shown, i.held)

add : (word : List ℕ) (fields : List (List ℕ)) (op : Op) → word ≡ codes "add" → item_of Add fields ≡ Some op → SaidOp (word ∷ fields) op
add word fields op w h =
    let i = item Add fields op h in
    subst (SaidOp (word ∷ fields)) {x = Add i.key i.value i.expiry} i.is ((λ j. w j ∷ i.fields-are j), i.shown, i.held)

find : (word : List ℕ) (fields : List (List ℕ)) (op : Op) → word ≡ codes "find" → option_map Find (key_alone fields) ≡ Some op → SaidOp (word ∷ fields) op
find word fields op w h =
    let m = mapped Find (key_alone fields) op h in
    let k = key-last fields m.first m.is in
    subst (SaidOp (word ∷ fields)) {x = Find m.first} m.gives ((λ j. w j ∷ k.fields-are j), k.shown, k.short)

remove : (word : List ℕ) (fields : List (List ℕ)) (op : Op) → word ≡ codes "remove" → option_map Remove (key_alone fields) ≡ Some op → SaidOp (word ∷ fields) op
remove word fields op w h =
    let m = mapped Remove (key_alone fields) op h in
    let k = key-last fields m.first m.is in
    subst (SaidOp (word ∷ fields)) {x = Remove m.first} m.gives ((λ j. w j ∷ k.fields-are j), k.shown, k.short)

pub said-op : (fields : List (List ℕ)) (op : Op) → op_of fields ≡ Some op → SaidOp fields op
said-op [] op h = absurd (none-is-not-some op h)
said-op (word ∷ fields) op h =
    elim (chosen word (codes "insert") (item_of Insert fields) _ op h) [
      | inl p ↦ insert word fields op p.0 p.1
      | inr h1 ↦ elim (chosen word (codes "add") (item_of Add fields) _ op h1) [
        | inl p ↦ add word fields op p.0 p.1
        | inr h2 ↦ elim (chosen word (codes "find") (option_map Find (key_alone fields)) _ op h2) [
          | inl p ↦ find word fields op p.0 p.1
          | inr h3 ↦ elim (chosen word (codes "remove") (option_map Remove (key_alone fields)) None op h3) [
            | inl p ↦ remove word fields op p.0 p.1
            | inr h4 ↦ absurd (none-is-not-some op h4)
          ]
        ]
      ]
    ]

-- ---- what a call is answered

abbrev pub SaidReply : List (List ℕ) → Reply → Type 0
SaidReply fields reply = (fields ≡ reply_fields reply) × (is_shown_reply reply ≡ true)

-- a word that stands for this
pub word-for : {X : Type 0} (P : X → Type 0) (x y : X) → Some x ≡ Some y → P x → P y
word-for P x y e p = subst P (same x y e) p

abbrev PlainReply : List ℕ → Reply → Type 0
PlainReply word reply = (word ∷ [] ≡ reply_fields reply) × (is_shown_reply reply ≡ true)

plain-reply : (word : List ℕ) (reply : Reply) → plain_reply word ≡ Some reply → PlainReply word reply
plain-reply word reply h =
    elim (chosen word (codes "stored") (Some Stored) _ reply h) [
      | inl p ↦ word-for (PlainReply word) Stored reply p.1 (ap (λ w. w ∷ []) p.0, refl)
      | inr h1 ↦ elim (chosen word (codes "exists") (Some Exists) _ reply h1) [
        | inl p ↦ word-for (PlainReply word) Exists reply p.1 (ap (λ w. w ∷ []) p.0, refl)
        | inr h2 ↦ elim (chosen word (codes "miss") (Some Miss) _ reply h2) [
          | inl p ↦ word-for (PlainReply word) Miss reply p.1 (ap (λ w. w ∷ []) p.0, refl)
          | inr h3 ↦ elim (chosen word (codes "found") (Some FoundInMemory) _ reply h3) [
            | inl p ↦ word-for (PlainReply word) FoundInMemory reply p.1 (ap (λ w. w ∷ []) p.0, refl)
            | inr h4 ↦ elim (chosen word (codes "absent") (Some NotInMemory) None reply h4) [
              | inl p ↦ word-for (PlainReply word) NotInMemory reply p.1 (ap (λ w. w ∷ []) p.0, refl)
              | inr h5 ↦ absurd (none-is-not-some reply h5)
            ]
          ]
        ]
      ]
    ]

hit : (word : List ℕ) (fields : List (List ℕ)) (reply : Reply) → word ≡ codes "hit" → option_map Hit (value_alone fields) ≡ Some reply → SaidReply (word ∷ fields) reply
hit word fields reply w h =
    let m = mapped Hit (value_alone fields) reply h in
    let v = value-last fields m.first m.is in
    subst (SaidReply (word ∷ fields)) {x = Hit m.first} m.gives ((λ j. w j ∷ v.fields-are j), v.shown)

other-reply : (word : List ℕ) (fields : List (List ℕ)) (reply : Reply) → (plain_reply word >>= (λ r. ended r fields)) ≡ Some reply → SaidReply (word ∷ fields) reply
other-reply word fields reply h =
    let b = bound (plain_reply word) (λ r. ended r fields) reply h in
    let p = plain-reply word b.first b.is in
    let e = ended-is b.first fields reply b.next in
    subst (SaidReply (word ∷ fields)) {x = b.first} e.is (ap (λ z. word ∷ z) e.none ∙ p.0, p.1)

pub said-reply : (fields : List (List ℕ)) (reply : Reply) → reply_of fields ≡ Some reply → SaidReply fields reply
said-reply [] reply h = absurd (none-is-not-some reply h)
said-reply (word ∷ fields) reply h =
    elim (chosen word (codes "hit") (option_map Hit (value_alone fields)) _ reply h) [
      | inl p ↦ hit word fields reply p.0 p.1
      | inr h1 ↦ other-reply word fields reply h1
    ]

-- ---- what is forgotten

-- these fields are those of the scope and what follows it
abbrev pub SaidScope : List (List ℕ) → Scope → List (List ℕ) → Type 0
SaidScope fields scope rest = (fields ≡ scope_fields scope rest) × (is_shown_scope scope ≡ true) × (fits_scope scope ≡ true)

abbrev ScopeThen : List (List ℕ) → Scope × List (List ℕ) → Type 0
ScopeThen fields p = SaidScope fields p.0 p.1

of-key : (word : List ℕ) (fields : List (List ℕ)) (p : Scope × List (List ℕ)) → word ≡ codes "key" → key_scope fields ≡ Some p → ScopeThen (word ∷ fields) p
of-key word fields p w h =
    let m = mapped (λ q. (loss.Key q.0, q.1)) (key_at fields) p h in
    let k = key-first fields m.first m.is in
    subst (ScopeThen (word ∷ fields)) {x = (loss.Key m.first.0, m.first.1)} m.gives ((λ j. w j ∷ k.fields-are j), k.shown, k.short)

of-bucket : (word : List ℕ) (fields : List (List ℕ)) (p : Scope × List (List ℕ)) → word ≡ codes "bucket" → bucket_scope fields ≡ Some p → ScopeThen (word ∷ fields) p
of-bucket word fields p w h =
    let m = mapped (λ q. (loss.Bucket q.0, q.1)) (number_at (2 ^ 32) fields) p h in
    let n = number-first (2 ^ 32) fields m.first m.is in
    subst (ScopeThen (word ∷ fields)) {x = (loss.Bucket m.first.0, m.first.1)} m.gives ((λ j. w j ∷ n.fields-are j), refl, n.small)

-- what stands behind a kept hash
abbrev ButThen : ℕ → List (List ℕ) → Scope × List (List ℕ) → Type 0
ButThen kept fields p = (codes "hash" ∷ decimal kept ∷ fields ≡ scope_fields p.0 p.1) × (is_shown_scope p.0 ≡ true) × (nat_lt kept (2 ^ 64) ≡ true → fits_scope p.0 ≡ true)

but-key : (kept : ℕ) (word : List ℕ) (fields : List (List ℕ)) (p : Scope × List (List ℕ)) → word ≡ codes "but" → option_map (λ q. (loss.Hash kept (Some q.0), q.1)) (key_at fields) ≡ Some p → ButThen kept (word ∷ fields) p
but-key kept word fields p w h =
    let m = mapped (λ q. (loss.Hash kept (Some q.0), q.1)) (key_at fields) p h in
    let k = key-first fields m.first m.is in
    subst (ButThen kept (word ∷ fields)) m.gives ((λ j. codes "hash" ∷ decimal kept ∷ w j ∷ k.fields-are j), k.shown, λ small. and_from (nat_lt kept (2 ^ 64)) (is_short m.first.0) small k.short)

but-then : (kept : ℕ) (fields : List (List ℕ)) (p : Scope × List (List ℕ)) → but_at kept fields ≡ Some p → ButThen kept fields p
but-then kept [] p h = absurd (none-is-not-some p h)
but-then kept (word ∷ fields) p h =
    elim (chosen word (codes "but") (option_map (λ q. (loss.Hash kept (Some q.0), q.1)) (key_at fields)) (Some (loss.Hash kept None, word ∷ fields)) p h) [
      | inl q ↦ but-key kept word fields p q.0 q.1
      | inr h1 ↦ subst (ButThen kept (word ∷ fields)) (same (loss.Hash kept None, word ∷ fields) p h1) (refl, refl, λ small. small)
    ]

of-hash : (word : List ℕ) (fields : List (List ℕ)) (p : Scope × List (List ℕ)) → word ≡ codes "hash" → hash_scope fields ≡ Some p → ScopeThen (word ∷ fields) p
of-hash word fields p w h =
    let b = bound (number_at (2 ^ 64) fields) (λ k. but_at k.0 k.1) p h in
    let n = number-first (2 ^ 64) fields b.first b.is in
    let t = but-then b.first.0 b.first.1 p b.next in
    ((λ j. w j ∷ n.fields-are j) ∙ t.0, t.1, t.2 n.small)

pub said-scope : (fields : List (List ℕ)) (p : Scope × List (List ℕ)) → scope_at fields ≡ Some p → SaidScope fields p.0 p.1
said-scope [] p h = absurd (none-is-not-some p h)
said-scope (word ∷ fields) p h =
    elim (chosen word (codes "key") (key_scope fields) _ p h) [
      | inl q ↦ of-key word fields p q.0 q.1
      | inr h1 ↦ elim (chosen word (codes "bucket") (bucket_scope fields) _ p h1) [
        | inl q ↦ of-bucket word fields p q.0 q.1
        | inr h2 ↦ elim (chosen word (codes "hash") (hash_scope fields) None p h2) [
          | inl q ↦ of-hash word fields p q.0 q.1
          | inr h3 ↦ absurd (none-is-not-some p h3)
        ]
      ]
    ]

-- ---- why it is forgotten

abbrev pub SaidCause : List (List ℕ) → Cause → Type 0
SaidCause fields cause = Said cause_fields is_shown_cause fits_cause fields cause

abbrev IsWhy : List ℕ → Why → Type 0
IsWhy word why = word ≡ why_word why

why-is : (word : List ℕ) (why : Why) → why_of word ≡ Some why → IsWhy word why
why-is word why h =
    elim (chosen word (codes "noflash") (Some NoFlash) _ why h) [
      | inl p ↦ word-for (IsWhy word) NoFlash why p.1 p.0
      | inr h1 ↦ elim (chosen word (codes "tombstone") (Some Tombstone) _ why h1) [
        | inl p ↦ word-for (IsWhy word) Tombstone why p.1 p.0
        | inr h2 ↦ elim (chosen word (codes "notadmitted") (Some NotAdmitted) _ why h2) [
          | inl p ↦ word-for (IsWhy word) NotAdmitted why p.1 p.0
          | inr h3 ↦ elim (chosen word (codes "toolarge") (Some TooLarge) _ why h3) [
            | inl p ↦ word-for (IsWhy word) TooLarge why p.1 p.0
            | inr h4 ↦ elim (chosen word (codes "queuefull") (Some QueueFull) None why h4) [
              | inl p ↦ word-for (IsWhy word) QueueFull why p.1 p.0
              | inr h5 ↦ absurd (none-is-not-some why h5)
            ]
          ]
        ]
      ]
    ]

why-first : (fields : List (List ℕ)) (p : Why × List (List ℕ)) → why_at fields ≡ Some p → fields ≡ why_word p.0 ∷ p.1
why-first [] p h = absurd (none-is-not-some p h)
why-first (field ∷ fields) p h =
    let m = mapped (λ why. (why, fields)) (why_of field) p h in
    let w = why-is field m.first m.is in
    subst (λ (q : Why × List (List ℕ)). field ∷ fields ≡ why_word q.0 ∷ q.1) m.gives (ap (λ z. z ∷ fields) w)

evicted : (word : List ℕ) (fields : List (List ℕ)) (cause : Cause) → word ≡ codes "evicted" → evicted_of fields ≡ Some cause → SaidCause (word ∷ fields) cause
evicted word fields cause w h =
    let b = bound (why_at fields) (λ y. number_at (2 ^ 8) y.1 >>= (λ p. option_map (λ want. loss.Evicted p.0 want y.0) (number_alone (2 ^ 64) p.1))) cause h in
    let y = why-first fields b.first b.is in
    let c = bound (number_at (2 ^ 8) b.first.1) (λ p. option_map (λ want. loss.Evicted p.0 want b.first.0) (number_alone (2 ^ 64) p.1)) cause b.next in
    let p = number-first (2 ^ 8) b.first.1 c.first c.is in
    let m = mapped (λ want. loss.Evicted c.first.0 want b.first.0) (number_alone (2 ^ 64) c.first.1) cause c.next in
    let n = number-last (2 ^ 64) c.first.1 m.first m.is in
    subst (SaidCause (word ∷ fields)) {x = loss.Evicted c.first.0 m.first b.first.0} m.gives
    ((λ j. w j ∷ (y ∙ ap (λ z. why_word b.first.0 ∷ z) (p.fields-are ∙ ap (λ z. decimal c.first.0 ∷ z) n.fields-are)) j), refl, and_from (nat_lt c.first.0 (2 ^ 8)) (nat_lt m.first (2 ^ 64)) p.small n.small)

reclaimed : (word : List ℕ) (fields : List (List ℕ)) (cause : Cause) → word ≡ codes "reclaimed" → option_map loss.Reclaimed (number_alone (2 ^ 32) fields) ≡ Some cause → SaidCause (word ∷ fields) cause
reclaimed word fields cause w h =
    let m = mapped loss.Reclaimed (number_alone (2 ^ 32) fields) cause h in
    let n = number-last (2 ^ 32) fields m.first m.is in
    subst (SaidCause (word ∷ fields)) {x = loss.Reclaimed m.first} m.gives ((λ j. w j ∷ n.fields-are j), refl, n.small)

collision : (word : List ℕ) (fields : List (List ℕ)) (cause : Cause) → word ≡ codes "collision" → option_map loss.Collision (key_alone fields) ≡ Some cause → SaidCause (word ∷ fields) cause
collision word fields cause w h =
    let m = mapped loss.Collision (key_alone fields) cause h in
    let k = key-last fields m.first m.is in
    subst (SaidCause (word ∷ fields)) {x = loss.Collision m.first} m.gives ((λ j. w j ∷ k.fields-are j), k.shown, k.short)

abbrev PlainCause : List ℕ → Cause → Type 0
PlainCause word cause = SaidCause (word ∷ []) cause

plain-cause : (word : List ℕ) (cause : Cause) → plain_cause word ≡ Some cause → PlainCause word cause
plain-cause word cause h =
    elim (chosen word (codes "bucketfull") (Some loss.BucketFull) _ cause h) [
      | inl p ↦ word-for (PlainCause word) loss.BucketFull cause p.1 (ap (λ w. w ∷ []) p.0, refl, refl)
      | inr h1 ↦ elim (chosen word (codes "nocleanregion") (Some loss.NoCleanRegion) _ cause h1) [
        | inl p ↦ word-for (PlainCause word) loss.NoCleanRegion cause p.1 (ap (λ w. w ∷ []) p.0, refl, refl)
        | inr h2 ↦ elim (chosen word (codes "expired") (Some loss.Expired) _ cause h2) [
          | inl p ↦ word-for (PlainCause word) loss.Expired cause p.1 (ap (λ w. w ∷ []) p.0, refl, refl)
          | inr h3 ↦ elim (chosen word (codes "fault") (Some loss.Fault) None cause h3) [
            | inl p ↦ word-for (PlainCause word) loss.Fault cause p.1 (ap (λ w. w ∷ []) p.0, refl, refl)
            | inr h4 ↦ absurd (none-is-not-some cause h4)
          ]
        ]
      ]
    ]

other-cause : (word : List ℕ) (fields : List (List ℕ)) (cause : Cause) → plain_alone word fields ≡ Some cause → SaidCause (word ∷ fields) cause
other-cause word fields cause h =
    let b = bound (plain_cause word) (λ c. ended c fields) cause h in
    let p = plain-cause word b.first b.is in
    let e = ended-is b.first fields cause b.next in
    subst (SaidCause (word ∷ fields)) {x = b.first} e.is (ap (λ z. word ∷ z) e.none ∙ p.0, p.1, p.2)

pub said-cause : (fields : List (List ℕ)) (cause : Cause) → cause_of fields ≡ Some cause → SaidCause fields cause
said-cause [] cause h = absurd (none-is-not-some cause h)
said-cause (word ∷ fields) cause h =
    elim (chosen word (codes "evicted") (evicted_of fields) _ cause h) [
      | inl p ↦ evicted word fields cause p.0 p.1
      | inr h1 ↦ elim (chosen word (codes "reclaimed") (option_map loss.Reclaimed (number_alone (2 ^ 32) fields)) _ cause h1) [
        | inl p ↦ reclaimed word fields cause p.0 p.1
        | inr h2 ↦ elim (chosen word (codes "collision") (option_map loss.Collision (key_alone fields)) _ cause h2) [
          | inl p ↦ collision word fields cause p.0 p.1
          | inr h3 ↦ other-cause word fields cause h3
        ]
      ]
    ]
