-- A line that is read as a note is the text of that note.
use Rattle.std.proofs.Common.{◌≡◌, ℕ, ◌^◌, nat_lt, Bool, true, false, ◌&&◌, ◌⊎◌, inl, inr, List, [], ◌∷◌, Option, Some, None, option_map, refl, sym, ap, ◌∙◌, subst}
use Rattle.std.proofs.lemmas.Bool.{and_from}
use Rattle.std.specs.Prelude.{codes}
use Rattle.std.specs.Fmt.{decimal}
use Rattle.hex.specs.Hex.{encode_lower}
use Rattle.hc_history.specs.Note.{Note, Begin, Did, End, Lose, Charged, Linked, Freed, Queued, Unqueued, Writing, Written, Buried, Raised, Read, Wrote, Opened, Flushed, Cleared, Now}
use Rattle.hc_trace_text.specs.Numbers.{is_key}
use Rattle.hc_log_text.specs.Text.{scope_fields, written_word, note_fields}
use Rattle.hc_log_text.specs.Said.{is_shown_scope, is_shown_cause, is_sayable, is_short, is_bytes, fits_op, fits_scope, fits_cause, fits}
use Rattle.hc_log_text.specs.Reading.{first_of_two, ended, number_at, number_alone, key_at, key_alone, is_page, page_bytes, page_alone, op_of, reply_of, scope_at, cause_of, begin_of, did_of, lose_of, charged_of, result_of, read_of, written, outcome_of, wrote_of, call_note, charge_note, keyed, key_note, of_region, flash_note, worded, note_of, ◌>>=◌}
use Rattle.hc_log_text.proofs.Pages.{page-right}
use Rattle.hc_log_text.proofs.Inverse.{none-is-not-some, bound, mapped, chosen, tested, ended-is, number-first, number-last, key-first, key-last}
use Rattle.hc_log_text.proofs.Only.{Said, said-op, said-reply, said-scope, said-cause, word-for}

abbrev SaidNote : List (List ℕ) → Note → Type 0
SaidNote fields note = Said note_fields is_sayable fits fields note

-- ---- calls

begin : (word : List ℕ) (fields : List (List ℕ)) (note : Note) → word ≡ codes "begin" → begin_of fields ≡ Some note → SaidNote (word ∷ fields) note
begin word fields note w h =
    let b = bound (number_at (2 ^ 64) fields) (λ p. number_at (2 ^ 8) p.1 >>= (λ q. option_map (Begin p.0 q.0) (op_of q.1))) note h in
    let call = number-first (2 ^ 64) fields b.first b.is in
    let c = bound (number_at (2 ^ 8) b.first.1) (λ q. option_map (Begin b.first.0 q.0) (op_of q.1)) note b.next in
    let client = number-first (2 ^ 8) b.first.1 c.first c.is in
    let m = mapped (Begin b.first.0 c.first.0) (op_of c.first.1) note c.next in
    let o = said-op c.first.1 m.first m.is in
    subst (SaidNote (word ∷ fields)) {x = Begin b.first.0 c.first.0 m.first} m.gives (
      (λ j. w j ∷ (call.fields-are ∙ ap (λ z. decimal b.first.0 ∷ z) (client.fields-are ∙ ap (λ z. decimal c.first.0 ∷ z) o.0)) j),
      o.1,
      and_from (nat_lt b.first.0 (2 ^ 64)) (nat_lt c.first.0 (2 ^ 8) && fits_op m.first) call.small (and_from (nat_lt c.first.0 (2 ^ 8)) (fits_op m.first) client.small o.2),
    )

did : (word : List ℕ) (fields : List (List ℕ)) (note : Note) → word ≡ codes "did" → did_of fields ≡ Some note → SaidNote (word ∷ fields) note
did word fields note w h =
    let b = bound (number_at (2 ^ 64) fields) (λ p. option_map (Did p.0) (reply_of p.1)) note h in
    let call = number-first (2 ^ 64) fields b.first b.is in
    let m = mapped (Did b.first.0) (reply_of b.first.1) note b.next in
    let r = said-reply b.first.1 m.first m.is in
    subst (SaidNote (word ∷ fields)) {x = Did b.first.0 m.first} m.gives
    ((λ j. w j ∷ (call.fields-are ∙ ap (λ z. decimal b.first.0 ∷ z) r.0) j), r.1, call.small)

lose : (word : List ℕ) (fields : List (List ℕ)) (note : Note) → word ≡ codes "lose" → lose_of fields ≡ Some note → SaidNote (word ∷ fields) note
lose word fields note w h =
    let b = bound (scope_at fields) (λ p. option_map (Lose p.0) (cause_of p.1)) note h in
    let s = said-scope fields b.first b.is in
    let m = mapped (Lose b.first.0) (cause_of b.first.1) note b.next in
    let c = said-cause b.first.1 m.first m.is in
    subst (SaidNote (word ∷ fields)) {x = Lose b.first.0 m.first} m.gives (
      (λ j. w j ∷ (s.0 ∙ ap (scope_fields b.first.0) c.0) j),
      and_from (is_shown_scope b.first.0) (is_shown_cause m.first) s.1 c.1,
      and_from (fits_scope b.first.0) (fits_cause m.first) s.2 c.2,
    )

end : (word : List ℕ) (fields : List (List ℕ)) (note : Note) → word ≡ codes "end" → option_map End (number_alone (2 ^ 64) fields) ≡ Some note → SaidNote (word ∷ fields) note
end word fields note w h =
    let m = mapped End (number_alone (2 ^ 64) fields) note h in
    let n = number-last (2 ^ 64) fields m.first m.is in
    subst (SaidNote (word ∷ fields)) {x = End m.first} m.gives ((λ j. w j ∷ n.fields-are j), refl, n.small)

now : (word : List ℕ) (fields : List (List ℕ)) (note : Note) → word ≡ codes "now" → option_map Now (number_alone (2 ^ 64) fields) ≡ Some note → SaidNote (word ∷ fields) note
now word fields note w h =
    let m = mapped Now (number_alone (2 ^ 64) fields) note h in
    let n = number-last (2 ^ 64) fields m.first m.is in
    subst (SaidNote (word ∷ fields)) {x = Now m.first} m.gives ((λ j. w j ∷ n.fields-are j), refl, n.small)

said-call : (word : List ℕ) (fields : List (List ℕ)) (note : Note) → call_note word fields ≡ Some note → SaidNote (word ∷ fields) note
said-call word fields note h =
    elim (chosen word (codes "begin") (begin_of fields) _ note h) [
      | inl p ↦ begin word fields note p.0 p.1
      | inr h1 ↦ elim (chosen word (codes "did") (did_of fields) _ note h1) [
        | inl p ↦ did word fields note p.0 p.1
        | inr h2 ↦ elim (chosen word (codes "lose") (lose_of fields) _ note h2) [
          | inl p ↦ lose word fields note p.0 p.1
          | inr h3 ↦ elim (chosen word (codes "end") (option_map End (number_alone (2 ^ 64) fields)) _ note h3) [
            | inl p ↦ end word fields note p.0 p.1
            | inr h4 ↦ elim (chosen word (codes "now") (option_map Now (number_alone (2 ^ 64) fields)) None note h4) [
              | inl p ↦ now word fields note p.0 p.1
              | inr h5 ↦ absurd (none-is-not-some note h5)
            ]
          ]
        ]
      ]
    ]

-- ---- charges

charged : (word : List ℕ) (fields : List (List ℕ)) (note : Note) → word ≡ codes "charged" → charged_of fields ≡ Some note → SaidNote (word ∷ fields) note
charged word fields note w h =
    let b = bound (number_at (2 ^ 64) fields) (λ p. key_at p.1 >>= (λ q. number_at (2 ^ 8) q.1 >>= (λ r. option_map (Charged p.0 q.0 r.0) (number_alone (2 ^ 64) r.1)))) note h in
    let charge = number-first (2 ^ 64) fields b.first b.is in
    let c = bound (key_at b.first.1) (λ q. number_at (2 ^ 8) q.1 >>= (λ r. option_map (Charged b.first.0 q.0 r.0) (number_alone (2 ^ 64) r.1))) note b.next in
    let k = key-first b.first.1 c.first c.is in
    let d = bound (number_at (2 ^ 8) c.first.1) (λ r. option_map (Charged b.first.0 c.first.0 r.0) (number_alone (2 ^ 64) r.1)) note c.next in
    let pool = number-first (2 ^ 8) c.first.1 d.first d.is in
    let m = mapped (Charged b.first.0 c.first.0 d.first.0) (number_alone (2 ^ 64) d.first.1) note d.next in
    let n = number-last (2 ^ 64) d.first.1 m.first m.is in
    subst (SaidNote (word ∷ fields)) {x = Charged b.first.0 c.first.0 d.first.0 m.first} m.gives (
      (λ j. w j ∷ (charge.fields-are ∙ ap (λ z. decimal b.first.0 ∷ z) (k.fields-are ∙ ap (λ z. c.first.0 ∷ z) (pool.fields-are ∙ ap (λ z. decimal d.first.0 ∷ z) n.fields-are))) j),
      k.shown,
      and_from (nat_lt b.first.0 (2 ^ 64)) (is_short c.first.0 && (nat_lt d.first.0 (2 ^ 8) && nat_lt m.first (2 ^ 64))) charge.small
          (and_from (is_short c.first.0) (nat_lt d.first.0 (2 ^ 8) && nat_lt m.first (2 ^ 64)) k.short (and_from (nat_lt d.first.0 (2 ^ 8)) (nat_lt m.first (2 ^ 64)) pool.small n.small)),
    )

linked : (word : List ℕ) (fields : List (List ℕ)) (note : Note) → word ≡ codes "linked" → option_map Linked (number_alone (2 ^ 64) fields) ≡ Some note → SaidNote (word ∷ fields) note
linked word fields note w h =
    let m = mapped Linked (number_alone (2 ^ 64) fields) note h in
    let n = number-last (2 ^ 64) fields m.first m.is in
    subst (SaidNote (word ∷ fields)) {x = Linked m.first} m.gives ((λ j. w j ∷ n.fields-are j), refl, n.small)

freed : (word : List ℕ) (fields : List (List ℕ)) (note : Note) → word ≡ codes "freed" → option_map Freed (number_alone (2 ^ 64) fields) ≡ Some note → SaidNote (word ∷ fields) note
freed word fields note w h =
    let m = mapped Freed (number_alone (2 ^ 64) fields) note h in
    let n = number-last (2 ^ 64) fields m.first m.is in
    subst (SaidNote (word ∷ fields)) {x = Freed m.first} m.gives ((λ j. w j ∷ n.fields-are j), refl, n.small)

said-charge : (word : List ℕ) (fields : List (List ℕ)) (note : Note) → charge_note word fields ≡ Some note → SaidNote (word ∷ fields) note
said-charge word fields note h =
    elim (chosen word (codes "charged") (charged_of fields) _ note h) [
      | inl p ↦ charged word fields note p.0 p.1
      | inr h1 ↦ elim (chosen word (codes "linked") (option_map Linked (number_alone (2 ^ 64) fields)) _ note h1) [
        | inl p ↦ linked word fields note p.0 p.1
        | inr h2 ↦ elim (chosen word (codes "freed") (option_map Freed (number_alone (2 ^ 64) fields)) None note h2) [
          | inl p ↦ freed word fields note p.0 p.1
          | inr h3 ↦ absurd (none-is-not-some note h3)
        ]
      ]
    ]

-- ---- keys

abbrev KeyNote : List ℕ → List ℕ → Note → Type 0
KeyNote word key note = is_key key ≡ true → is_short key ≡ true → SaidNote (word ∷ key ∷ []) note

said-keyed : (word key : List ℕ) (note : Note) → keyed word key ≡ Some note → KeyNote word key note
said-keyed word key note h =
    elim (chosen word (codes "queued") (Some (Queued key)) _ note h) [
      | inl p ↦ word-for (KeyNote word key) (Queued key) note p.1 (λ shown short. (ap (λ w. w ∷ key ∷ []) p.0, shown, short))
      | inr h1 ↦ elim (chosen word (codes "unqueued") (Some (Unqueued key)) _ note h1) [
        | inl p ↦ word-for (KeyNote word key) (Unqueued key) note p.1 (λ shown short. (ap (λ w. w ∷ key ∷ []) p.0, shown, short))
        | inr h2 ↦ elim (chosen word (codes "writing") (Some (Writing key)) _ note h2) [
          | inl p ↦ word-for (KeyNote word key) (Writing key) note p.1 (λ shown short. (ap (λ w. w ∷ key ∷ []) p.0, shown, short))
          | inr h3 ↦ elim (chosen word (codes "written") (Some (Written key)) _ note h3) [
            | inl p ↦ word-for (KeyNote word key) (Written key) note p.1 (λ shown short. (ap (λ w. w ∷ key ∷ []) p.0, shown, short))
            | inr h4 ↦ elim (chosen word (codes "buried") (Some (Buried key)) _ note h4) [
              | inl p ↦ word-for (KeyNote word key) (Buried key) note p.1 (λ shown short. (ap (λ w. w ∷ key ∷ []) p.0, shown, short))
              | inr h5 ↦ elim (chosen word (codes "raised") (Some (Raised key)) None note h5) [
                | inl p ↦ word-for (KeyNote word key) (Raised key) note p.1 (λ shown short. (ap (λ w. w ∷ key ∷ []) p.0, shown, short))
                | inr h6 ↦ absurd (none-is-not-some note h6)
              ]
            ]
          ]
        ]
      ]
    ]

said-key : (word : List ℕ) (fields : List (List ℕ)) (note : Note) → key_note word fields ≡ Some note → SaidNote (word ∷ fields) note
said-key word fields note h =
    let b = bound (key_alone fields) (keyed word) note h in
    let k = key-last fields b.first b.is in
    let s = said-keyed word b.first note b.next k.shown k.short in
    (ap (λ z. word ∷ z) k.fields-are ∙ s.0, s.1, s.2)

-- ---- pages and regions

record PageText (fields : List (List ℕ)) (bytes : List ℕ) : Type 0 where
  fields-are : fields ≡ encode_lower bytes ∷ []
  are : is_bytes bytes ≡ true

page-last : (fields : List (List ℕ)) (bytes : List ℕ) → page_alone fields ≡ Some bytes → PageText fields bytes
page-last [] bytes h = absurd (none-is-not-some bytes h)
page-last (field ∷ fields) bytes h =
    let t = tested (is_page field) (ended (page_bytes field) fields) bytes h in
    let p = page-right field t.0 in
    let e = ended-is (page_bytes field) fields bytes t.1 in
    record { fields-are = λ j. (sym p.0 ∙ ap encode_lower e.is) j ∷ e.none j; are = sym (ap is_bytes e.is) ∙ p.1 }

abbrev ReadNote : ℕ → List (List ℕ) → Note → Type 0
ReadNote page fields note = nat_lt page (2 ^ 32) ≡ true → SaidNote (codes "read" ∷ decimal page ∷ fields) note

read-failed : (page : ℕ) (word : List ℕ) (fields : List (List ℕ)) (note : Note) → word ≡ codes "failed" → ended (Read page None) fields ≡ Some note → ReadNote page (word ∷ fields) note
read-failed page word fields note w h =
    let e = ended-is (Read page None) fields note h in
    subst (ReadNote page (word ∷ fields)) {x = Read page None} e.is (λ small. ((λ j. codes "read" ∷ decimal page ∷ w j ∷ e.none j), refl, and_from (nat_lt page (2 ^ 32)) true small refl))

read-bytes : (page : ℕ) (fields : List (List ℕ)) (note : Note) → option_map (λ bytes. Read page (Some bytes)) (page_alone fields) ≡ Some note → ReadNote page fields note
read-bytes page fields note h =
    let m = mapped (λ bytes. Read page (Some bytes)) (page_alone fields) note h in
    let p = page-last fields m.first m.is in
    subst (ReadNote page fields) {x = Read page (Some m.first)} m.gives (λ small. ((λ j. codes "read" ∷ decimal page ∷ p.fields-are j), refl, and_from (nat_lt page (2 ^ 32)) (is_bytes m.first) small p.are))

said-result : (page : ℕ) (fields : List (List ℕ)) (note : Note) → result_of page fields ≡ Some note → ReadNote page fields note
said-result page [] note h = absurd (none-is-not-some note h)
said-result page (word ∷ fields) note h =
    elim (chosen word (codes "failed") (ended (Read page None) fields) (option_map (λ bytes. Read page (Some bytes)) (page_alone (word ∷ fields))) note h) [
      | inl p ↦ read-failed page word fields note p.0 p.1
      | inr h1 ↦ read-bytes page (word ∷ fields) note h1
    ]

read : (word : List ℕ) (fields : List (List ℕ)) (note : Note) → word ≡ codes "read" → read_of fields ≡ Some note → SaidNote (word ∷ fields) note
read word fields note w h =
    let b = bound (number_at (2 ^ 32) fields) (λ p. result_of p.0 p.1) note h in
    let n = number-first (2 ^ 32) fields b.first b.is in
    let r = said-result b.first.0 b.first.1 note b.next n.small in
    ((λ j. w j ∷ n.fields-are j) ∙ r.0, r.1, r.2)

outcome-is : (word : List ℕ) (is_written : Bool) → written word ≡ Some is_written → word ≡ written_word is_written
outcome-is word is_written h =
    elim (chosen word (codes "ok") (Some true) _ is_written h) [
      | inl p ↦ word-for (λ b. word ≡ written_word b) true is_written p.1 p.0
      | inr h1 ↦ elim (chosen word (codes "failed") (Some false) None is_written h1) [
        | inl p ↦ word-for (λ b. word ≡ written_word b) false is_written p.1 p.0
        | inr h2 ↦ absurd (none-is-not-some is_written h2)
      ]
    ]

abbrev WroteNote : ℕ → List (List ℕ) → Note → Type 0
WroteNote page fields note = nat_lt page (2 ^ 32) ≡ true → SaidNote (codes "wrote" ∷ decimal page ∷ fields) note

said-outcome : (page : ℕ) (fields : List (List ℕ)) (note : Note) → outcome_of page fields ≡ Some note → WroteNote page fields note
said-outcome page [] note h = absurd (none-is-not-some note h)
said-outcome page (word ∷ fields) note h =
    let b = bound (written word) (λ is_written. option_map (λ bytes. Wrote page bytes is_written) (page_alone fields)) note h in
    let w = outcome-is word b.first b.is in
    let m = mapped (λ bytes. Wrote page bytes b.first) (page_alone fields) note b.next in
    let p = page-last fields m.first m.is in
    subst (WroteNote page (word ∷ fields)) {x = Wrote page m.first b.first} m.gives
    (λ small. ((λ j. codes "wrote" ∷ decimal page ∷ w j ∷ p.fields-are j), refl, and_from (nat_lt page (2 ^ 32)) (is_bytes m.first) small p.are))

wrote : (word : List ℕ) (fields : List (List ℕ)) (note : Note) → word ≡ codes "wrote" → wrote_of fields ≡ Some note → SaidNote (word ∷ fields) note
wrote word fields note w h =
    let b = bound (number_at (2 ^ 32) fields) (λ p. outcome_of p.0 p.1) note h in
    let n = number-first (2 ^ 32) fields b.first b.is in
    let r = said-outcome b.first.0 b.first.1 note b.next n.small in
    ((λ j. w j ∷ n.fields-are j) ∙ r.0, r.1, r.2)

abbrev RegionNote : List ℕ → ℕ → Note → Type 0
RegionNote word region note = nat_lt region (2 ^ 32) ≡ true → SaidNote (word ∷ decimal region ∷ []) note

said-of-region : (word : List ℕ) (region : ℕ) (note : Note) → of_region word region ≡ Some note → RegionNote word region note
said-of-region word region note h =
    elim (chosen word (codes "opened") (Some (Opened region)) _ note h) [
      | inl p ↦ word-for (RegionNote word region) (Opened region) note p.1 (λ small. (ap (λ w. w ∷ decimal region ∷ []) p.0, refl, small))
      | inr h1 ↦ elim (chosen word (codes "flushed") (Some (Flushed region)) _ note h1) [
        | inl p ↦ word-for (RegionNote word region) (Flushed region) note p.1 (λ small. (ap (λ w. w ∷ decimal region ∷ []) p.0, refl, small))
        | inr h2 ↦ elim (chosen word (codes "cleared") (Some (Cleared region)) None note h2) [
          | inl p ↦ word-for (RegionNote word region) (Cleared region) note p.1 (λ small. (ap (λ w. w ∷ decimal region ∷ []) p.0, refl, small))
          | inr h3 ↦ absurd (none-is-not-some note h3)
        ]
      ]
    ]

region : (word : List ℕ) (fields : List (List ℕ)) (note : Note) → (number_alone (2 ^ 32) fields >>= of_region word) ≡ Some note → SaidNote (word ∷ fields) note
region word fields note h =
    let b = bound (number_alone (2 ^ 32) fields) (of_region word) note h in
    let n = number-last (2 ^ 32) fields b.first b.is in
    let s = said-of-region word b.first note b.next n.small in
    (ap (λ z. word ∷ z) n.fields-are ∙ s.0, s.1, s.2)

said-flash : (word : List ℕ) (fields : List (List ℕ)) (note : Note) → flash_note word fields ≡ Some note → SaidNote (word ∷ fields) note
said-flash word fields note h =
    elim (chosen word (codes "read") (read_of fields) _ note h) [
      | inl p ↦ read word fields note p.0 p.1
      | inr h1 ↦ elim (chosen word (codes "wrote") (wrote_of fields) (number_alone (2 ^ 32) fields >>= of_region word) note h1) [
        | inl p ↦ wrote word fields note p.0 p.1
        | inr h2 ↦ region word fields note h2
      ]
    ]

-- ---- any note

either : (first second : Option Note) (note : Note) → first_of_two first second ≡ Some note → (first ≡ Some note) ⊎ (second ≡ Some note)
either None second note h = inr h
either (Some x) second note h = inl h

said-worded : (word : List ℕ) (fields : List (List ℕ)) (note : Note) → worded word fields ≡ Some note → SaidNote (word ∷ fields) note
said-worded word fields note h =
    elim (either (call_note word fields) _ note h) [
      | inl p ↦ said-call word fields note p
      | inr h1 ↦ elim (either (charge_note word fields) _ note h1) [
        | inl p ↦ said-charge word fields note p
        | inr h2 ↦ elim (either (key_note word fields) (flash_note word fields) note h2) [
          | inl p ↦ said-key word fields note p
          | inr h3 ↦ said-flash word fields note h3
        ]
      ]
    ]

pub said-note : (fields : List (List ℕ)) (note : Note) → note_of fields ≡ Some note → (fields ≡ note_fields note) × (is_sayable note ≡ true) × (fits note ≡ true)
said-note [] note h = absurd (none-is-not-some note h)
said-note (word ∷ fields) note h = said-worded word fields note h
