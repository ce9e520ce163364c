-- What is written of a note is read as the note, and nothing else is.
use Rattle.std.proofs.Common.{◌≡◌, ℕ, ◌==◌, Bool, true, false, List, [], ◌∷◌, Option, None, Some, Result, Ok, Err, refl, sym, ap, ◌∙◌}
use Rattle.std.proofs.lemmas.Bool.{eqb-true}
use Rattle.std.specs.Prelude.{IfOk, IfSome, if◌then◌else◌}
use Rattle.hc_history.specs.Note.{Note}
use Rattle.hc_trace_text.specs.Lines.{onto_first, fields_of}
use Rattle.hc_trace_text.proofs.Parts.{Some-fields, fields-some}
use Rattle.hc_log_text.specs.Text.{joined, note_text}
use Rattle.hc_log_text.specs.Said.{IsSaid}
use Rattle.hc_log_text.specs.Reading.{note_of}
use Rattle.hc_log_text.proofs.Spaces.{note-falls}
use Rattle.hc_log_text.proofs.Written.{note-read}
use Rattle.hc_log_text.proofs.Whole.{said-note}

pub reads-back : {E : Type 0} (line : List ℕ) (read : Result (Option Note) E) → IfOk read (λ found. found ≡ note_of (fields_of line)) → IfOk read (λ found. (note : Note) → IsSaid note → line ≡ note_text note → found ≡ Some note)
reads-back line (Ok found) h = λ note said is. h ∙ ap (λ l. note_of (fields_of l)) is ∙ ap note_of (note-falls note said.0 said.1) ∙ note-read note said.0 said.1
reads-back line (Err e) h = h

-- ---- the fields of a line, joined again, are the line

onto : (b : ℕ) (fields : List (List ℕ)) → Some-fields fields → joined (onto_first b fields) ≡ b ∷ joined fields
onto b fields s = rw s.is refl

ended : (fields : List (List ℕ)) → Some-fields fields → joined ([] ∷ fields) ≡ 32 ∷ joined fields
ended fields s = rw s.is refl

by-space : (b : ℕ) (line : List ℕ) (space : Bool) → (b == 32) ≡ space → joined (fields_of line) ≡ line → joined (if space then [] ∷ fields_of line else onto_first b (fields_of line)) ≡ b ∷ line
by-space b line true e h = ended (fields_of line) (fields-some line) ∙ (λ i. sym (eqb-true b 32 e) i ∷ h i)
by-space b line false e h = onto b (fields_of line) (fields-some line) ∙ ap (λ l. b ∷ l) h

pub whole : (line : List ℕ) → joined (fields_of line) ≡ line
whole [] = refl
whole (b ∷ line) = by-space b line (b == 32) refl (whole line)

of-found : (line : List ℕ) (found : Option Note) → found ≡ note_of (fields_of line) → IfSome found (λ note. IsSaid note × (line ≡ note_text note))
of-found line (Some note) h =
    let s = said-note (fields_of line) note (sym h) in
    ((s.1, s.2), sym (whole line) ∙ ap joined s.0)
of-found line None h = tt

pub reads-only : {E : Type 0} (line : List ℕ) (read : Result (Option Note) E) → IfOk read (λ found. found ≡ note_of (fields_of line)) → IfOk read (λ found. IfSome found (λ note. IsSaid note × (line ≡ note_text note)))
reads-only line (Ok found) h = of-found line found h
reads-only line (Err e) h = h
