use Rattle.std.proofs.Common.{◌≡◌, ℕ, List, ◌∷◌, false, refl, sym, ap, ◌∙◌}
use Rattle.std.specs.Prelude.{codes}
use Rattle.std.specs.Str.{bytes_eq}
use Rattle.hc_log_text.specs.Left.{left}
use Rattle.hc_log_text.specs.Reading.{cause_of, plain_alone}
use Rattle.hc_log_text.proofs.losses.cause_in.Goals as goal

others : (word : List ℕ) (fields : List (List ℕ)) → bytes_eq word (codes "evicted") ≡ false → bytes_eq word (codes "reclaimed") ≡ false → bytes_eq word (codes "collision") ≡ false
    → cause_of (word ∷ fields) ≡ plain_alone word fields
others word fields e r c = rw (e, r, c) refl

pub returns : goal.returns
returns c =
    let word = c.in_ok-word.word.now in
    c.plain_alone.ensures
    ∙ sym (ap cause_of c.in_ok-word.ensures ∙ others word (left c.in_ok-word.rest)
    (sym (c.eq.ensures ∙ ap (bytes_eq word) c.as_slice.ensures) ∙ c.if-eq.false)
    (sym (c.eq-2.ensures ∙ ap (bytes_eq word) c.as_slice-2.ensures) ∙ c.if-eq-2.false)
    (sym (c.eq-3.ensures ∙ ap (bytes_eq word) c.as_slice-3.ensures) ∙ c.if-eq-3.false))
