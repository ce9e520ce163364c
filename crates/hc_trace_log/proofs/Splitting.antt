-- The first line of a text.
use Rattle.std.proofs.Common.{◌≡◌, ℕ, ◌+◌, ◌<◌, ◌-◌, List, [], ◌∷◌, length, take, drop, get_or, true, ◌==◌, refl, ap, ◌∙◌, arith}
use Rattle.hc_trace_text.specs.Lines.{onto_first, lines_of, Lacks}
use Rattle.hc_trace_text.proofs.Parts.{around, lines-ended}

lines_one : (b : ℕ) (line : List ℕ) → Lacks 10 (b ∷ line) → lines_of (b ∷ line) ≡ (b ∷ line) ∷ []
lines_one b [] h = rw h.0 refl
lines_one b (c ∷ line) h = rw h.0 (ap (onto_first b) (lines_one c line h.1))

-- a text that no line feed parts
pub one-line : (line : List ℕ) → 0 < length line → Lacks 10 line → lines_of line ≡ line ∷ []
one-line [] some h = absurd (omega (arith, some))
one-line (b ∷ line) some h = lines_one b line h

-- a text that the first line feed parts
pub first-line : (text : List ℕ) (at : ℕ) → at < length text → (get_or text at 0 == 10) ≡ true → Lacks 10 (take at text) → lines_of text ≡ take at text ∷ lines_of (drop (at + 1) text)
first-line text at within is before = ap lines_of (around 10 text at within is) ∙ lines-ended (take at text) (drop (at + 1) text) before
