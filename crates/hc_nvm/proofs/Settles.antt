-- What an outcome comes to.
use Rattle.std.proofs.Common.{◌≡◌, List, append_assoc, ◌++◌, ap, ◌∙◌}
use Rattle.hc_history.specs.Note.{Note}
use Rattle.hc_history.specs.Told.{Heard, told_more}
use Rattle.hc_history.proofs.Telling.{told-twice}

-- three parts, one after the other
pub told-three : (a b c : List Note) (log one two three : Heard) → one ≡ told_more log a → two ≡ told_more one b → three ≡ told_more two c → three ≡ told_more log ((a ++ b) ++ c)
told-three a b c log one two three p q r = r ∙ ap (λ l. told_more l c) (q ∙ ap (λ l. told_more l b) p) ∙ ap (λ l. told_more l c) (told-twice log a b) ∙ told-twice log (a ++ b) c

lists : {X : Type 0} (h r w f c : List X) → ((h ++ (r ++ w)) ++ f) ++ c ≡ h ++ (r ++ (w ++ (f ++ c)))
lists h r w f c = append_assoc (h ++ (r ++ w)) f c ∙ append_assoc h (r ++ w) (f ++ c) ∙ ap (λ xs. h ++ xs) (append_assoc r w (f ++ c))

-- the parts of an operation that is over
pub told-settled : (h r w f c : List Note) (log one two three four : Heard) → one ≡ told_more log h → two ≡ told_more one (r ++ w) → three ≡ told_more two f → four ≡ told_more three c
    → four ≡ told_more log (h ++ (r ++ (w ++ (f ++ c))))
told-settled h r w f c log one two three four a b d e =
    e ∙ ap (λ l. told_more l c) (d ∙ ap (λ l. told_more l f) (b ∙ ap (λ l. told_more l (r ++ w)) a))
    ∙ ap (λ l. told_more (told_more l f) c) (told-twice log h (r ++ w))
    ∙ ap (λ l. told_more l c) (told-twice log (h ++ (r ++ w)) f)
    ∙ told-twice log ((h ++ (r ++ w)) ++ f) c
    ∙ ap (told_more log) (lists h r w f c)
