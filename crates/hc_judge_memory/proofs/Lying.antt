-- The first lie is found.
use Rattle.std.proofs.Common.{◌≡◌, ℕ, ◌+◌, ◌<◌, take, drop, get_or, drop-cons, length-take, add-one, false, true, List, [], ◌∷◌, ◌++◌, length, Option, Some, None, refl, sym, ap, ◌∙◌, arith}
use Rattle.std.specs.Str.{bytes_eq}
use Rattle.std.proofs.lemmas.Bool.{not-true, not-false, both_ways, false≢true}
use Rattle.std.proofs.lemmas.List.{take_more, take-append-drop}
use Rattle.std.proofs.lemmas.Slice.Eq.{bytes_eq-Decides}
use Rattle.hc_history.specs.Note.{Note, Read}
use Rattle.hc_history.specs.Pages.{bytes_at}
use Rattle.hc_history.specs.Lawful.{past}
use Rattle.hc_history.specs.Honest.{IsTrueRead, HonestAfter}
use Rattle.hc_judge_memory.specs.Lies.{IsFirstLie, differs, is_lie}

same_page : (bytes : List ℕ) (o : Option (List ℕ)) → differs o bytes ≡ false → (known : List ℕ) → o ≡ Some known → bytes ≡ known
same_page bytes None e known is = absurd cc
same_page bytes (Some w) e known is =
    let same : bytes ≡ w = (bytes_eq-Decides bytes w).0 (not-false (bytes_eq bytes w) e) in
    cc

other_page : (bytes : List ℕ) (o : Option (List ℕ)) → differs o bytes ≡ true → ((known : List ℕ) → o ≡ Some known → bytes ≡ known) → ⊥
other_page bytes None e true_of = false≢true e
other_page bytes (Some w) e true_of = both_ways (bytes_eq bytes w) (not-true (bytes_eq bytes w) e) ((bytes_eq-Decides bytes w).1 (true_of w refl))

true_read : (older : List Note) (note : Note) → is_lie older note ≡ false → IsTrueRead older note
true_read older (Read page (Some bytes)) e = same_page bytes (bytes_at older page) e
true_read older note e = tt

a_lie : (older : List Note) (note : Note) → is_lie older note ≡ true → IsTrueRead older note → ⊥
a_lie older (Read page (Some bytes)) e h = other_page bytes (bytes_at older page) e h
a_lie older note e h = false≢true e

honest-one : (older front : List Note) (note : Note) → HonestAfter older front → IsTrueRead (past older front) note → HonestAfter older (front ++ note ∷ [])
honest-one older [] note h true_of = (true_of, tt)
honest-one older (n ∷ front) note h true_of = (h.0, honest-one (n ∷ older) front note h.1 true_of)

-- a read more is true
pub honest-more : (log : List Note) (i : ℕ) (note : Note) → i < length log → note ≡ get_or log i note → HonestAfter [] (take i log) → is_lie (past [] (take i log)) note ≡ false → HonestAfter [] (take (i + 1) log)
honest-more log i note h at honest e =
    let cut : take (i + 1) log ≡ take i log ++ note ∷ [] = take_more log i note h ∙ ap (λ (n : Note). take i log ++ n ∷ []) (sym at) in
    rw cut (honest-one [] (take i log) note honest (true_read (past [] (take i log)) note e))

-- a read is the first that isn't
pub first-here : (log : List Note) (i : ℕ) (note : Note) → i < length log → note ≡ get_or log i note → HonestAfter [] (take i log) → is_lie (past [] (take i log)) note ≡ true → IsFirstLie [] log (Some i)
first-here log i note h at honest e =
    let here : drop i log ≡ note ∷ drop (i + 1) log = rw add-one (drop-cons log i note h) ∙ ap (λ (n : Note). n ∷ drop (i + 1) log) (sym at) in
    let split = sym (take-append-drop i log) ∙ ap (λ (r : List Note). take i log ++ r) here in
    (take i log, (note, (drop (i + 1) log, (split, omega (arith, length-take i log), honest, a_lie (past [] (take i log)) note e))))
