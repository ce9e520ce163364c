-- The history after the notes so far, in a loop over a log.
use Rattle.std.proofs.Common.{◌≡◌, ℕ, ◌+◌, ◌<◌, ◌≤◌, List, [], ◌∷◌, ◌++◌, length, take, get_or, add-one, refl, sym, ap, ◌∙◌, arith}
use Rattle.std.proofs.Math.Seq.{take-suc}
use Rattle.std.proofs.lemmas.List.{take_all}
use Rattle.hc_history.specs.Note.{Note}
use Rattle.hc_history.specs.Lawful.{past}

pub past-one : (older notes : List Note) (note : Note) → past older (notes ++ note ∷ []) ≡ note ∷ past older notes
past-one older [] note = refl
past-one older (n ∷ notes) note = past-one (n ∷ older) notes note

-- the note at the place that a loop has reached
pub past-more : (log : List Note) (i : ℕ) (note : Note) → i < length log → note ≡ get_or log i note → past [] (take (i + 1) log) ≡ note ∷ past [] (take i log)
past-more log i note h at =
    let more : take (i + 1) log ≡ take i log ++ get_or log i note ∷ [] = rw add-one (take-suc log i note h) in
    ap (past []) more ∙ past-one [] (take i log) (get_or log i note) ∙ ap (λ (n : Note). n ∷ past [] (take i log)) (sym at)

-- a book after it
pub book-more : {X : Type 0} (book : List Note → X) (log : List Note) (i : ℕ) (note : Note) (x : X) → i < length log → note ≡ get_or log i note → x ≡ book (note ∷ past [] (take i log)) → x ≡ book (past [] (take (i + 1) log))
book-more book log i note x h at e = e ∙ ap book (sym (past-more log i note h at))

-- a book after the last note, where the history is split there
pub book-last : {X : Type 0} (book : List Note → X) (all older : List Note) (note : Note) → all ≡ older ++ note ∷ [] → book (note ∷ past [] older) ≡ book (past [] all)
book-last book all older note e = ap book (sym (ap (past []) e ∙ past-one [] older note))

-- a book after the last note, where a loop has passed it
pub book-whole : {X : Type 0} (book : List Note → X) (log : List Note) (i : ℕ) (x : X) → length log ≤ i → x ≡ book (past [] (take i log)) → x ≡ book (past [] log)
book-whole book log i x h e = e ∙ ap (λ (notes : List Note). book (past [] notes)) (take_all i log h)

-- the last note stands before the others
pub past-last : (log : List Note) (i : ℕ) (note : Note) → length log ≡ i + 1 → note ≡ get_or log i note → past [] log ≡ note ∷ past [] (take i log)
past-last log i note h is =
    let most : length log ≤ i + 1 = omega arith in
    let within : i < length log = omega arith in
    ap (past []) (sym (take_all (i + 1) log most)) ∙ past-more log i note within is
