-- The history behind one note more.
use Rattle.std.proofs.Common.{◌≡◌, ℕ, ◌+◌, ◌<◌, List, [], ◌∷◌, ◌++◌, length, take, get_or, add-one, refl, sym, ap, ◌∙◌}
use Rattle.std.proofs.Math.Seq.{take-suc}
use Rattle.hc_history.specs.Note.{Note}
use Rattle.hc_history.specs.Lawful.{past}

past_one : (older notes : List Note) (note : Note) → past older (notes ++ note ∷ []) ≡ note ∷ past older notes
past_one older [] note = refl
past_one older (n ∷ notes) note = past_one (n ∷ older) notes note

-- what is found behind the last note, where the notes are split there
pub found-last : {X : Type 0} (search : List Note → X) (all older : List Note) (note : Note) → all ≡ older ++ note ∷ [] → search (note ∷ past [] older) ≡ search (past [] all)
found-last search all older note e = ap search (sym (ap (past []) e ∙ past_one [] older note))

-- at the place that a loop has reached
pub past-more : (log : List Note) (i : ℕ) (note : Note) → i < length log → note ≡ get_or log i note → past [] (take (i + 1) log) ≡ note ∷ past [] (take i log)
past-more log i note h at =
    let more : take (i + 1) log ≡ take i log ++ get_or log i note ∷ [] = rw add-one (take-suc log i note h) in
    ap (past []) more ∙ past_one [] (take i log) (get_or log i note) ∙ ap (λ (n : Note). n ∷ past [] (take i log)) (sym at)
