-- The first note that isn't lawful is found.
use Rattle.std.proofs.Common.{◌≡◌, ℕ, ◌+◌, ◌<◌, take, drop, get_or, drop-cons, length-take, add-one, true, false, List, [], ◌∷◌, length, Some, if◌then◌else◌, sym, ap, ◌∙◌, arith}
use Rattle.std.specs.Prelude.{◌-◌}
use Rattle.std.proofs.lemmas.List.{take_all, length-drop}
use Rattle.hc_types.specs.Config.{Config}
use Rattle.hc_history.specs.Note.{Note}
use Rattle.hc_history.specs.Lawful.{past}
use Rattle.hc_legal.specs.Judge.{is_allowed, first_unlawful}
use Rattle.hc_legal.proofs.Past.{past-more}

-- what is found from a place on
abbrev pub FoundFrom : Config → List Note → ℕ → Type 0
FoundFrom config log i = first_unlawful config (past [] (take i log)) (drop i log) ≡ first_unlawful config [] log

length-past : (older notes : List Note) → length (past older notes) ≡ length notes + length older
length-past older [] = omega arith
length-past older (note ∷ notes) = omega (arith, length-past (note ∷ older) notes)

at_place : (config : Config) (log : List Note) (i : ℕ) (note : Note) → i < length log → note ≡ get_or log i note
    → first_unlawful config (past [] (take i log)) (drop i log) ≡ (if is_allowed config (past [] (take i log)) note (drop (i + 1) log) then first_unlawful config (note ∷ past [] (take i log)) (drop (i + 1) log) else Some (length (past [] (take i log))))
at_place config log i note h at =
    let here : drop i log ≡ note ∷ drop (i + 1) log = rw add-one (drop-cons log i note h) ∙ ap (λ (n : Note). n ∷ drop (i + 1) log) (sym at) in
    ap (first_unlawful config (past [] (take i log))) here

-- the notes behind a place, as a slice has them
rest-is : (log : List Note) (i : ℕ) → take (length log - i) (drop i log) ≡ drop i log
rest-is log i = take_all (length log - i) (drop i log) (omega (arith, length-drop i log))

-- the note at the place is lawful
pub found-later : (config : Config) (log : List Note) (i : ℕ) (note : Note) → i < length log → note ≡ get_or log i note → FoundFrom config log i → true ≡ is_allowed config (past [] (take i log)) note (take (length log - (i + 1)) (drop (i + 1) log)) → FoundFrom config log (i + 1)
found-later config log i note h at found is =
    ap (λ older. first_unlawful config older (drop (i + 1) log)) (past-more log i note h at)
    ∙ ap (λ b. if b then first_unlawful config (note ∷ past [] (take i log)) (drop (i + 1) log) else Some (length (past [] (take i log)))) (is ∙ ap (is_allowed config (past [] (take i log)) note) (rest-is log (i + 1)))
    ∙ sym (at_place config log i note h at) ∙ found

-- the note at the place isn't
pub found-here : (config : Config) (log : List Note) (i : ℕ) (note : Note) → i < length log → note ≡ get_or log i note → FoundFrom config log i → false ≡ is_allowed config (past [] (take i log)) note (take (length log - (i + 1)) (drop (i + 1) log)) → Some i ≡ first_unlawful config [] log
found-here config log i note h at found is =
    let place : i ≡ length (past [] (take i log)) = omega (arith, length-past [] (take i log), length-take i log) in
    ap Some place
    ∙ ap (λ b. if b then first_unlawful config (note ∷ past [] (take i log)) (drop (i + 1) log) else Some (length (past [] (take i log)))) (is ∙ ap (is_allowed config (past [] (take i log)) note) (rest-is log (i + 1)))
    ∙ sym (at_place config log i note h at) ∙ found
