-- The entries behind one note more.
use Rattle.std.proofs.Common.{◌≡◌, ℕ, ◌+◌, ◌<◌, List, [], ◌∷◌, ◌++◌, length, take, drop, get_or, drop-cons, add-one, sym, ap, ◌∙◌}
use Rattle.hc_history.specs.Note.{Note}
use Rattle.hc_history.specs.Lawful.{past}
use Rattle.hc_client_records.specs.Records.{Entry, finished, finished_at}
use Rattle.hc_client_records.specs.Judge.{are_same, Leaves}
use Rattle.hc_client_records.proofs.Past.{past-more}

here : (client : ℕ) (log : List Note) (i : ℕ) (note : Note) (entries : List Entry) → i < length log → note ≡ get_or log i note
    → are_same (finished client (past [] (take i log)) (drop i log)) entries ≡ are_same (finished_at client (past [] (take i log)) note ++ finished client (past [] (take (i + 1) log)) (drop (i + 1) log)) entries
here client log i note entries h is =
    let cut : drop i log ≡ note ∷ drop (i + 1) log = rw add-one (drop-cons log i note h) ∙ ap (λ (n : Note). n ∷ drop (i + 1) log) (sym is) in
    ap (λ (rest : List Note). are_same (finished client (past [] (take i log)) rest) entries) cut
    ∙ ap (λ (older : List Note). are_same (finished_at client (past [] (take i log)) note ++ finished client older (drop (i + 1) log)) entries) (sym (past-more log i note h is))

pub left-here : (client : ℕ) (log : List Note) (i : ℕ) (note : Note) (entries left : List Entry) → i < length log → note ≡ get_or log i note → Leaves (finished_at client (past [] (take i log)) note) entries left
    → are_same (finished client (past [] (take (i + 1) log)) (drop (i + 1) log)) left ≡ are_same (finished client (past [] (take i log)) (drop i log)) entries
left-here client log i note entries left h is leaves = sym (here client log i note entries h is ∙ leaves (finished client (past [] (take (i + 1) log)) (drop (i + 1) log)))
