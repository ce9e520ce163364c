-- How a log is judged by computing: it is legal, or it is refused, and where.
use Rattle.std.proofs.Common.{◌≡◌, ℕ, true, false, List, [], Some, None}
use Rattle.std.proofs.lemmas.Bool.{both_ways}
use Rattle.hc_types.specs.Config.{Config}
use Rattle.hc_history.specs.Note.{Note}
use Rattle.hc_history.specs.Lawful.{past, Legal}
use Rattle.hc_legal.specs.Judge.{is_lawful, is_at_end, is_legal, first_unlawful}
use Rattle.hc_legal.proofs.Deciding.{judges-lawful, judges-end, judges, unlawful-at}

pub legal : (config : Config) (log : List Note) → is_legal config log ≡ true → Legal config log
legal config log h = (judges config log).0 h

-- this note isn't lawful
pub refused_at : (config : Config) (log : List Note) (place : ℕ) → first_unlawful config [] log ≡ Some place → Legal config log → ⊥
refused_at config log place h is = both_ways (is_lawful config [] log) (unlawful-at config [] log place h) ((judges-lawful config [] log).1 is.lawful)

-- each note is lawful, and the log doesn't end between two steps
pub refused_end : (config : Config) (log : List Note) → first_unlawful config [] log ≡ None → is_at_end config (past [] log) ≡ false → Legal config log → ⊥
refused_end config log lawful h is = both_ways (is_at_end config (past [] log)) h ((judges-end config (past [] log)).1 is.at_end)

abbrev pub Refused : Config → List Note → Type 0
Refused config log = Legal config log → ⊥
