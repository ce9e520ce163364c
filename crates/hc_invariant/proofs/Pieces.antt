-- A step's part by pieces: each is lawful before what is told behind it.
use Rattle.std.proofs.Common.{List, [], ◌∷◌, ◌++◌, subst, sym}
use Rattle.std.proofs.lemmas.List.{append_assoc}
use Rattle.hc_types.specs.Config.{Config}
use Rattle.hc_history.specs.Note.{Note}
use Rattle.hc_history.specs.Lawful.{Allowed, Lawful, past}
use Rattle.hc_invariant.specs.Laws.{LawfulIn}

pub pieces-join : (config : Config) (older piece tail : List Note) → LawfulIn config older piece tail → Lawful config (past older piece) tail → Lawful config older (piece ++ tail)
pieces-join config older [] tail p q = q
pieces-join config older (note ∷ piece) tail p q = (p.0, pieces-join config (note ∷ older) piece tail p.1 q)

pub pieces-both : (config : Config) (older one two tail : List Note) → LawfulIn config older one (two ++ tail) → LawfulIn config (past older one) two tail → LawfulIn config older (one ++ two) tail
pieces-both config older [] two tail p q = q
pieces-both config older (note ∷ one) two tail p q = (subst (Allowed config older note) (sym (append_assoc one two tail)) p.0, pieces-both config (note ∷ older) one two tail p.1 q)
