-- Digests that follow the log, note by note.
use Rattle.std.proofs.Common.{ℕ, List, [], ◌∷◌, ◌++◌, sym, subst}
use Rattle.hc_history.specs.Note.{Note}
use Rattle.hc_history.specs.Lawful.{past}
use Rattle.hc_history.proofs.Appended.{past-append}
use Rattle.hc_marked.specs.Marked.{Marks, MarkedAfter, Keeps}
use Rattle.hc_marked.specs.Tracked.{Tracks}
use Rattle.hc_marked.proofs.Marking.{Agrees, after, marked}

pub marked-append : (digest : List ℕ → ℕ) (older log part : List Note) → MarkedAfter digest older log → MarkedAfter digest (past older log) part → MarkedAfter digest older (log ++ part)
marked-append digest older [] part m p = p
marked-append digest older (note ∷ log) part m p = (m.0, marked-append digest (note ∷ older) log part m.1 p)

-- with a part behind the log that has no page of which less is known
pub tracks-part : (digest : List ℕ → ℕ) (old new : Marks) (log part : List Note) → Tracks digest old log → MarkedAfter digest (past [] log) part → Agrees digest new (past (past [] log) part) → Tracks digest new (log ++ part)
tracks-part digest old new log part t m a = record {
  marked = marked-append digest [] log part t.marked m;
  known = subst (λ (older : List Note). Agrees digest new older) (sym (past-append [] log part)) a;
}

-- a note at which the digests are kept
pub tracks-note : (digest : List ℕ → ℕ) (old new : Marks) (log : List Note) (note : Note) → Tracks digest old log → Keeps digest old note new → Tracks digest new (log ++ note ∷ [])
tracks-note digest old new log note t k = tracks-part digest old new log (note ∷ []) t (marked digest old new (past [] log) t.known note k, tt) (after digest old new (past [] log) t.known note k)
