-- A device with digests goes on with those that it has.
use Rattle.std.proofs.Common.{ℕ, List, [], ◌∷◌}
use Rattle.hc_history.specs.Note.{Note}
use Rattle.hc_history.specs.Lawful.{past}
use Rattle.hc_marked.specs.Marked.{Marks, MarkedAfter, KeepsAll}
use Rattle.hc_marked.proofs.Marking.{Agrees, after, marked}
use Rattle.hc_marked.proofs.Tracking.{marked-append}
use Rattle.hc_restart_laws.specs.Digests.{DigestsGoOn}

behind : (digest : List ℕ → ℕ) (marks : Marks) (older log : List Note) → Agrees digest marks older → KeepsAll digest marks log → MarkedAfter digest older log
behind digest marks older [] agrees k = tt
behind digest marks older (note ∷ rest) agrees k = (marked digest marks k.0 older agrees note k.1, behind digest k.0 (note ∷ older) rest (after digest marks k.0 older agrees note k.1) k.2)

pub digests-go-on : DigestsGoOn
digests-go-on digest marks first second tracks keeps = marked-append digest [] first second tracks.marked (behind digest marks (past [] first) second tracks.known keeps)
