-- Digests of pages over a restart.
use Rattle.std.specs.Prelude.{ℕ, List, ◌++◌}
use Rattle.hc_history.specs.Note.{Note}
use Rattle.hc_marked.specs.Marked.{Marks, Marked, KeepsAll}
use Rattle.hc_marked.specs.Tracked.{Tracks}

-- a log whose digests are these, and behind it one of a device that begins with them
abbrev pub DigestsGoOn : Type 0
DigestsGoOn = (digest : List ℕ → ℕ) (marks : Marks) (first second : List Note) → Tracks digest marks first → KeepsAll digest marks second → Marked digest (first ++ second)
