use Rattle.std.proofs.Common.{◌≡◌, [], take}
use Rattle.hc_history.specs.Books as books
use Rattle.hc_history.specs.Lawful.{past}
use Rattle.hc_judge_memory.proofs.live.charges.Given as goal

-- the charges after the notes so far
abbrev pub invariant-loop-note : goal.invariant-loop-note
invariant-loop-note g l = l.live.items ≡ books.charges (past [] (take l.note-index l.notes))
