use Rattle.std.proofs.Common.{◌≡◌, ◌≤◌, [], take}
use Rattle.hc_history.specs.Books as books
use Rattle.hc_history.specs.Lawful.{past}
use Rattle.hc_judge_memory.proofs.calls.begun.Given as goal

abbrev pub invariant-loop-note : goal.invariant-loop-note
invariant-loop-note g l = record { few : l.count ≤ l.note-index; value : l.count ≡ books.begun (past [] (take l.note-index l.notes)) }
