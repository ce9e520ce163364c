use Rattle.std.proofs.Common.{◌≡◌, [], take}
use Rattle.hc_history.specs.Books as books
use Rattle.hc_history.specs.Lawful.{past}
use Rattle.hc_judge_memory.proofs.queue.waiting.Given as goal

-- the keys that wait after the notes so far
abbrev pub invariant-loop-note : goal.invariant-loop-note
invariant-loop-note g l = l.keys.items ≡ books.waiting (past [] (take l.note-index l.notes))
