use Rattle.std.proofs.Common.{◌≡◌, [], take}
use Rattle.hc_history.specs.Books as books
use Rattle.hc_history.specs.Books.{is_among}
use Rattle.hc_history.specs.Lawful.{past}
use Rattle.hc_judge_memory.proofs.queue.is_waiting.Given as goal

abbrev pub invariant-loop-note : goal.invariant-loop-note
invariant-loop-note g l = l.waits ≡ is_among l.key (books.waiting (past [] (take l.note-index l.notes)))
