use Rattle.std.proofs.Common.{◌≡◌, [], take}
use Rattle.hc_history.specs.Books as books
use Rattle.hc_history.specs.Lawful as lawful
use Rattle.hc_history.specs.Lawful.{past}
use Rattle.hc_judge_memory.proofs.answers.freed_since.Given as goal

-- the charges, and what is asked, after the notes so far
abbrev pub invariant-loop-note : goal.invariant-loop-note
invariant-loop-note g l = record {
  live : l.live.items ≡ books.charges (past [] (take l.note-index l.notes));
  is_freed : l.is_freed ≡ lawful.freed_since (past [] (take l.note-index l.notes)) l.call l.key;
}
