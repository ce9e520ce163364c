use Rattle.std.proofs.Common.{◌≡◌, [], take}
use Rattle.hc_history.specs.Books as books
use Rattle.hc_history.specs.Books.{is_among}
use Rattle.hc_history.specs.Lawful.{past}
use Rattle.hc_judge_memory.proofs.map.entry_at.Given as goal

-- the books after the notes so far
abbrev pub invariant-loop-place : goal.invariant-loop-place
invariant-loop-place g l = record {
  live : l.live.items ≡ books.charges (past [] (take l.place l.notes));
  waits : l.waits ≡ is_among l.key (books.waiting (past [] (take l.place l.notes)));
  entry : l.entry ≡ books.entry_at l.flash (past [] (take l.place l.notes)) l.key;
}
