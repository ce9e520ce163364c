use Rattle.std.proofs.Common.{[], take}
use Rattle.hc_history.specs.Lawful.{past}
use Rattle.hc_judge_flash.specs.Filed.{AreBooks}
use Rattle.hc_judge_flash.proofs.filed.region_books.Given as goal

abbrev pub invariant-loop-place : goal.invariant-loop-place
invariant-loop-place g l = AreBooks l.flash (past [] (take l.place l.notes)) l.books.filled l.books.filings.items
