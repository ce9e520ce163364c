use Rattle.std.proofs.Common.{◌≡◌, [], take}
use Rattle.hc_history.specs.Books.{is_among, writing}
use Rattle.hc_history.specs.Lawful.{past}
use Rattle.hc_judge_flash.proofs.keys.is_writing.Given as goal

abbrev pub invariant-loop-note : goal.invariant-loop-note
invariant-loop-note g l = l.is_writing ≡ is_among l.key (writing (past [] (take l.note-index l.notes)))
