use Rattle.std.proofs.Common.{◌≡◌, [], take}
use Rattle.hc_history.specs.Lawful.{past}
use Rattle.hc_history.specs.Pages.{bytes_at}
use Rattle.hc_judge_memory.specs.Lies as spec
use Rattle.hc_judge_memory.proofs.lies.differs.Given as goal

abbrev pub invariant-loop-note : goal.invariant-loop-note
invariant-loop-note g l = l.lie ≡ spec.differs (bytes_at (past [] (take l.note-index l.notes)) l.page) l.bytes
