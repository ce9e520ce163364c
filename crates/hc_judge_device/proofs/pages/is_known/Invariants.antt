use Rattle.std.proofs.Common.{◌≡◌, [], take}
use Rattle.std.specs.Prelude.{is_some}
use Rattle.hc_history.specs.Pages.{bytes_at}
use Rattle.hc_history.specs.Lawful.{past}
use Rattle.hc_judge_device.proofs.pages.is_known.Given as goal

abbrev pub invariant-loop-note : goal.invariant-loop-note
invariant-loop-note g l = l.known ≡ is_some (bytes_at (past [] (take l.note-index l.notes)) l.page)
