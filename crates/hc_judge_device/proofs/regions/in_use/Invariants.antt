use Rattle.std.proofs.Common.{◌≡◌, [], take}
use Rattle.hc_history.specs.Lawful.{past}
use Rattle.hc_history.specs.Regions as spec
use Rattle.hc_judge_device.proofs.regions.in_use.Given as goal

abbrev pub invariant-loop-note : goal.invariant-loop-note
invariant-loop-note g l = l.regions.items ≡ spec.in_use (past [] (take l.note-index l.notes))
