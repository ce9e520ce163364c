use Rattle.std.proofs.Common.{◌≡◌, [], take}
use Rattle.hc_history.specs.Seen.{reply_of}
use Rattle.hc_history.specs.Lawful.{past}
use Rattle.hc_judge_memory.specs.Calls as spec
use Rattle.hc_judge_memory.proofs.calls.is_changed_by.Given as goal

abbrev pub invariant-loop-note : goal.invariant-loop-note
invariant-loop-note g l = l.changed ≡ spec.is_changed_by l.call (reply_of l.reply) l.key (past [] (take l.note-index l.notes))
