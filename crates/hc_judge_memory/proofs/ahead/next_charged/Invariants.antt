use Rattle.std.proofs.Common.{◌≡◌, drop}
use Rattle.hc_history.specs.Lawful as lawful
use Rattle.hc_judge_memory.proofs.ahead.next_charged.Given as goal

-- it is what the rest says
abbrev pub invariant-loop-note : goal.invariant-loop-note
invariant-loop-note g l = lawful.next_charged (drop l.note-index l.rest) ≡ lawful.next_charged l.rest
