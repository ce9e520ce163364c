use Rattle.std.proofs.Common.{◌≡◌, ◌==◌, [], drop}
use Rattle.hc_types.specs.Tally.{count}
use Rattle.hc_history.specs.Lawful.{past, is_stray}
use Rattle.hc_judge_memory.proofs.ends.none_strays.Given as goal

-- a stray one is among the rest, if there is one
abbrev pub invariant-loop-key : goal.invariant-loop-key
invariant-loop-key g l = (count (is_stray l.flash (past [] l.notes)) (drop l.key-index l.keys) == 0) ≡ (count (is_stray l.flash (past [] l.notes)) l.keys == 0)
