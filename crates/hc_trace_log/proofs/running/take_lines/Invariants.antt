use Rattle.std.proofs.Common.{◌≡◌, ◌≤◌, ◌+◌, length}
use Rattle.hc_trace_text.specs.Lines.{lines_of}
use Rattle.hc_trace_meaning.specs.Trace.{actions_from}
use Rattle.hc_trace_log.specs.Taken.{behind}
use Rattle.hc_trace_log.proofs.running.take_lines.Given as goal

-- what is heard of the lines from here on is what is heard of all
abbrev pub invariant-lines : goal.invariant-lines
invariant-lines l = (behind l.player (actions_from l.taken (lines_of l.rest)) ≡ behind l.fn.player (actions_from l.before (lines_of l.bytes))) × (l.taken + length l.rest ≤ l.before + length l.bytes)

abbrev pub decreases-lines : goal.decreases-lines
decreases-lines l = length l.rest
