use Rattle.std.proofs.Common.{◌≡◌, ◌≤◌, ◌+◌, length}
use Rattle.hc_trace_text.specs.Lines.{lines_of}
use Rattle.hc_trace_meaning.specs.Trace.{trace_from, trace_of}
use Rattle.hc_trace_log.proofs.configuring.configuration.Given as goal

-- the trace is what the lines from here on say, with these pools
abbrev pub invariant-lines : goal.invariant-lines
invariant-lines l = (trace_from l.lines l.pools.items (lines_of l.rest) ≡ trace_of l.bytes) × (l.lines + length l.rest ≤ length l.bytes)

abbrev pub decreases-lines : goal.decreases-lines
decreases-lines l = length l.rest
