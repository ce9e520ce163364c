use Rattle.std.proofs.Common.{◌≤◌, ◌+◌, ◌++◌, length}
use Rattle.std.specs.Io.KnownBytes.{append_known}
use Rattle.hc_trace_text.specs.Lines.{Lacks}
use Rattle.hc_trace.specs.Places.{place_of, IsBetween, Leads}
use Rattle.hc_trace.proofs.chunks.take_chunk.Given as goal

abbrev pub invariant-lines : goal.invariant-lines
invariant-lines g l =
    record {
      unbroken : Lacks 10 l.spill.items;
      between : IsBetween l.state;
      room : l.taken + length l.rest ≤ l.fn.taken + length l.chunk;
      leads : Leads (append_known (g.W.Write.contents l.fn.writer) l.fn.out.items) (append_known (g.W.Write.contents l.writer) l.out.items) l.fn.taken (place_of l.fn.state) (l.fn.spill.items ++ l.chunk) l.taken (place_of l.state) (l.spill.items ++ l.rest);
    }

abbrev pub decreases-lines : goal.decreases-lines
decreases-lines g l = length l.rest
