use Rattle.std.proofs.Common.{◌≡◌, ◌≤◌, vec_len}
use Rattle.std.specs.Io.KnownBytes.{append_known}
use Rattle.hc_trace_text.specs.Lines.{Lacks}
use Rattle.hc_trace.specs.Places.{place_of, IsBetween}
use Rattle.hc_trace.proofs.Streams.{Progress}
use Rattle.hc_trace.proofs.chunks.answer_chunks.Given as goal

abbrev pub invariant-chunks : goal.invariant-chunks
invariant-chunks g l =
    record {
      sized : vec_len l.buffer ≡ 65536;
      few : l.taken ≤ l.total;
      most : l.total ≤ 4294967296;
      unbroken : Lacks 10 l.spill.items;
      between : IsBetween l.state;
      progress : Progress (g.R.Read.remaining l.fn.reader) (g.R.Read.remaining l.reader) (append_known (g.W.Write.contents l.fn.writer) l.fn.out.items) (append_known (g.W.Write.contents l.writer) l.out.items) l.taken (place_of l.state) l.spill.items;
    }
