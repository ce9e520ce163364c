use Rattle.std.proofs.Common.{subst}
use Rattle.std.proofs.KnownBytes.{Appends-kept}
use Rattle.std.specs.Io.KnownBytes.{Appends}
use Rattle.hc_trace.proofs.Streams.{on-ok}
use Rattle.hc_trace.proofs.chunks.write_out.Goals as goal

pub returns-clause-wrote : goal.returns-clause-wrote
returns-clause-wrote g c =
    let written = subst (Appends (g.W.Write.contents c.args.writer.now) (g.W.Write.contents c.write_all-written.new.self)) c.deref.ensures.value c.in_ok-written.ensures.bytes in
    on-ok c.flush.result (Appends-kept (g.W.Write.contents c.args.writer.now) (g.W.Write.contents c.write_all-written.new.self) (g.W.Write.contents c.flush.new.self) c.args.out.now.items written c.flush.ensures.bytes)
