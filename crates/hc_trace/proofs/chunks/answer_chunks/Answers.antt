use Rattle.std.proofs.Common.{take, rules, ◌∙◌}
use Rattle.hc_trace.specs.Places.{place_of}
use Rattle.hc_trace.proofs.Streams.{progress-start, progress-written, progress-more, progress-stopped, progress-end}
use Rattle.hc_trace.proofs.chunks.answer_chunks.Goals as goal

pub chunks-init : goal.chunks-init
chunks-init g c =
    let none = c.requires.empty in
    record {
      sized = c.requires.sized;
      few = search rules;
      most = search rules;
      unbroken = rw none tt;
      between = c.requires.between;
      progress = rw (none, c.requires.begun) (progress-start _ _);
    }

pub returns-then-n-eq0 : goal.returns-then-n-eq0
returns-then-n-eq0 g c =
    let i = c.chunks.invariant in
    let out = c.in_ok-write_out.ensures in
    let p = progress-written (g.W.Write.contents c.chunks.writer) (g.W.Write.contents c.write_out.new.writer) c.chunks.out.items c.write_out.new.out.items i.progress out.wrote out.empty in
    let last = rw c.deref.ensures.value at c.in_ok-status.ensures in
    progress-end _ _ p (c.in_ok-n.ensures.end c.if-n-eq0.true) i.unbroken last.0 last.1

pub returns-in-None : goal.returns-in-None
returns-in-None g c =
    let i = c.chunks.invariant in
    let out = c.in_ok-write_out.ensures in
    let p = progress-written (g.W.Write.contents c.chunks.writer) (g.W.Write.contents c.write_out.new.writer) c.chunks.out.items c.write_out.new.out.items i.progress out.wrote out.empty in
    let next = rw c.in-None.is at c.in_ok-next.ensures in
    let chunk = take c.in_ok-n.n c.read_chunk.new.buffer.items in
    progress-stopped _ _ chunk p c.in_ok-n.ensures.bytes (rw c.deref-in-chunks.ensures.value at next.leads)

pub chunks-preserved : goal.chunks-preserved
chunks-preserved g c =
    let i = c.chunks.invariant in
    let out = c.in_ok-write_out.ensures in
    let p = progress-written (g.W.Write.contents c.chunks.writer) (g.W.Write.contents c.write_out.new.writer) c.chunks.out.items c.write_out.new.out.items i.progress out.wrote out.empty in
    let next = rw c.in-Some.is at c.in_ok-next.ensures in
    let chunk = take c.in_ok-n.n c.read_chunk.new.buffer.items in
    let leads = rw c.deref-in-chunks.ensures.value at next.leads in
    record {
      sized = c.in_ok-n.ensures.len ∙ i.sized;
      few = search rules;
      most = search rules;
      unbroken = next.whole;
      between = next.between;
      progress = progress-more _ _ c.in-Some.next (place_of c.take_chunk.new.state) chunk c.take_chunk.new.spill.items p c.in_ok-n.ensures.bytes leads;
    }
