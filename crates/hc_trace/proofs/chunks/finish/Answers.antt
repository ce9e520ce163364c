use Rattle.std.proofs.Common.{rules, ap}
use Rattle.hc_trace.specs.Places.{place_of}
use Rattle.hc_trace.proofs.Likening.{at-same}
use Rattle.hc_trace.proofs.Streams.{finish-line, finish-none}
use Rattle.hc_trace.proofs.chunks.finish.Goals as goal
use Rattle.hc_trace.proofs.chunks.finish.Goals.{then-not-is_empty+in_ok-put_line+else-not-branch, else-not-is_empty}

pub returns : goal.returns
returns g c =
    let last = c.in_ok-status.ensures in
    elim c.if-not-is_empty.branch [
      | then-not-is_empty+in_ok-put_line+else-not-branch w ↦ finish-line _ (g.W.Write.contents c.if-not-is_empty.writer) c.if-not-is_empty.out.items _ c.args.line.now c.args.taken c.if-not-is_empty.taken (place_of c.args.state.now) (place_of c.if-not-is_empty.state)
          w.in_ok-put_line.field-0 c.in_ok-status.status (search rules) w.in_ok-put_line.ensures.goes (search rules) (rw w.state-is (at-same _ _ w.in_ok-put_line.ensures.state)) (rw (w.writer-is, w.out-is) w.in_ok-put_line.ensures.bytes) w.taken-is
          last.status last.text
      | else-not-is_empty w ↦ rw w.writer-is (finish-none (g.W.Write.contents c.args.writer.now) c.args.out.now.items c.end.new.out.items c.args.line.now c.args.taken c.if-not-is_empty.taken (place_of c.args.state.now) (place_of c.if-not-is_empty.state)
          c.in_ok-status.status (search rules) w.taken-is (ap place_of w.state-is) last.status (rw w.out-is at last.text))
    ]
