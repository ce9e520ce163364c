use Rattle.std.proofs.Common.{◌+◌, ◌-◌, length, drop, arith, take_all, length-drop}
use Rattle.hc_trace_text.proofs.Parts.{lacks-all, lacks-before, around}
use Rattle.hc_trace.proofs.chunks.split_line.Goals as goal

pub returns-in_err-at : goal.returns-in_err-at
returns-in_err-at c = rw c.from_residual.ensures (lacks-all 10 _ c.in_err-at.ensures)

pub returns : goal.returns
returns c =
    let l = c.args.bytes.now in
    let at = c.in_ok-at.at in
    let found = c.in_ok-at.ensures in (
      lacks-before 10 l at found.0.before,
      rw (take_all (length l - (at + 1)) (drop (at + 1) l) (omega (arith, length-drop (at + 1) l))) (around 10 l at found.0.high found.1),
    )
