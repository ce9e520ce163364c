use Rattle.std.proofs.Common.{◌<◌, ◌+◌, ◌-◌, length, take, drop, arith, take_all, length-drop}
use Rattle.hc_trace_text.proofs.Parts.{lacks-all, lacks-before}
use Rattle.hc_trace_log.proofs.Splitting.{one-line, first-line}
use Rattle.hc_trace_log.proofs.lines.first_line.Goals as goal

pub returns-in-Some-clause-line : goal.returns-in-Some-clause-line
returns-in-Some-clause-line c =
    let text = c.args.bytes.now in
    let at = c.in-Some.at in
    let found = c.in-Some.ensures in
    rw (take_all (length text - (at + 1)) (drop (at + 1) text) (omega (arith, length-drop (at + 1) text))) (first-line text at found.0.high found.1 (lacks-before 10 text at found.0.before))

pub returns-in-None-clause-line : goal.returns-in-None-clause-line
returns-in-None-clause-line c =
    let some : 0 < length c.args.bytes.now = grind (arith, c.is_empty.ensures, c.if-is_empty.false) in
    one-line c.args.bytes.now some (lacks-all 10 _ c.in-None.ensures)
