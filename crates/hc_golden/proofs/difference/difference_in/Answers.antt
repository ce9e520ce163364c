use Rattle.std.proofs.Common.{◌≡◌, ◌<◌, ◌+◌, length, drop, sym, ◌∙◌, arith, length-drop}
use Rattle.hc_golden.proofs.Deciding.{ended}
use Rattle.hc_golden.proofs.difference.difference_in.Goals as goal

pub returns-in_default : goal.returns-in_default
returns-in_default c =
    let more : 0 < length (drop c.bytes.byte-index c.args.got.now) = omega (arith, c.bytes-test.true, length-drop c.bytes.byte-index c.args.got.now) in
    let none : length c.bytes.rest.now ≡ 0 = omega (arith, c.in_default.len_below) in
    sym (ended c.bytes.line (drop c.bytes.byte-index c.args.got.now) c.bytes.rest.now more none) ∙ c.bytes.invariant.0
