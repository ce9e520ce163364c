use Rattle.std.proofs.Common.{◌+◌, ◌-◌, ◌<◌, length, drop, arith, take_all, length-drop}
use Rattle.hc_trace_text.proofs.Orders.{no-key, key-alone, key-ended}
use Rattle.hc_trace_text.proofs.grammar.first_key.Goals as goal

pub returns-then-end-fields : goal.returns-then-end-fields
returns-then-end-fields c = key-alone c.args.fields.now (rw c.if-end-fields.true at c.visible_front-end.ensures.seen)

pub returns-then-fields-end-ne32 : goal.returns-then-fields-end-ne32
returns-then-fields-end-ne32 c =
    let front = c.visible_front-end.ensures in
    let within : c.visible_front-end.result < length c.args.fields.now = omega (arith, front.within, c.if-end-fields.false) in
    no-key c.args.fields.now c.visible_front-end.result within front.seen (front.next within) c.if-fields-end-ne32.true

pub returns : goal.returns
returns c =
    let l = c.args.fields.now in
    let end = c.visible_front-end.result in
    let front = c.visible_front-end.ensures in
    let within : end < length l = omega (arith, front.within, c.if-end-fields.false) in (
      front.seen,
      rw (take_all (length l - (end + 1)) (drop (end + 1) l) (omega (arith, length-drop (end + 1) l))) (key-ended l end within front.seen c.if-fields-end-ne32.false),
    )
