use Rattle.std.proofs.Common.{◌≡◌, ◌+◌, ◌-◌, length, arith, sym}
use Rattle.std.proofs.lemmas.Bool.{eqb-false}
use Rattle.hc_legal.proofs.Past.{past-last}
use Rattle.hc_judge_device.proofs.ends.last.Goals as goal

pub returns : goal.returns
returns g c =
    let some : length c.args.notes.now ≡ length c.args.notes.now - 1 + 1 = omega (arith, eqb-false (length c.args.notes.now) 0 (sym c.if-is_empty.ensures)) in
    past-last c.args.notes.now _ c.index-notes-place.result some c.index-notes-place.is
