use Rattle.std.proofs.Common.{◌≡◌, ◌+◌, false, sym, subst, ◌∙◌, bit_or, ℕ}
use Rattle.hc_types.specs.FlashEntry.{FlashEntry}
use Rattle.hc_bucket.specs.Placed.{entry_placed}
use Rattle.hc_bucket.specs.Whole.{all_at}
use Rattle.hc_bucket.proofs.Scanning.{Scanned, among, unset, scan_first, scan_stops, scan_twice, scan_more, scan_all}
use Rattle.hc_bucket.proofs.checking.is_whole.Goals as goal
use Rattle.hc_bucket.proofs.checking.is_whole.Goals.{else-marks-mark-via-then-marks-mark+else-has_key, else-marks-mark-via-else-marks-mark}

pub loop-i-init : goal.loop-i-init
loop-i-init c = scan_first c.args.bytes.now c.args.count

pub returns-in_default : goal.returns-in_default
returns-in_default c = scan_stops c.args.bytes.now c.args.count c.loop-i.i c.loop-i.marks c.loop-i.rest.now c.loop-i-test.true (sym c.in_default.ensures.read) c.loop-i.invariant

pub returns-then-has_key : goal.returns-then-has_key
returns-then-has_key c =
    scan_twice c.args.bytes.now c.args.count c.loop-i.i c.loop-i.marks c.loop-i.rest.now c.in-Some.behind.now (entry_placed c.in-Some.placed) c.loop-i-test.true (sym c.in-Some.ensures.read)
    (sym (c.if-has_key.ensures (all_at c.loop-i.i c.args.bytes.now) c.loop-i.rest.now c.loop-i.invariant.read)) c.loop-i.invariant

pub loop-i-preserved : goal.loop-i-preserved
loop-i-preserved c =
    let e : FlashEntry = entry_placed c.in-Some.placed in
    let new : among e.key (all_at c.loop-i.i c.args.bytes.now) ≡ false =
    elim c.else-marks-mark.branch [
      | else-marks-mark-via-then-marks-mark+else-has_key w ↦ sym (w.has_key.ensures (all_at c.loop-i.i c.args.bytes.now) c.loop-i.rest.now c.loop-i.invariant.read) ∙ w.if-has_key.false
      | else-marks-mark-via-else-marks-mark w ↦ unset c.loop-i.marks c.mark_of-mark.result (all_at c.loop-i.i c.args.bytes.now) e.key c.mark_of-mark.ensures w.if-marks-mark.false c.loop-i.invariant.marked
    ] in
    subst (λ (mark : ℕ). Scanned c.args.bytes.now c.args.count (c.loop-i.i + 1) (bit_or c.loop-i.marks mark) c.in-Some.behind.now) (sym c.mark_of-mark.ensures)
    (scan_more c.args.bytes.now c.args.count c.loop-i.i c.loop-i.marks c.loop-i.rest.now c.in-Some.behind.now e c.loop-i-test.true (sym c.in-Some.ensures.read) new c.loop-i.invariant)

pub returns : goal.returns
returns c = c.is_empty.ensures ∙ scan_all c.args.bytes.now c.args.count c.loop-i.i c.loop-i.marks c.loop-i.rest.now c.loop-i-test.false c.loop-i.invariant
