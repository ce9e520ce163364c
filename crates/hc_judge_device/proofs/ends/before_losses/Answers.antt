use Rattle.std.proofs.Common.{true, false, sym, arith}
use Rattle.hc_judge_device.proofs.Losses.{more}
use Rattle.hc_judge_device.proofs.ends.before_losses.Goals as goal
use Rattle.hc_judge_device.proofs.ends.before_losses.Goals.{then-not-is_loss, else-not-is_loss}

pub loop-place-preserved : goal.loop-place-preserved
loop-place-preserved g c =
    let step = more c.args.notes.now c.loop-place.place c.loop-place.end c.index-notes-place.result in
    record {
      within = elim c.if-not-is_loss.branch [ then-not-is_loss w ↦ omega arith | else-not-is_loss w ↦ omega arith ];
      kept = elim c.if-not-is_loss.branch [
        | then-not-is_loss w ↦ rw w.end-is (step false (sym w.if-not-is_loss.ensures) c.loop-place-test.true c.index-notes-place.is c.loop-place.invariant.kept)
        | else-not-is_loss w ↦ rw w.end-is (step true (sym w.if-not-is_loss.ensures) c.loop-place-test.true c.index-notes-place.is c.loop-place.invariant.kept)
      ];
    }
