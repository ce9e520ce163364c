use Rattle.std.proofs.Common.{◌-◌, ◌*◌, ◌≡◌, length, drop, ap, arith, length-drop, take_all, ◌∙◌}
use Rattle.hc_image_text.specs.Regions.{rows, appended_at}
use Rattle.hc_image_text.proofs.Rows.{row_next}
use Rattle.hc_image_text.proofs.region.appended_in.Goals as goal

pub loop-i-preserved : goal.loop-i-preserved
loop-i-preserved g c =
    let i = c.loop-i.i in
    let bytes = c.args.bytes.now in
    let behind = drop (i * 12) bytes in
    let is : c.appended_at.result ≡ appended_at behind = c.appended_at.ensures ∙ ap appended_at (take_all (length bytes - i * 12) behind (omega (arith, length-drop (i * 12) bytes))) in
    rw c.in_ok-push.ensures.items (row_next 12 appended_at c.args.count i bytes c.loop-i.appended.items (rows 12 appended_at c.args.count bytes) c.appended_at.result c.loop-i-test.true is c.loop-i.invariant)
