use Rattle.std.specs.Prelude.{flat_map}
use Rattle.std.proofs.Common.{◌++◌}
use Rattle.hc_image_text.specs.Regions.{appended_bytes}
use Rattle.hc_image_text.proofs.Rows.{spelled_next}
use Rattle.hc_image_text.proofs.region.put_appended.Goals as goal

pub loop-x-preserved : goal.loop-x-preserved
loop-x-preserved g c =
    rw c.in_ok-put_entry_place.ensures
    (spelled_next appended_bytes c.args.appended.now c.loop-x.x-index c.loop-x.out.items (c.args.out.now.items ++ flat_map appended_bytes c.args.appended.now) c.x-item.result c.loop-x-test.true c.x-item.is c.loop-x.invariant)
