use Rattle.std.proofs.Common.{◌++◌}
use Rattle.std.specs.Prelude.{flat_map}
use Rattle.hc_image_text.specs.Heads.{pool_size_bytes}
use Rattle.hc_image_text.proofs.Rows.{spelled_next}
use Rattle.hc_image_text.proofs.head.put_pool_sizes.Goals as goal

pub loop-i-preserved : goal.loop-i-preserved
loop-i-preserved g c =
    rw c.in_ok-put_pool_size.ensures
    (spelled_next pool_size_bytes c.args.pools.now c.loop-i.i c.loop-i.out.items (c.args.out.now.items ++ flat_map pool_size_bytes c.args.pools.now) c.pool_at.result c.loop-i-test.true c.pool_at.ensures c.loop-i.invariant)
