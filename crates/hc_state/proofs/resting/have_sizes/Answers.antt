use Rattle.std.proofs.Common.{◌<◌, arith}
use Rattle.std.proofs.lemmas.Option.{slice_get-get_or}
use Rattle.hc_state.proofs.Sized.{more-sized, same-size}
use Rattle.hc_state.proofs.resting.have_sizes.Goals as goal

pub loop-i-preserved : goal.loop-i-preserved
loop-i-preserved g c =
    let many : c.loop-i.i < 256 = omega (arith, c.loop-i-test.true, c.len-count.ensures.most) in
    more-sized c.args.pools.now c.args.sizes.now c.loop-i.i _ c.usage-usage.result _ (omega (arith, many)) c.usage-usage.ensures (slice_get-get_or c.args.sizes.now c.loop-i.i _ (omega (arith, c.loop-i-test.true, c.if-sizes-count.false)))
    (same-size c.usage-usage.result.limits _ c.ne.result c.ne.ensures c.if-ne.false) (omega (arith, c.loop-i-test.true, c.len-count.ensures.value)) (omega (arith, c.loop-i-test.true, c.if-sizes-count.false)) c.loop-i.invariant
