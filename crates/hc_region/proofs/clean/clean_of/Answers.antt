use Rattle.hc_region.proofs.Counted.{next_clean}
use Rattle.hc_region.proofs.clean.clean_of.Goals as goal

pub loop-r-preserved : goal.loop-r-preserved
loop-r-preserved g c = next_clean c.loop-r.r c.args.regions.now c.loop-r.clean c.add_if_clean.new.clean c.loop-r-test.true c.loop-r.invariant c.in_ok-add_if_clean.ensures
