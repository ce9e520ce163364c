use Rattle.hc_region.proofs.Making.{next_number}
use Rattle.hc_region.proofs.clean.all_clean.Goals as goal

pub loop-r-preserved : goal.loop-r-preserved
loop-r-preserved g c = next_number c.loop-r.r c.loop-r.clean c.insert.new.self c.loop-r.invariant c.in_ok-insert.ensures.ok
