use Rattle.hc_judge_device.proofs.Refused.{limited}
use Rattle.hc_judge_device.proofs.places.limits.Goals as goal

pub returns : goal.returns
returns c = limited
