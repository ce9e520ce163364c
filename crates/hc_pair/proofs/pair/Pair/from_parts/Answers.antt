use Rattle.hc_pair.proofs.Rested.{joined_idle}
use Rattle.hc_pair.proofs.pair.Pair.from_parts.Goals as goal

pub invariant_of-result : goal.invariant_of-result
invariant_of-result g c = joined_idle c.args.small c.args.large c.requires.flash c.requires.idle
