use Rattle.hc_engines.proofs.pair.Passing.{new_fits}
use Rattle.hc_engines.proofs.pair_laws.new_fits.Goals as goal

pub returns : goal.returns
returns c = new_fits
