use Rattle.hc_paged.proofs.Rounds.{apart}
use Rattle.hc_paged.proofs.digest.states_stay_apart.Goals as goal

pub returns : goal.returns
returns c = apart
