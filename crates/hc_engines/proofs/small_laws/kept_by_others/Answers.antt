use Rattle.hc_engines.proofs.small.Apart.{kept_by_others}
use Rattle.hc_engines.proofs.small_laws.kept_by_others.Goals as goal

pub returns : goal.returns
returns c = kept_by_others
