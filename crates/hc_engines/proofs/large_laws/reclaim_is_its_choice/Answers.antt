use Rattle.hc_engines.proofs.large.Choices.{reclaim_by_choice}
use Rattle.hc_engines.proofs.large_laws.reclaim_is_its_choice.Goals as goal

pub returns : goal.returns
returns c = reclaim_by_choice
