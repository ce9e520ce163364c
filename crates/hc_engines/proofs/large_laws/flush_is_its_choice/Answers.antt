use Rattle.hc_engines.proofs.large.Choices.{flush_by_choice}
use Rattle.hc_engines.proofs.large_laws.flush_is_its_choice.Goals as goal

pub returns : goal.returns
returns c = flush_by_choice
