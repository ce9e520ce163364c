use Rattle.hc_engines.proofs.small.Words.{word_tells}
use Rattle.hc_engines.proofs.small_laws.word_tells.Goals as goal

pub returns : goal.returns
returns c = word_tells
