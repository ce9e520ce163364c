use Rattle.hc_engines.proofs.small.Sound.{start_is_sound}
use Rattle.hc_engines.proofs.small_laws.start_is_sound.Goals as goal

pub returns : goal.returns
returns c = start_is_sound
