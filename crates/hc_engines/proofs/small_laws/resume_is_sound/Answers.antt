use Rattle.hc_engines.proofs.small.Sound.{resume_is_sound}
use Rattle.hc_engines.proofs.small_laws.resume_is_sound.Goals as goal

pub returns : goal.returns
returns c = resume_is_sound
