use Rattle.hc_waiting.proofs.Apart.{brought-alone}
use Rattle.hc_waiting.proofs.Led.{keyed_as}
use Rattle.hc_waiting.specs.Fills.{fills_in}
use Rattle.hc_waiting.proofs.fills.Fills.is_sound.Goals as goal

pub returns : goal.returns
returns g c = rw (← c.self.view_is) (λ number fill there. brought-alone number fill (fills_in c.self.inside.line.pieces) (keyed_as c.self.inside.line.pieces c.is_sound.ensures) there)
