-- No two pieces have the same key.
use Rattle.hc_waiting.proofs.Numbered.{apart-is}
use Rattle.hc_waiting.proofs.line.Line.is_sound.Goals as goal

pub returns : goal.returns
returns g c = rw (← c.self.view_is) (apart-is c.self.inside.queue.entries c.is_sound.ensures.apart)
