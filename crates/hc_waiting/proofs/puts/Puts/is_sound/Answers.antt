use Rattle.hc_waiting.proofs.Pieces.{puts_apart}
use Rattle.hc_waiting.proofs.puts.Puts.is_sound.Goals as goal

pub returns : goal.returns
returns g c = rw (← c.self.view_is) (puts_apart c.self.inside.line.pieces c.is_sound.ensures)
