use Rattle.hc_waiting.proofs.Stones.{stones_apart}
use Rattle.hc_waiting.proofs.tombstones.Tombstones.is_sound.Goals as goal

pub returns : goal.returns
returns g c = rw (← c.self.view_is) (stones_apart c.self.inside.line.pieces c.is_sound.ensures)
