use Rattle.std.proofs.Common.{refl, Some, ap}
use Rattle.hc_trace_text.specs.Steps.{Answer}
use Rattle.hc_machine.specs.Cache.{Reclaimed}
use Rattle.hc_machine.specs.Workers.{reclaim}
use Rattle.hc_player.proofs.Acting.{acts-step}
use Rattle.hc_player.proofs.player.Player.reclaim.Goals as goal
use Rattle.hc_player.proofs.player.Player.reclaim.Goals.{in-Ok, in-Err}

pub returns : goal.returns
returns g c = rw (← c.self.view_is) (elim c.match-reclaim.branch [
  | in-Ok w ↦ rw w.result-is (acts-step (reclaim c.self.inside.core.cache) (Reclaimed w.in-Ok.region) refl w.in-Ok.ensures.ok (ap (λ (a : Answer). Some a) w.reclaimed.ensures))
  | in-Err w ↦ rw w.result-is tt
])
