use Rattle.std.proofs.Common.{refl, Some, ap}
use Rattle.hc_trace_text.specs.Steps.{Answer}
use Rattle.hc_machine.specs.Cache.{Took}
use Rattle.hc_machine.specs.Workers.{filler_take}
use Rattle.hc_nvm.specs.Seen.{take_of}
use Rattle.hc_player.proofs.Acting.{acts-step}
use Rattle.hc_player.proofs.player.Player.filler.Goals as goal
use Rattle.hc_player.proofs.player.Player.filler.Goals.{in-Ok, in-Err}

pub returns : goal.returns
returns g c = rw (← c.self.view_is) (elim c.match-filler_take.branch [
  | in-Ok w ↦ rw w.result-is (acts-step (filler_take c.self.inside.core.cache) (Took (take_of w.in-Ok.take)) refl w.in-Ok.ensures.ok (ap (λ (a : Answer). Some a) w.taken.ensures))
  | in-Err w ↦ rw w.result-is tt
])
