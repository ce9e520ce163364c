use Rattle.std.proofs.Common.{refl}
use Rattle.hc_machine.specs.Cache.{Moment}
use Rattle.hc_machine.specs.Calls.{tick}
use Rattle.hc_player.proofs.Acting.{acts-step}
use Rattle.hc_player.proofs.player.Player.tick.Goals as goal
use Rattle.hc_player.proofs.player.Player.tick.Goals.{in-Ok, in-Err}

pub returns : goal.returns
returns g c = rw (← c.self.view_is) (elim c.match-tick.branch [
  | in-Ok w ↦ rw w.result-is (acts-step (tick c.args.moment c.self.inside.core.cache) (Moment w.in-Ok.now) refl w.in-Ok.ensures.ok refl)
  | in-Err w ↦ rw w.result-is tt
])
