use Rattle.std.proofs.Common.{refl}
use Rattle.std.proofs.lemmas.Result.{IfOk-weaker}
use Rattle.hc_core.specs.Answers.{removed_answer}
use Rattle.hc_trace_text.specs.Steps.{Del}
use Rattle.hc_machine.specs.Calls as calls
use Rattle.hc_machine.specs.World as world
use Rattle.hc_trace_meaning.specs.Actions.{Do}
use Rattle.hc_player.specs.Playing.{world_of}
use Rattle.hc_player.proofs.Acting.{playing, acts-step, keyed, unkeyed}
use Rattle.hc_player.proofs.player.Player.delete.Goals as goal
use Rattle.hc_player.proofs.player.Player.delete.Goals.{in-Ok, in-Err}

pub returns : goal.returns
returns g c = rw (← c.self.view_is) (elim c.match-delete.branch [
  | in-Ok w ↦
      let old = playing c.self.inside.core c.self.inside.device c.self.inside.results.results in
      rw w.result-is (acts-step (calls.remove 0 c.args.key.now old.cache) (removed_answer w.in-Ok.came) (keyed (Do (Del c.args.key.now)) c.args.key.now (world.Del c.args.key.now) (world_of old) refl w.in-Ok.ensures.fits) w.in-Ok.ensures.ok w.removed.ensures)
  | in-Err w ↦
      rw w.result-is
      (IfOk-weaker w.refused.result _ _
      (λ answer told. unkeyed c.args.key.now (world.Del c.args.key.now) w.in-Err.refusal c.self.inside.core c.delete.new.self c.self.inside.device c.self.inside.results.results refl w.in-Err.ensures.why w.in-Err.ensures.err told) w.refused.ensures)
])
