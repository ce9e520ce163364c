use Rattle.std.proofs.Common.{Some, ap}
use Rattle.std.proofs.lemmas.Result.{IfOk-weaker}
use Rattle.hc_flash.specs.Seen.{result_of}
use Rattle.hc_trace_text.specs.Steps.{Answer}
use Rattle.hc_machine.specs.Cache.{Took}
use Rattle.hc_machine.specs.Workers.{finish}
use Rattle.hc_nvm.specs.Seen.{take_of}
use Rattle.hc_player.proofs.Acting.{calls-by, calls-unmade}
use Rattle.hc_player.proofs.Refusing.{finish-stays}
use Rattle.hc_player.proofs.player.Player.hand_in.Goals as goal
use Rattle.hc_player.proofs.player.Player.hand_in.Goals.{in-Ok, in-Err}

pub returns : goal.returns
returns g c = rw (← c.self.view_is) (elim c.match-finish.branch [
  | in-Ok w ↦ rw w.result-is (calls-by (finish c.args.job (result_of c.args.came) c.self.inside.core.cache) (Took (take_of w.in-Ok.take)) w.in-Ok.ensures.ok (ap (λ (a : Answer). Some a) w.taken.ensures))
  | in-Err w ↦
      rw w.result-is
      (IfOk-weaker w.refused.result _ _
      (λ answer told. calls-unmade (finish c.args.job (result_of c.args.came) c.self.inside.core.cache) _ (finish-stays c.args.job (result_of c.args.came) c.self.inside.core.cache) w.in-Err.ensures.why w.in-Err.ensures.err told) w.refused.ensures)
])
