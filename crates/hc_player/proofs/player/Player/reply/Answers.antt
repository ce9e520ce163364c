use Rattle.std.proofs.Common.{refl, Some, ap}
use Rattle.std.proofs.lemmas.Result.{IfOk-weaker}
use Rattle.hc_history.specs.Seen.{reply_of}
use Rattle.hc_trace_text.specs.Steps.{Answer}
use Rattle.hc_machine.specs.Cache.{Replied}
use Rattle.hc_machine.specs.Calls.{take_reply}
use Rattle.hc_player.proofs.Acting.{acts-step, acts-unmade}
use Rattle.hc_player.proofs.Refusing.{reply-stays}
use Rattle.hc_player.proofs.player.Player.reply.Goals as goal
use Rattle.hc_player.proofs.player.Player.reply.Goals.{in-Ok, in-Err}

pub returns : goal.returns
returns g c = rw (← c.self.view_is) (elim c.match-take_reply.branch [
  | in-Ok w ↦ rw w.result-is (acts-step (take_reply c.args.call c.self.inside.core.cache) (Replied (reply_of w.in-Ok.reply)) refl w.in-Ok.ensures.ok (ap (λ (a : Answer). Some a) w.replied.ensures))
  | in-Err w ↦
      rw w.result-is
      (IfOk-weaker w.refused.result _ _
      (λ answer told. acts-unmade (take_reply c.args.call c.self.inside.core.cache) _ refl (reply-stays c.args.call c.self.inside.core.cache) w.in-Err.ensures.why w.in-Err.ensures.err told) w.refused.ensures)
])
