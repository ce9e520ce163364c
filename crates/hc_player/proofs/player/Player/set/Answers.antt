use Rattle.std.proofs.lemmas.Result.{IfOk-weaker}
use Rattle.hc_trace_text.specs.Seen.{item_seen}
use Rattle.hc_player.specs.Seen.{answer_seen}
use Rattle.hc_player.proofs.Storing.{set-done, set-refused}
use Rattle.hc_player.proofs.player.Player.set.Goals as goal
use Rattle.hc_player.proofs.player.Player.set.Goals.{in-Ok, in-Err}

pub returns : goal.returns
returns g c = rw (← c.self.view_is) (elim c.match-set_with.branch [
  | in-Ok w ↦
      let did = rw c.fill_with-fill.ensures at w.in-Ok.ensures in
      rw w.result-is (set-done (item_seen c.args.item) c.self.inside.core c.set_with.new.self c.self.inside.device c.self.inside.results.results did.fits did.ok)
  | in-Err w ↦
      let did = rw c.fill_with-fill.ensures at w.in-Err.ensures in
      rw w.result-is
      (IfOk-weaker w.refused.result _ _ (λ answer told. set-refused (item_seen c.args.item) c.self.inside.core c.set_with.new.self c.self.inside.device c.self.inside.results.results w.in-Err.refusal (answer_seen answer) did.err did.why told) w.refused.ensures)
])
