use Rattle.std.proofs.lemmas.Result.{IfOk-weaker}
use Rattle.hc_core.specs.Answers.{inserted_answer}
use Rattle.hc_trace_text.specs.Seen.{item_seen}
use Rattle.hc_player.specs.Seen.{answer_seen}
use Rattle.hc_player.proofs.Storing.{add-done, add-refused}
use Rattle.hc_player.proofs.player.Player.add.Goals as goal
use Rattle.hc_player.proofs.player.Player.add.Goals.{in-Ok, in-Err}

pub returns : goal.returns
returns g c = rw (← c.self.view_is) (elim c.match-add_with.branch [
  | in-Ok w ↦
      let did = rw c.fill_with-fill.ensures at w.in-Ok.ensures in
      rw w.result-is (add-done (item_seen c.args.item) c.self.inside.core c.add_with.new.self c.self.inside.device c.self.inside.results.results _ (inserted_answer w.in-Ok.came) did.fits did.ok w.inserted.ensures)
  | in-Err w ↦
      let did = rw c.fill_with-fill.ensures at w.in-Err.ensures in
      rw w.result-is
      (IfOk-weaker w.refused.result _ _ (λ answer told. add-refused (item_seen c.args.item) c.self.inside.core c.add_with.new.self c.self.inside.device c.self.inside.results.results w.in-Err.refusal (answer_seen answer) did.err did.why told) w.refused.ensures)
])
