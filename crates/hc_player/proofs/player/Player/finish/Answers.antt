use Rattle.std.proofs.Common.{refl, sym, ◌∙◌}
use Rattle.std.proofs.lemmas.Result.{IfOk-weaker}
use Rattle.hc_flash.specs.Seen.{result_of}
use Rattle.hc_player.proofs.Acting.{acts-finish}
use Rattle.hc_player.proofs.player.Player.finish.Goals as goal

pub returns-in-Some : goal.returns-in-Some
returns-in-Some g c = rw (← c.self.view_is) (IfOk-weaker c.hand_in.result _ _ (λ answer did. acts-finish c.args.job (result_of c.in-Some.came) (sym c.in-Some.ensures.taken) refl refl refl c.in-Some.ensures.others did) c.hand_in.ensures)
