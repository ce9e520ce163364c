use Rattle.std.proofs.Common.{◌==◌, Option, Some, refl, sym, ap, ◌∙◌}
use Rattle.std.specs.Prelude.{if◌then◌else◌}
use Rattle.hc_flash.specs.Seen.{result_of}
use Rattle.hc_engines.specs.Engine.{IoResult}
use Rattle.hc_flash.specs.Seen.{order_of}
use Rattle.hc_player.proofs.Acting.{acts-made, not-there}
use Rattle.hc_player.proofs.player.Player.make.Goals as goal

pub returns : goal.returns
returns g c = rw (← c.self.view_is)
    (acts-made c.args.job c.args.fails (order_of c.in-Some.order.now) (result_of c.in_ok-came.came) (sym c.in-Some.ensures) (not-there _ (sym c.has.ensures ∙ c.if-has.false)) c.in_ok-came.ensures
    (λ every. c.put.ensures every ∙ ap (λ (o : Option IoResult). if c.args.job == every then Some (result_of c.in_ok-came.came) else o) (c.in_ok-reserve.ensures.same every)) refl refl c.made-answer.ensures)
