use Rattle.std.proofs.Common.{◌≡◌, ◌∙◌, sym, ap, subst}
use Rattle.hc_engines.specs.large.Block.{Block}
use Rattle.hc_engines.specs.small.BigHash.{BigHash, carried}
use Rattle.hc_engines.specs.pair.Pair.{Pair}
use Rattle.hc_bighash.specs.Handed.{absent_plan}
use Rattle.hc_pair.specs.Endings.{IsStep, small_left, small_end}
use Rattle.hc_pair.proofs.Closing.{left_is, left_joined, small_left_flash}
use Rattle.hc_pair.proofs.pair.Pair.leave_small.Goals as goal

pub invariant_of-self : goal.invariant_of-self
invariant_of-self g c =
    let pair : Pair = record { small = c.self.inside.small; large = c.self.inside.large.block } in
    let step : IsStep c.args.number pair (small_end c.args.number c.args.gives_up c.args.rest pair) = rw (← c.self.view_is) at c.requires.step in
    let left : small_left c.args.number c.args.gives_up pair.small ≡ c.leave.new.self = left_is pair.small c.leave.new.self (carried pair.small c.args.number (absent_plan c.args.gives_up)) c.leave.ensures in
    let flash = c.end_at_once.ensures.flash ∙ c.self.invariant.flash ∙ sym (small_left_flash pair.small c.args.number c.args.gives_up) ∙ ap (λ (s : BigHash). s.flash) left in
    left_joined c.self.inside.small c.leave.new.self c.self.inside.large c.end_at_once.new.self c.args.number c.self.invariant c.is_sound.ensures flash
    (subst (λ (s : BigHash). IsStep c.args.number pair (record { small = s; large = c.end_at_once.new.self.block })) left
    (subst (λ (b : Block). IsStep c.args.number pair (record { small = small_left c.args.number c.args.gives_up pair.small; large = b })) (sym c.end_at_once.ensures.block) step))
