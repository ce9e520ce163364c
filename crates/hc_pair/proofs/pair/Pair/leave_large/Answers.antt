use Rattle.std.proofs.Common.{◌∙◌, sym, subst}
use Rattle.hc_engines.specs.large.Block.{Block}
use Rattle.hc_engines.specs.pair.Pair.{Pair}
use Rattle.hc_pair.specs.Endings.{IsStep, large_end}
use Rattle.hc_pair.proofs.Closing.{left_joined}
use Rattle.hc_pair.proofs.pair.Pair.leave_large.Goals as goal

pub invariant_of-self : goal.invariant_of-self
invariant_of-self g c =
    let pair : Pair = record { small = c.self.inside.small; large = c.self.inside.large.block } in
    let step : IsStep c.args.number pair (large_end c.args.number c.args.rest pair) = rw (← c.self.view_is) at c.requires.step in
    left_joined c.self.inside.small c.self.inside.small c.self.inside.large c.end.new.self c.args.number c.self.invariant c.is_sound.ensures (c.end.ensures.flash ∙ c.self.invariant.flash)
    (subst (λ (b : Block). IsStep c.args.number pair (record { small = c.self.inside.small; large = b })) (sym c.end.ensures.block) step)
