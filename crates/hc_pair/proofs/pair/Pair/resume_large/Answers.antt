use Rattle.std.proofs.Common.{◌≡◌, None, ◌∙◌}
use Rattle.hc_bighash.specs.Handed.{op_in}
use Rattle.hc_flash.specs.Seen.{result_of}
use Rattle.hc_engines.specs.Next.{next_seen}
use Rattle.hc_pair.proofs.Steps.{resumed_large, resumed_joined}
use Rattle.hc_pair.proofs.pair.Pair.resume_large.Goals as goal

pub invariant_of-self-2 : goal.invariant_of-self-2
invariant_of-self-2 g c =
    let none : op_in c.args.number c.self.inside.small.jobs ≡ None = rw (← c.self.view_is) at c.requires in
    resumed_joined c.self.inside.small c.self.inside.large c.self.inside.small c.hand_in.new.self c.args.number (result_of c.args.came.now) (next_seen c.in_ok-next.next) c.self.invariant c.is_sound.ensures (c.hand_in.ensures.flash ∙ c.self.invariant.flash)
    (resumed_large c.self.inside.small c.self.inside.large c.hand_in.new.self c.args.number (result_of c.args.came.now) (next_seen c.in_ok-next.next) c.self.invariant none c.in_ok-next.ensures.ok)
