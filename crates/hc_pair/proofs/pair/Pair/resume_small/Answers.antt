use Rattle.std.proofs.Common.{◌≡◌, Some}
use Rattle.hc_engines.specs.Engine.{Op}
use Rattle.hc_bighash.specs.Handed.{op_in}
use Rattle.hc_flash.specs.Seen.{result_of}
use Rattle.hc_engines.specs.Next.{next_seen}
use Rattle.hc_pair.proofs.Steps.{small_joined}
use Rattle.hc_pair.proofs.pair.Pair.resume_small.Goals as goal

pub invariant_of-self : goal.invariant_of-self
invariant_of-self g c =
    let under : (op : Op) × (op_in c.args.number c.self.inside.small.jobs ≡ Some op) = rw (← c.self.view_is) at c.requires in
    let came = rw c.in-Ok-Next.field-0-is at c.in-Ok-Next.ensures.ok in
    small_joined c.self.inside.small c.hand_in.new.self c.self.inside.large c.args.number under.0 (result_of c.args.came.now) (next_seen c.in-Ok-Next.next) c.self.invariant c.is_sound.ensures under.1 came.0 came.1
