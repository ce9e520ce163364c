use Rattle.hc_engines.specs.Seen.{op_of}
use Rattle.hc_engines.specs.Next.{next_seen}
use Rattle.hc_pair.proofs.Steps.{started_small}
use Rattle.hc_pair.proofs.pair.Pair.start_small.Goals as goal

pub invariant_of-self-2 : goal.invariant_of-self-2
invariant_of-self-2 g c =
    started_small c.self.inside.small c.start.new.self c.self.inside.large c.args.number (op_of c.args.op.now) (next_seen c.in_ok-next.next) c.self.invariant (rw (← c.self.view_is) at c.requires) c.in_ok-next.ensures.ok
