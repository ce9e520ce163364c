use Rattle.hc_engines.specs.Seen.{op_of}
use Rattle.hc_engines.specs.Next.{next_seen}
use Rattle.hc_pair.proofs.Steps.{free_in_large, started_large}
use Rattle.hc_pair.proofs.pair.Pair.start_large.Goals as goal

pub start-requires-clause-free : goal.start-requires-clause-free
start-requires-clause-free g c = free_in_large (record { small = c.self.inside.small; large = c.self.inside.large.block }) c.args.number (rw (← c.self.view_is) at c.requires.free)

pub invariant_of-self-2 : goal.invariant_of-self-2
invariant_of-self-2 g c =
    started_large c.self.inside.small c.self.inside.large c.start.new.self c.args.number (op_of c.args.op.now) (next_seen c.in_ok-next.next) c.self.invariant c.is_sound.ensures (rw (← c.self.view_is) at c.requires.free)
    c.start.ensures.flash c.in_ok-next.ensures.ok
