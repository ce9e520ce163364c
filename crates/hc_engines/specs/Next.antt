-- How contracts see what comes next of an operation.
use Rattle.hc_engines.specs.declared.ops.Next.{Next as Nexts}
use Rattle.hc_engines.specs.declared.ops.Next.TheVariants as nexts
use Rattle.hc_engines.specs.Engine.{Next, Busy, Io, Done}
use Rattle.hc_engines.specs.Seen.{order_of}

abbrev pub next_seen : {A : Type 0} → Nexts A → Next
next_seen nexts.Busy = Busy
next_seen (nexts.Io order outcome) = Io (order_of order) outcome
next_seen (nexts.Done outcome) = Done outcome
