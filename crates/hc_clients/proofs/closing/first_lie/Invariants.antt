use Rattle.std.proofs.Common.{◌≡◌, drop}
use Rattle.hc_clients.specs.Closing.{lie_from}
use Rattle.hc_clients.proofs.closing.first_lie.Given as goal

-- none of the shards so far has one
abbrev pub invariant-loop-shard : goal.invariant-loop-shard
invariant-loop-shard l = lie_from l.shard (drop l.shard l.reports) ≡ lie_from 0 l.reports
