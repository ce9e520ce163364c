use Rattle.std.proofs.Common.{◌≡◌, length}
use Rattle.hc_clients.proofs.session.Session.run.Given as goal

-- it stays a client of these shards
abbrev pub invariant-loop-asked : goal.invariant-loop-asked
invariant-loop-asked g l = length l.client ≡ l.shards.shards
