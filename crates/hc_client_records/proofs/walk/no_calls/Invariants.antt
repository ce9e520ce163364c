use Rattle.std.proofs.Common.{◌≡◌, ◌++◌, ◌-◌, [], replicate}
use Rattle.hc_client_records.proofs.walk.no_calls.Given as goal

-- with those that are still to come, they are all
abbrev pub invariant-loop : goal.invariant-loop
invariant-loop l = l.clients.items ++ replicate (l.n - l.counter) [] ≡ replicate l.n []
