use Rattle.std.proofs.Common.{◌≡◌}
use Rattle.example_service.proofs.renewing.forget.Given as goal

-- no try has changed anything yet
abbrev pub invariant-loop : goal.invariant-loop
invariant-loop l = l.cache ≡ l.fn.cache
