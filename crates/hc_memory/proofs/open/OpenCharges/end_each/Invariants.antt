use Rattle.std.proofs.Common.{◌≡◌, drop}
use Rattle.hc_memory.specs.Charges.{all_closed}
use Rattle.hc_memory.proofs.open.OpenCharges.end_each.Given as goal

-- with the numbers that are left, all end
abbrev pub invariant-loop-number : goal.invariant-loop-number
invariant-loop-number g l = record {
  pools : l.self.pools ≡ l.initial.self.pools;
  rest : all_closed (drop l.number-index l.numbers) l.self.charges ≡ all_closed l.numbers l.initial.self.charges;
}
