use Rattle.std.proofs.Common.{◌≡◌, length, map}
use Rattle.hc_memory.specs.Marks.{settled}
use Rattle.hc_memory.proofs.Unmarking.{changed_from}
use Rattle.hc_memory.proofs.marks.Marks.settle_all.Given as goal

-- with the items that are left, all are settled
abbrev pub invariant-loop-i : goal.invariant-loop-i
invariant-loop-i g l = record {
  count : length l.items.items ≡ length l.initial.items.items;
  rest : changed_from l.i (settled l.flash l.self) l.items.items ≡ map (settled l.flash l.self) l.initial.items.items;
}
