use Rattle.std.proofs.Common.{◌≡◌, length, map}
use Rattle.hc_types.specs.Loss.{scope_of}
use Rattle.hc_memory.proofs.Unmarking.{changed_from, without_marks}
use Rattle.hc_memory.proofs.unmark.unmark_keys.Given as goal

-- with the pools that are left, all lose their marks
abbrev pub invariant-loop-i : goal.invariant-loop-i
invariant-loop-i g l = record {
  count : length l.pools.items ≡ length l.initial.pools.items;
  rest : changed_from l.i (without_marks l.flash (scope_of l.scope) l.keys) l.pools.items ≡ map (without_marks l.flash (scope_of l.scope) l.keys) l.initial.pools.items;
}
