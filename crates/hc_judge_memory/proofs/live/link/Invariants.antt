use Rattle.std.proofs.Common.{◌≡◌, ◌++◌, map, take, drop}
use Rattle.hc_history.specs.Books.{linked_at}
use Rattle.hc_judge_memory.proofs.live.link.Given as goal

-- those so far are linked, and the rest would be
abbrev pub invariant-loop-charge : goal.invariant-loop-charge
invariant-loop-charge g l = take l.charge-index l.charge-items ++ map (linked_at l.number) (drop l.charge-index l.charge-items) ≡ map (linked_at l.number) l.fn.live.items
