use Rattle.std.proofs.Common.{◌≡◌, ◌≤◌, ◌+◌, None, length, drop, vec_len, vec_capacity}
use Rattle.std.specs.Option.{option_copied}
use Rattle.hc_state.specs.store.Chosen.{all_stored_as, last_of, before_last}
use Rattle.hc_state.proofs.store.link.last_stored.Given as goal

-- those that are left come to the same
abbrev pub invariant-loop-i : goal.invariant-loop-i
invariant-loop-i g l = record {
  last : last_of (option_copied l.last) (all_stored_as (drop l.i l.waiters) (drop l.i l.courses)) ≡ last_of None (all_stored_as l.waiters l.courses);
  earlier : before_last l.earlier.items (option_copied l.last) (all_stored_as (drop l.i l.waiters) (drop l.i l.courses)) ≡ before_last l.initial.earlier.items None (all_stored_as l.waiters l.courses);
  room : vec_len l.earlier + length (drop l.i l.waiters) ≤ vec_capacity l.earlier;
}
