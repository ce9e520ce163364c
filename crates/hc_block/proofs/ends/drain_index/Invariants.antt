use Rattle.std.proofs.Common.{◌≡◌, ◌≤◌, ◌+◌, ◌++◌, drop, length, vec_len, vec_capacity}
use Rattle.hc_engines.specs.large.Index.{leading_into, without_all}
use Rattle.hc_engines.specs.large.Steps.{lost}
use Rattle.hc_block.specs.Ends.{cause_seen}
use Rattle.hc_block.proofs.ends.drain_index.Given as goal

-- with what wasn't walked, all is lost and taken out
abbrev pub invariant-loop-entry : goal.invariant-loop-entry
invariant-loop-entry g l = record {
  room : vec_len l.losses + length (drop l.entry-index l.appended) ≤ vec_capacity l.losses;
  index : without_all (leading_into l.r (drop l.entry-index l.appended) l.index) l.index ≡ without_all (leading_into l.r l.appended l.initial.index) l.initial.index;
  losses : l.losses.items ++ lost (cause_seen l.end) (leading_into l.r (drop l.entry-index l.appended) l.index) ≡ l.initial.losses.items ++ lost (cause_seen l.end) (leading_into l.r l.appended l.initial.index);
}
