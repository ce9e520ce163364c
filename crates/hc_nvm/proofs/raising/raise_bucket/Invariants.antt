use Rattle.std.proofs.Common.{◌≡◌, ◌+◌, ◌≤◌, length}
use Rattle.hc_history.specs.Told.{told_more}
use Rattle.hc_nvm.specs.After.{raised, standing}
use Rattle.hc_waiting.specs.Tombstones.{is_of_bucket}
use Rattle.hc_nvm.proofs.raising.raise_bucket.Given as goal

-- what is told, and what is left to tell, come to all
abbrev pub invariant-loop-key : goal.invariant-loop-key
invariant-loop-key g l = record {
  flash : l.stones.flash ≡ l.fn.stones.flash;
  left : standing (is_of_bucket l.fn.stones.flash l.bucket) l.stones.stones ≡ standing (is_of_bucket l.fn.stones.flash l.bucket) l.fn.stones.stones;
  told : told_more (g.N.Listener.told l.notes) (raised (is_of_bucket l.fn.stones.flash l.bucket) l.stones.stones) ≡ told_more (g.N.Listener.told l.fn.notes) (raised (is_of_bucket l.fn.stones.flash l.bucket) l.fn.stones.stones);
  line : l.fn.stones.room ≤ l.stones.room;
  room : g.N.Listener.room l.fn.notes + length l.stones.stones ≤ g.N.Listener.room l.notes + length l.fn.stones.stones;
}

abbrev pub decreases-loop-key : goal.decreases-loop-key
decreases-loop-key g l = length l.stones.stones
