use Rattle.std.proofs.Common.{◌≡◌, take}
use Rattle.hc_state.proofs.Sized.{sizes_of}
use Rattle.hc_state.proofs.resting.have_sizes.Given as goal

-- those that were looked at have their sizes
abbrev pub invariant-loop-i : goal.invariant-loop-i
invariant-loop-i g l = take l.i (sizes_of l.pools.pools) ≡ take l.i l.sizes
