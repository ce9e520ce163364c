use Rattle.std.proofs.Common.{◌≡◌, ◌++◌, drop}
use Rattle.std.specs.Prelude.{flat_map}
use Rattle.hc_image_text.specs.Heads.{pool_size_bytes}
use Rattle.hc_image_text.proofs.head.put_pool_sizes.Given as goal

-- with those that aren't written yet, all is there
abbrev pub invariant-loop-i : goal.invariant-loop-i
invariant-loop-i g l = l.out.items ++ flat_map pool_size_bytes (drop l.i l.pools) ≡ l.initial.out.items ++ flat_map pool_size_bytes l.pools
