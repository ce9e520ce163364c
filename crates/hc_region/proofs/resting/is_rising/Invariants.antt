use Rattle.std.proofs.Common.{◌≡◌, drop}
use Rattle.hc_region.specs.Resting.{is_rising as rises}
use Rattle.hc_region.proofs.resting.is_rising.Given as goal

-- the rest tells what all tell
abbrev pub invariant-loop-x : goal.invariant-loop-x
invariant-loop-x l = rises l.from (drop l.x-index l.appended) l.to ≡ rises 0 l.appended l.to
