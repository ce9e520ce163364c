use Rattle.std.proofs.Common.{◌≡◌, ◌-◌, ◌*◌, ◌++◌, drop}
use Rattle.hc_image_text.specs.Regions.{rows, appended_at}
use Rattle.hc_image_text.proofs.region.appended_in.Given as goal

-- with those that weren't read yet, all are there
abbrev pub invariant-loop-i : goal.invariant-loop-i
invariant-loop-i g l = l.appended.items ++ rows 12 appended_at (l.count - l.i) (drop (l.i * 12) l.bytes) ≡ rows 12 appended_at l.count l.bytes
