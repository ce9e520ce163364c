use Rattle.std.proofs.Common.{◌≡◌, ◌++◌, drop}
use Rattle.std.specs.Prelude.{flat_map}
use Rattle.hc_image_text.specs.Regions.{appended_bytes}
use Rattle.hc_image_text.proofs.region.put_appended.Given as goal

-- with those that aren't written yet, all is there
abbrev pub invariant-loop-x : goal.invariant-loop-x
invariant-loop-x g l = l.out.items ++ flat_map appended_bytes (drop l.x-index l.appended) ≡ l.initial.out.items ++ flat_map appended_bytes l.appended
