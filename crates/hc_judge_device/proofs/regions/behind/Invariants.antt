use Rattle.std.proofs.Common.{◌≡◌, drop}
use Rattle.hc_history.specs.Regions as spec
use Rattle.hc_judge_device.proofs.regions.behind.Given as goal

abbrev pub invariant-loop-place : goal.invariant-loop-place
invariant-loop-place l = spec.behind l.region (drop l.place l.regions) ≡ spec.behind l.region l.regions
