use Rattle.std.proofs.Common.{◌≡◌, ◌+◌, drop}
use Rattle.std.specs.Prelude.{option_map}
use Rattle.hc_nvm.specs.Finishing.{place}
use Rattle.hc_nvm.proofs.finishing.place_of.Given as goal

abbrev pub invariant-loop-at : goal.invariant-loop-at
invariant-loop-at g l = option_map (λ n. l.at + n) (place l.number (drop l.at l.jobs)) ≡ place l.number l.jobs
