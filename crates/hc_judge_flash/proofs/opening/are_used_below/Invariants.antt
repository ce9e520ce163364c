use Rattle.std.proofs.Common.{◌≡◌, true}
use Rattle.hc_history.specs.Regions.{is_one_of}
use Rattle.hc_legal.specs.Judge.{all_below}
use Rattle.hc_judge_flash.proofs.opening.are_used_below.Given as goal

abbrev pub invariant-loop-lower : goal.invariant-loop-lower
invariant-loop-lower l = all_below (λ lower. is_one_of lower l.regions) l.lower-counter ≡ true
