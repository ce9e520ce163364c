use Rattle.std.proofs.Common.{◌≡◌, ◌++◌, drop}
use Rattle.hc_image_text.specs.Heads.{numbers64}
use Rattle.hc_image_text.proofs.head.put_all.Given as goal

-- with those that aren't written yet, all is there
abbrev pub invariant-loop-number : goal.invariant-loop-number
invariant-loop-number g l = l.out.items ++ numbers64 (drop l.number-index l.numbers) ≡ l.initial.out.items ++ numbers64 l.numbers
