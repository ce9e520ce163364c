use Rattle.std.proofs.Common.{◌≡◌, ◌+◌, ◌≤◌, drop}
use Rattle.hc_golden.specs.Difference.{difference_from, line_of_difference}
use Rattle.hc_golden.proofs.difference.difference_in.Given as goal

-- the rests differ where the texts do, and each line took a byte
abbrev pub invariant-bytes : goal.invariant-bytes
invariant-bytes l = (difference_from l.line (drop l.byte-index l.got) l.rest ≡ line_of_difference l.got l.want) × (l.line ≤ l.byte-index + 1)
