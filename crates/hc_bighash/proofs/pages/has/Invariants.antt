use Rattle.std.proofs.Common.{◌≡◌, length}
use Rattle.hc_engines.specs.small.Entries.{under}
use Rattle.hc_bighash.proofs.pages.has.Given as goal

abbrev pub invariant-loop-placed : goal.invariant-loop-placed
invariant-loop-placed g l = under l.key l.rest ≡ under l.key l.entries

abbrev pub decreases-loop-placed : goal.decreases-loop-placed
decreases-loop-placed g l = length l.rest
