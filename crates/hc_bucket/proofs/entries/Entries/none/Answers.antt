use Rattle.std.proofs.Common.{refl}
use Rattle.hc_bucket.specs.Reading.{entries_at}
use Rattle.hc_bucket.proofs.Scanning.{none_whole}
use Rattle.hc_bucket.proofs.entries.Entries.none.Goals as goal

pub invariant_of-result : goal.invariant_of-result
invariant_of-result c = none_whole

pub returns : goal.returns
unfolding entries_at
returns c = refl
