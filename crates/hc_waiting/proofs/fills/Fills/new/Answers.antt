-- No job brings anything.
use Rattle.std.proofs.Common.{refl}
use Rattle.hc_waiting.proofs.fills.Fills.new.Goals as goal

pub invariant_of-result : goal.invariant_of-result
invariant_of-result g c = rw (c.new.ensures, c.new-2.ensures.empty) (c.requires.bits, c.requires.some_bucket, c.requires.most_buckets, tt, record { leads = λ number. refl; sole = tt })
