use Rattle.std.proofs.Common.{ℕ, ◌^◌, ◌%◌, ap, ◌∙◌}
use Rattle.hc_bucket.specs.Whole.{mark_at}
use Rattle.hc_bucket.proofs.Scanning.{one_mark}
use Rattle.hc_bucket.proofs.checking.mark_of.Goals as goal

pub returns : goal.returns
unfolding mark_at
returns c = one_mark c.digest_of.result ∙ ap (λ (d : ℕ). 2 ^ (d % 64)) c.digest_of.ensures
