use Rattle.std.proofs.lemmas.Option.{IfSome_then}
use Rattle.hc_verdict.proofs.verdict.judge.Goals as goal

pub is_at_end-requires-clause-bits : goal.is_at_end-requires-clause-bits
is_at_end-requires-clause-bits g c = IfSome_then c.args.config.now.flash c.limits.ensures (λ flash limited. limited.bits)

pub is_at_end-requires-clause-buckets : goal.is_at_end-requires-clause-buckets
is_at_end-requires-clause-buckets g c = IfSome_then c.args.config.now.flash c.limits.ensures (λ flash limited. limited.some_bucket)
