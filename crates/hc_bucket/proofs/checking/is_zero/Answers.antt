use Rattle.hc_bucket.proofs.Zeros.{all_joined}
use Rattle.hc_bucket.proofs.checking.is_zero.Goals as goal

pub returns : goal.returns
returns c = all_joined c.args.bytes.now c.loop-byte.byte-index c.loop-byte.seen c.loop-byte-test.false c.loop-byte.invariant
