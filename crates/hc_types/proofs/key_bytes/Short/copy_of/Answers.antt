use Rattle.std.proofs.Common.{length, ap}
use Rattle.hc_types.proofs.Rooms.{zeros_follow}
use Rattle.hc_types.proofs.key_bytes.Short.copy_of.Goals as goal

pub invariant_of-result : goal.invariant_of-result
invariant_of-result c = (c.requires, zeros_follow (length c.args.bytes.now) c.copy_from_slice.new.self (ap length c.copy_from_slice.ensures.after))
