use Rattle.hc_types.proofs.Rooms.{same_runs}
use Rattle.hc_types.proofs.key_bytes.are_equal.Goals as goal

pub returns : goal.returns
returns c = same_runs c.args.a.now c.args.b.now _ _ _ c.told-a c.told-b c.are_equal_at.ensures c.are_equal_at-2.ensures c.are_equal_at-3.ensures
