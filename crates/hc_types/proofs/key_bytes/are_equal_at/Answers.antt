use Rattle.std.proofs.lemmas.Simd.{length-chunk}
use lib.Lanes.{chunk}
use Rattle.hc_types.proofs.Rooms.{lanes_tell}
use Rattle.hc_types.proofs.key_bytes.are_equal_at.Goals as goal

pub returns : goal.returns
returns c =
    let at = c.args.at in
    let a = c.args.a.now in
    let b = c.args.b.now in
    lanes_tell (chunk at 16 a) (chunk at 16 b) (length-chunk at 16 a c.requires.a) (length-chunk at 16 b c.requires.b)
