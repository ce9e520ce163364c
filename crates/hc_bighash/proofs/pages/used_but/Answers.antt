use Rattle.std.proofs.Common.{◌+◌, length, ap, arith}
use Rattle.std.specs.Str.{bytes_eq}
use Rattle.hc_bucket.specs.Placed.{entry_placed}
use Rattle.hc_bighash.proofs.Looping.{differs, counts_too, below}
use Rattle.hc_bighash.proofs.pages.used_but.Goals as goal

pub overflow_add-used : goal.overflow_add-used
overflow_add-used c =
    omega (
      arith,
      below c.args.key.now c.args.entries.now c.take_first.new.self (c.loop-placed.used + length c.in-Some.placed.bytes.now) c.requires
          (counts_too c.args.key.now c.args.entries.now c.loop-placed.rest c.take_first.new.self (entry_placed c.in-Some.placed) c.loop-placed.used (length c.in-Some.placed.bytes.now) c.in-Some.ensures.first
          (differs (bytes_eq c.in-Some.placed.key.now c.args.key.now) c.if-ne.ensures) (ap length c.in-Some.ensures.spelled) c.loop-placed.invariant),
    )
