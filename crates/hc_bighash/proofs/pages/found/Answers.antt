use Rattle.std.proofs.Common.{length, sym, ap, ◌∙◌}
use Rattle.std.specs.Str.{bytes_eq}
use Rattle.hc_bucket.specs.Placed.{entry_placed}
use Rattle.hc_bighash.proofs.Looping.{looks_on, value_at}
use Rattle.hc_bighash.proofs.pages.found.Goals as goal

pub shared-requires-clause-value : goal.shared-requires-clause-value
shared-requires-clause-value g c =
    value_at c.args.key.now c.args.page.now c.args.entries c.loop-placed.entries c.take_first.new.self (entry_placed c.in-Some.placed) c.loop-placed.end (length c.in-Some.placed.bytes.now) c.in-Some.ensures.first (ap length c.in-Some.ensures.spelled) c.loop-placed.invariant

pub loop-placed-preserved : goal.loop-placed-preserved
loop-placed-preserved g c =
    looks_on c.args.key.now c.args.page.now c.args.entries c.loop-placed.entries c.take_first.new.self (entry_placed c.in-Some.placed) c.loop-placed.end (length c.in-Some.placed.bytes.now) c.in-Some.ensures.first (ap length c.in-Some.ensures.spelled)
    (sym (c.if-eq.ensures ∙ ap (bytes_eq c.in-Some.placed.key.now) c.as_slice.ensures)) c.loop-placed.invariant
