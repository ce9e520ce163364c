use Rattle.std.proofs.Common.{sym}
use Rattle.hc_bucket.specs.Placed.{entry_placed}
use Rattle.hc_bucket.proofs.Scanning.{passed_first, passed_more, passed_stops, passed_here, passed_all}
use Rattle.hc_bucket.proofs.checking.has_key.Goals as goal

pub loop-init : goal.loop-init
loop-init c = passed_first c.args.bytes.now c.args.key.now c.args.count

pub returns-in_default : goal.returns-in_default
returns-in_default c = λ front behind all. passed_stops c.args.bytes.now c.args.key.now c.args.count c.loop.counter c.loop.rest.now front behind c.loop-test.true (sym c.in_default.ensures.read) c.loop.invariant all

pub returns-then-eq : goal.returns-then-eq
returns-then-eq c = λ front behind all.
    passed_here c.args.bytes.now c.args.key.now c.args.count c.loop.counter c.loop.rest.now c.in-Some.behind.now (entry_placed c.in-Some.placed) front behind c.loop-test.true (sym c.in-Some.ensures.read) (sym c.if-eq.ensures) c.loop.invariant all

pub loop-preserved : goal.loop-preserved
loop-preserved c =
    passed_more c.args.bytes.now c.args.key.now c.args.count c.loop.counter c.loop.rest.now c.in-Some.behind.now (entry_placed c.in-Some.placed) c.loop-test.true (sym c.in-Some.ensures.read) (sym c.if-eq.ensures) c.loop.invariant

pub returns : goal.returns
returns c = λ front behind all. passed_all c.args.bytes.now c.args.key.now c.args.count c.loop.counter c.loop.rest.now front behind c.loop-test.false c.loop.invariant all
