use Rattle.std.proofs.Common.{ap, is_some, refl, sym, ◌∙◌}
use Rattle.hc_memory.specs.Memory.{home_of}
use Rattle.hc_memory.proofs.Homes.{away}
use Rattle.hc_memory.proofs.Looking.{unpassed, passed, arrived, all-passed}
use Rattle.hc_memory.proofs.Making.{at-home}
use Rattle.hc_memory.proofs.pools.held_in.Goals as goal

pub loop-i-init : goal.loop-i-init
loop-i-init g c = unpassed (home_of c.args.key.now c.args.pools.now)

pub returns-in-Some-clause-place : goal.returns-in-Some-clause-place
returns-in-Some-clause-place g c = arrived c.args.key.now c.args.pools.now c.loop-i.i c.index-pools-i.result c.loop-i-test.true c.index-pools-i.is (sym (ap is_some c.in-Some.ensures)) c.loop-i.invariant

pub returns-in-Some-clause-item : goal.returns-in-Some-clause-item
returns-in-Some-clause-item g c =
    let here = arrived c.args.key.now c.args.pools.now c.loop-i.i c.index-pools-i.result c.loop-i-test.true c.index-pools-i.is (sym (ap is_some c.in-Some.ensures)) c.loop-i.invariant in
    let h = at-home c.args.key.now c.args.pools.now c.loop-i.i c.index-pools-i.result c.index-pools-i.result (λ p. p) (sym here) c.index-pools-i.is refl in
    c.in-Some.ensures ∙ h.item

pub loop-i-preserved : goal.loop-i-preserved
loop-i-preserved g c = passed c.args.key.now c.args.pools.now c.loop-i.i c.index-pools-i.result c.loop-i-test.true c.index-pools-i.is (sym (ap is_some c.in_default.ensures)) c.loop-i.invariant

pub returns-clause-place : goal.returns-clause-place
returns-clause-place g c = all-passed c.args.key.now c.args.pools.now c.loop-i.i c.loop-i-test.false c.loop-i.invariant

pub returns-clause-item : goal.returns-clause-item
returns-clause-item g c = sym (away c.args.key.now c.args.pools.now (sym (all-passed c.args.key.now c.args.pools.now c.loop-i.i c.loop-i-test.false c.loop-i.invariant))).linked
