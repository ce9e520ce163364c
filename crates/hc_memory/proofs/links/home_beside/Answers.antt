use Rattle.std.proofs.Common.{sym, ◌∙◌, arith}
use Rattle.hc_memory.proofs.Keys.{arrived-beside, all-passed-beside, further}
use Rattle.hc_memory.proofs.links.home_beside.Goals as goal
use Rattle.hc_memory.proofs.links.home_beside.Goals.{else-i-own-via-then-i-own+else-has, else-i-own-via-else-i-own}

pub returns-then-has : goal.returns-then-has
returns-then-has g c = arrived-beside c.args.key.now c.args.pools.now c.args.own c.loop-i.i c.index-pools-i.result c.requires c.loop-i-test.true c.index-pools-i.is (sym c.has.ensures ∙ c.if-has.true) c.if-i-own.true

pub loop-i-preserved : goal.loop-i-preserved
loop-i-preserved g c = further c.args.key.now c.args.pools.now c.args.own c.loop-i.i c.index-pools-i.result c.loop-i-test.true c.index-pools-i.is
    (elim c.else-i-own.branch [
      | else-i-own-via-then-i-own+else-has w ↦ λ other. sym w.has.ensures ∙ w.if-has.false
      | else-i-own-via-else-i-own w ↦ λ other. absurd (other w.if-i-own.false)
    ])
    c.loop-i.invariant

pub returns : goal.returns
returns g c = all-passed-beside c.args.key.now c.args.pools.now c.args.own (λ j pool lt other at. c.loop-i.invariant j pool (omega (arith, lt, c.loop-i-test.false)) other at)
