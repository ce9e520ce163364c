use Rattle.std.proofs.Common.{◌<◌, refl, sym, ◌∙◌, arith, length, length-set}
use Rattle.hc_types.specs.Loss.{scope_of}
use Rattle.hc_memory.proofs.Unmarking.{without_marks, changed-next, changed-end}
use Rattle.hc_memory.proofs.unmark.unmark_keys.Goals as goal

pub loop-i-init : goal.loop-i-init
loop-i-init g c = record { count = refl; rest = refl }

pub index_mut-requires : goal.index_mut-requires
index_mut-requires g c = omega (arith, c.loop-i-test.true, c.loop-i.invariant.count)

pub loop-i-preserved : goal.loop-i-preserved
loop-i-preserved g c =
    let inv = c.loop-i.invariant in
    let within : c.loop-i.i < length c.loop-i.pools.items = omega (arith, c.loop-i-test.true, inv.count) in
    record {
      count = length-set c.loop-i.pools.items c.loop-i.i c.unmark_in.new.pool ∙ inv.count;
      rest = changed-next c.loop-i.i (without_marks c.args.flash.now (scope_of c.args.scope.now) c.args.keys.now) c.loop-i.pools.items c.index_mut.result.now c.unmark_in.new.pool within c.index_mut.ensures.value c.unmark_in.ensures ∙ inv.rest;
    }

pub returns : goal.returns
returns g c =
    let inv = c.loop-i.invariant in
    sym (changed-end c.loop-i.i (without_marks c.args.flash.now (scope_of c.args.scope.now) c.args.keys.now) c.loop-i.pools.items (omega (arith, c.loop-i-test.false, inv.count))) ∙ inv.rest
