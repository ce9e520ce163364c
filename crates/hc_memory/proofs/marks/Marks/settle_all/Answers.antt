use Rattle.std.proofs.Common.{◌<◌, refl, sym, ◌∙◌, arith, length, length-set}
use Rattle.hc_memory.specs.Marks.{settled}
use Rattle.hc_memory.proofs.Unmarking.{changed-next, changed-end}
use Rattle.hc_memory.proofs.marks.Marks.settle_all.Goals as goal

pub loop-i-init : goal.loop-i-init
loop-i-init g c = record { count = refl; rest = refl }

pub index_mut-requires : goal.index_mut-requires
index_mut-requires g c = omega (arith, c.loop-i-test.true, c.loop-i.invariant.count)

pub loop-i-preserved : goal.loop-i-preserved
loop-i-preserved g c =
    let inv = c.loop-i.invariant in
    let within : c.loop-i.i < length c.loop-i.items.items = omega (arith, c.loop-i-test.true, inv.count) in
    record {
      count = length-set c.loop-i.items.items c.loop-i.i c.settle.new.item ∙ inv.count;
      rest = changed-next c.loop-i.i (settled c.args.flash.now c.args.self.now) c.loop-i.items.items c.index_mut.result.now c.settle.new.item within c.index_mut.ensures.value c.settle.ensures ∙ inv.rest;
    }

pub returns : goal.returns
returns g c =
    let inv = c.loop-i.invariant in
    sym (changed-end c.loop-i.i (settled c.args.flash.now c.args.self.now) c.loop-i.items.items (omega (arith, c.loop-i-test.false, inv.count))) ∙ inv.rest
