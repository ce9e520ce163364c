use Rattle.std.proofs.Common.{ap, ◌∙◌, refl}
use Rattle.std.specs.Str.{bytes_eq}
use Rattle.hc_memory.specs.Item.{Item}
use Rattle.hc_memory.proofs.Unmarking.{other-key}
use Rattle.hc_memory.proofs.clean.forget_items.Goals as goal

pub loop-item-init : goal.loop-item-init
loop-item-init g c = record { newest = refl; stay = λ other n none h. h }

pub loop-item-preserved : goal.loop-item-preserved
loop-item-preserved g c = record {
  newest = c.forget.ensures.newest ∙ c.loop-item.invariant.newest;
  stay = λ other n none h.
      let away = ap (λ (x : Item). bytes_eq x.key other) c.item.view_is ∙ other-key other c.args.items.now c.loop-item.item-index c.item-item.result c.loop-item-test.true c.item-item.is none in
      c.forget.ensures.stay other n away (c.loop-item.invariant.stay other n none h);
}
