use Rattle.std.proofs.Common.{◌≡◌, List, [], ◌∷◌, length, refl, sym, ap, ◌∙◌, arith}
use Rattle.std.specs.Vec.Iter.{into_iter_items}
use Rattle.hc_engines.specs.Engine.{Loss}
use Rattle.hc_history.specs.Told.{told_more}
use Rattle.hc_history.proofs.Telling.{told-nothing, told-twice}
use Rattle.hc_machine.specs.Cache.{unmarked_by}
use Rattle.hc_machine.specs.Takes.{loss_notes}
use Rattle.hc_nvm.proofs.telling.losses.Goals as goal

nothing_left : (losses : List Loss) → length losses ≡ 0 → losses ≡ []
nothing_left [] h = refl
nothing_left (loss ∷ losses) h = absurd (omega arith)

pub returns-clause-told : goal.returns-clause-told
returns-clause-told g c =
    let log = g.N.Listener.told c.loop-loss.notes in
    sym (told-nothing log)
    ∙ ap (λ (xs : List Loss). told_more log (loss_notes xs)) (sym (nothing_left (into_iter_items c.loop-loss.loss-iterator) (c.loop-loss.invariant.counted ∙ c.in-None.ensures.steps.0)))
    ∙ c.loop-loss.invariant.told

pub returns-clause-marks : goal.returns-clause-marks
returns-clause-marks g c =
    ap (λ (xs : List Loss). unmarked_by (loss_notes xs) c.loop-loss.pools) (sym (nothing_left (into_iter_items c.loop-loss.loss-iterator) (c.loop-loss.invariant.counted ∙ c.in-None.ensures.steps.0)))
    ∙ c.loop-loss.invariant.marks

pub loop-loss-preserved : goal.loop-loss-preserved
loop-loss-preserved g c =
    let kept = c.loop-loss.invariant in
    let steps = c.in-Some.ensures.steps in
    let log = g.N.Listener.told c.loop-loss.notes in
    let rest = into_iter_items c.next.new.self in
    record {
      told = (λ i. told_more (c.lost.ensures.told i) (loss_notes rest)) ∙ told-twice log (loss_notes (c.in-Some.loss ∷ [])) (loss_notes rest) ∙ ap (λ (xs : List Loss). told_more log (loss_notes xs)) (sym steps.0) ∙ kept.told;
      marks = (λ i. unmarked_by (loss_notes rest) (c.lost.ensures.marks i)) ∙ ap (λ (xs : List Loss). unmarked_by (loss_notes xs) c.loop-loss.pools) (sym steps.0) ∙ kept.marks;
      counted = omega (arith, ap (λ (xs : List Loss). length xs) steps.0, kept.counted, steps.1);
      room = omega (arith, ap (λ (xs : List Loss). length xs) steps.0, kept.room, c.lost.ensures.room);
    }
