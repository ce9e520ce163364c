-- The first fill that can be served.
use Rattle.std.proofs.Common.{◌≡◌, ◌∙◌, ap, sym, subst, IfOk}
use Rattle.std.specs.Prelude.{option_map}
use Rattle.std.specs.List.{find}
use Rattle.hc_machine.specs.Nvm.{Fill}
use Rattle.hc_queue.specs.Queue.{can_go}
use Rattle.hc_waiting.specs.Fills.{fill_in}
use Rattle.hc_waiting.proofs.Stones.{option-map-map}
use Rattle.std.proofs.lemmas.Result.{IfOk-weaker}
use Rattle.hc_waiting.proofs.Filling.{next_fill_is}
use Rattle.hc_waiting.proofs.Led.{under_as}
use Rattle.hc_waiting.proofs.fills.Fills.next.Goals as goal

pub returns-clause-next : goal.returns-clause-next
returns-clause-next g c busy tells =
    rw (← c.self.view_is) (subst (λ found. IfOk c.first.result (λ key. key ≡ found))
    (sym (option-map-map (λ (fill : Fill). fill.key) fill_in (find (can_go busy) c.self.inside.line.pieces)) ∙ ap (option_map (λ (fill : Fill). fill.key)) (next_fill_is c.self.inside.flash busy c.self.inside.line.pieces c.self.invariant.3))
    (c.first.ensures.first busy tells))

pub returns-clause-fill : goal.returns-clause-fill
returns-clause-fill g c busy tells =
    let pieces = c.self.inside.line.pieces in
    rw (← c.self.view_is) (IfOk-weaker c.first.result _ _ (λ key is. sym (under_as key pieces) ∙ (ap (option_map fill_in) is ∙ next_fill_is c.self.inside.flash busy pieces c.self.invariant.3)) (c.first.ensures.piece busy tells))
