use Rattle.std.proofs.Common.{ℕ, Bool, ◌∙◌, ap}
use Rattle.std.specs.List.{find}
use Rattle.std.specs.Prelude.{option_map}
use Rattle.hc_types.specs.declared.config.FlashConfig.{FlashConfig}
use Rattle.hc_engines.specs.small.BigHash.{is_busy}
use Rattle.hc_machine.specs.Nvm.{Fill}
use Rattle.hc_waiting.specs.Fills.{can_be_filled}
use Rattle.hc_nvm.proofs.Choices.{if_ok}
use Rattle.hc_nvm.proofs.nvm.Nvm.next_fill.Goals as goal

pub returns-clause-next : goal.returns-clause-next
returns-clause-next g c =
    let busy : ℕ → Bool = λ bucket. is_busy bucket c.self.inside.pair.small.jobs in
    let next = c.next.ensures.next busy (λ lane answer within post. post) in
    rw (← c.self.view_is) (if_ok c.next.result _ _ (λ key is. is ∙ ap (λ (f : FlashConfig). option_map (λ (fill : Fill). fill.key) (find (can_be_filled f busy) c.self.inside.fills.fills)) c.self.invariant.2) next)

pub returns-clause-there : goal.returns-clause-there
returns-clause-there g c =
    let busy : ℕ → Bool = λ bucket. is_busy bucket c.self.inside.pair.small.jobs in
    let there = c.next.ensures.fill busy (λ lane answer within post. post) in
    rw (← c.self.view_is) (if_ok c.next.result _ _ (λ key is. is ∙ ap (λ (f : FlashConfig). find (can_be_filled f busy) c.self.inside.fills.fills) c.self.invariant.2) there)
