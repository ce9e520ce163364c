use Rattle.std.proofs.Common.{ℕ, Bool, ◌∙◌, ap}
use Rattle.std.specs.List.{find}
use Rattle.hc_types.specs.declared.config.FlashConfig.{FlashConfig}
use Rattle.hc_engines.specs.small.BigHash.{is_busy}
use Rattle.hc_waiting.specs.Puts.{can_be_put}
use Rattle.hc_nvm.proofs.Choices.{if_ok}
use Rattle.hc_nvm.proofs.nvm.Nvm.next_put.Goals as goal

pub returns-clause-next : goal.returns-clause-next
returns-clause-next g c =
    let busy : ℕ → Bool = λ bucket. is_busy bucket c.self.inside.pair.small.jobs in
    let next = c.next.ensures.next busy (λ lane answer within post. post) in
    rw (← c.self.view_is) (if_ok c.next.result _ _ (λ key is. is ∙ ap (λ (f : FlashConfig). find (can_be_put f busy) c.self.inside.queue.puts) c.self.invariant.0) next)
