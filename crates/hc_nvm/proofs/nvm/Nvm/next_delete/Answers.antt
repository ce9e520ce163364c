use Rattle.std.proofs.Common.{ℕ, Bool, ◌∙◌, ap}
use Rattle.std.specs.List.{find}
use Rattle.std.specs.Prelude.{option_map}
use Rattle.hc_types.specs.declared.config.FlashConfig.{FlashConfig}
use Rattle.hc_engines.specs.small.BigHash.{is_busy}
use Rattle.hc_machine.specs.Nvm.{Tombstone}
use Rattle.hc_waiting.specs.Tombstones.{can_be_deleted}
use Rattle.hc_nvm.proofs.Choices.{if_ok}
use Rattle.hc_nvm.proofs.nvm.Nvm.next_delete.Goals as goal

pub returns-clause-next : goal.returns-clause-next
returns-clause-next g c =
    let busy : ℕ → Bool = λ bucket. is_busy bucket c.self.inside.pair.small.jobs in
    let next = c.next.ensures.next busy (λ lane answer within post. post) in
    rw (← c.self.view_is) (if_ok c.next.result _ _ (λ key is. is ∙ ap (λ (f : FlashConfig). option_map (λ (stone : Tombstone). stone.key) (find (can_be_deleted f busy) c.self.inside.tombstones.stones)) c.self.invariant.1) next)
