use Rattle.std.proofs.Common.{◌≡◌, ◌+◌, ap, sym, subst, ◌∙◌}
use Rattle.std.specs.Prelude.{is_some}
use Rattle.hc_engines.specs.Engine.{Flush, Done, nothing}
use Rattle.hc_engines.specs.pair.Pair.{start}
use Rattle.hc_machine.specs.Nvm.{Nvm, next_put}
use Rattle.hc_nvm.specs.Stock.{Stock}
use Rattle.hc_nvm.proofs.Choices.{if_ok}
use Rattle.hc_nvm.proofs.Works.{writer_deletes, writer_puts}
use Rattle.hc_nvm.proofs.nvm.Nvm.writer_has_work.Goals as goal

pub returns-then-branch-clause-work : goal.returns-then-branch-clause-work
returns-then-branch-clause-work g c =
    let idle = subst (λ (s : Stock). start (s.nvm.made + 1) Flush s.nvm.pair ≡ record { pair = s.nvm.pair; next = Done nothing }) c.self.view_is (c.has_flush.ensures.idle c.if-has_flush.false (c.self.inside.made + 1)) in
    writer_deletes c.args.self.now.nvm idle (sym c.in_ok-has_delete.ensures.there ∙ c.if-branch.true)

pub returns-clause-work : goal.returns-clause-work
returns-clause-work g c =
    let idle = subst (λ (s : Stock). start (s.nvm.made + 1) Flush s.nvm.pair ≡ record { pair = s.nvm.pair; next = Done nothing }) c.self.view_is (c.has_flush.ensures.idle c.if-has_flush.false (c.self.inside.made + 1)) in
    let none = sym c.in_ok-has_delete.ensures.there ∙ c.if-branch.false in
    if_ok c.has_put.result _ _ (λ has is. is ∙ ap (λ (n : Nvm). is_some (next_put n)) c.has_delete.ensures.same ∙ writer_puts c.args.self.now.nvm idle none) c.has_put.ensures.there
