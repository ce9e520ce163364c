use Rattle.std.proofs.Common.{sym, ◌∙◌, ap}
use Rattle.hc_types.specs.declared.refusal.Refusal.TheVariants.{ForeignHandle}
use Rattle.hc_machine.specs.Calls.{insert}
use Rattle.hc_calls.specs.declared.answers.Unlinked.{Unlinked}
use Rattle.hc_core.specs.Answers.{IsReason}
use Rattle.hc_core.specs.Logged.{Logged}
use Rattle.hc_shard.specs.Shard.{is_own}
use Rattle.hc_shard.proofs.Owning.{own-why}
use Rattle.hc_shard.proofs.shard.Shard.insert.Goals as goal

pub returns-clause-why : goal.returns-clause-why
returns-clause-why g c =
    own-why (λ (e : Unlinked g.row.A.Denot). e.refusal) _ _ c.self.view_is c.insert.result c.args.sealed.key ForeignHandle (λ (core : Logged). IsReason (insert c.args.client c.args.sealed core.cache).answer)
    (ap (is_own c.args.self.now) (sym c.key.ensures) ∙ sym c.is_own.ensures ∙ c.if-not-is_own.false) c.insert.ensures.why
