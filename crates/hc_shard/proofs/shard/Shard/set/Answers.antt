use Rattle.std.proofs.Common.{sym, ◌∙◌}
use Rattle.hc_types.specs.declared.refusal.Refusal.{Refusal}
use Rattle.hc_types.specs.declared.refusal.Refusal.TheVariants.{WrongShard}
use Rattle.hc_machine.specs.Evicting.{allocate}
use Rattle.hc_core.specs.Logged.{Logged}
use Rattle.hc_core.specs.Plain.{MayRefuse}
use Rattle.hc_shard.specs.Shard.{IsWhyOf}
use Rattle.hc_shard.proofs.Owning.{own-why}
use Rattle.hc_shard.proofs.shard.Shard.set.Goals as goal

pub returns-clause-why : goal.returns-clause-why
returns-clause-why g c =
    own-why (λ (refusal : Refusal). refusal) _ _ c.self.view_is c.set.result c.args.key.now WrongShard (λ (core : Logged). IsWhyOf c.args.key.now (MayRefuse (allocate c.args.pool c.args.key.now c.args.value.now c.args.ttl core.cache).answer))
    (sym c.is_own_of.ensures ∙ c.if-not-is_own_of.false) c.set.ensures.why
