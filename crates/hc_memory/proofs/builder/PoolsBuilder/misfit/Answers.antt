use Rattle.std.proofs.Common.{length, true, false, refl, sym, ◌∙◌}
use Rattle.std.proofs.lemmas.Bool.{ltb-true}
use Rattle.hc_memory.proofs.Built.{misfit-is}
use Rattle.hc_memory.proofs.builder.PoolsBuilder.misfit.Goals as goal

pub is_full_for-requires : goal.is_full_for-requires
is_full_for-requires g c = ltb-true c.args.item.now.pool (length c.args.self.now.pools) (sym c.has_pool.ensures ∙ c.if-not-has_pool.false)

pub returns-then-not-has_pool : goal.returns-then-not-has_pool
returns-then-not-has_pool g c = misfit-is c.args.self.now c.args.item.now false _ _ _ (sym c.has_pool.ensures ∙ c.if-not-has_pool.true) refl refl refl

pub returns-then-not-is_numbered : goal.returns-then-not-is_numbered
returns-then-not-is_numbered g c = misfit-is c.args.self.now c.args.item.now true false _ _ (sym c.has_pool.ensures ∙ c.if-not-has_pool.false) (sym c.is_numbered.ensures ∙ c.if-not-is_numbered.true) refl refl

pub returns-then-has_key : goal.returns-then-has_key
returns-then-has_key g c = misfit-is c.args.self.now c.args.item.now true true true _ (sym c.has_pool.ensures ∙ c.if-not-has_pool.false) (sym c.is_numbered.ensures ∙ c.if-not-is_numbered.false) (sym c.has_key.ensures ∙ c.if-has_key.true) refl

pub returns-then-is_full_for : goal.returns-then-is_full_for
returns-then-is_full_for g c =
    misfit-is c.args.self.now c.args.item.now true true false true (sym c.has_pool.ensures ∙ c.if-not-has_pool.false) (sym c.is_numbered.ensures ∙ c.if-not-is_numbered.false) (sym c.has_key.ensures ∙ c.if-has_key.false) (sym c.is_full_for.ensures ∙ c.if-is_full_for.true)

pub returns : goal.returns
returns g c =
    misfit-is c.args.self.now c.args.item.now true true false false (sym c.has_pool.ensures ∙ c.if-not-has_pool.false) (sym c.is_numbered.ensures ∙ c.if-not-is_numbered.false) (sym c.has_key.ensures ∙ c.if-has_key.false) (sym c.is_full_for.ensures ∙ c.if-is_full_for.false)
