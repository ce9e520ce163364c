use Rattle.std.proofs.Common.{sym, ◌∙◌}
use Rattle.hc_state.proofs.find.Looks.{find-unlinked}
use Rattle.hc_state.proofs.find.handle.look_up.Goals as goal

pub returns-in-Some-clause-pools : goal.returns-in-Some-clause-pools
returns-in-Some-clause-pools g c = sym (find-unlinked c.args.pools.now c.args.now c.args.key.now (sym c.is_linked.ensures ∙ c.if-is_linked.false))

pub returns-in-None-clause-pools : goal.returns-in-None-clause-pools
returns-in-None-clause-pools g c = sym (find-unlinked c.args.pools.now c.args.now c.args.key.now (sym c.is_linked.ensures ∙ c.if-is_linked.false))
