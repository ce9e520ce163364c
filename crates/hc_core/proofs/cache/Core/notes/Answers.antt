use Rattle.hc_core.proofs.cache.Core.notes.Goals as goal

pub returns-clause-guarded : goal.returns-clause-guarded
returns-clause-guarded g c = rw (← c.self.view_is) c.self.invariant.guarded
