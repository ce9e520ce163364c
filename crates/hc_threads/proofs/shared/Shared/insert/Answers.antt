use Rattle.hc_threads.proofs.Asking.{may-add}
use Rattle.hc_threads.proofs.shared.Shared.insert.Goals as goal

pub returns-in-Err-clause-why : goal.returns-in-Err-clause-why
returns-in-Err-clause-why g c = may-add c.args.client c.args.sealed c.deref_mut.result.now.cache.logged.cache c.in-Err.unlinked.refusal c.in-Err.ensures.why
