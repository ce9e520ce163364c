use Rattle.hc_core.proofs.Keeping.{new-holds}
use Rattle.hc_core.proofs.cache.Core.new.Goals as goal

pub invariant_of-result : goal.invariant_of-result
invariant_of-result g c =
    let e = c.in_ok-state.ensures in
    new-holds c.args.config.now (g.N.Listener.told c.args.notes) c.in_ok-state.state e.fits c.requires.log e.cache e.log

pub returns-clause-ok : goal.returns-clause-ok
returns-clause-ok g c = λ i. record { cache = c.in_ok-state.ensures.cache i; log = c.in_ok-state.ensures.log i }
