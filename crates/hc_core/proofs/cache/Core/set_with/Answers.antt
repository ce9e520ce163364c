use Rattle.hc_core.proofs.Joining.{fits-so, set-as, left-as, why-as}
use Rattle.hc_memory.specs.Seen.{filled}
use Rattle.hc_core.proofs.cache.Core.set_with.Goals as goal

pub returns-clause-ok : goal.returns-clause-ok
returns-clause-ok g c = set-as c.args.pool c.in_ok-key.key c.args.key.now (filled c.args.fill) c.args.ttl c.args.self.now c.set_key.new.self c.in_ok-key.ensures.ok c.set_key.result c.set_key.ensures.ok

pub returns-clause-fits : goal.returns-clause-fits
returns-clause-fits g c = fits-so c.set_key.result c.in_ok-key.ensures.fits

pub returns-clause-err : goal.returns-clause-err
returns-clause-err g c = left-as c.args.pool c.in_ok-key.key c.args.key.now (filled c.args.fill) c.args.ttl c.args.self.now c.set_key.new.self c.in_ok-key.ensures.ok c.set_key.result c.set_key.ensures.err

pub returns-clause-why : goal.returns-clause-why
returns-clause-why g c = why-as c.args.pool c.in_ok-key.key c.args.key.now (filled c.args.fill) c.args.ttl c.args.self.now c.set_key.new.self c.in_ok-key.ensures.ok c.set_key.result c.in_ok-key.ensures.fits c.set_key.ensures.why
