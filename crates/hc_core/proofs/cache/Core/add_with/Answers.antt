use Rattle.hc_memory.specs.Seen.{filled}
use Rattle.hc_core.proofs.Joining.{then-added, then-left-new, then-why-new, fits-so}
use Rattle.hc_core.proofs.cache.Core.add_with.Goals as goal

pub returns-clause-ok : goal.returns-clause-ok
returns-clause-ok g c =
    then-added c.args.pool c.in_ok-key.key c.args.key.now (filled c.args.fill) c.args.ttl c.in_ok-sealed.sealed c.args.self.now c.open_with.new.core c.link_new.new.core c.in_ok-key.ensures.ok c.in_ok-sealed.ensures.ok c.link_new.result c.link_new.ensures.ok

pub returns-clause-fits : goal.returns-clause-fits
returns-clause-fits g c = fits-so c.link_new.result c.in_ok-key.ensures.fits

pub returns-clause-err : goal.returns-clause-err
returns-clause-err g c =
    then-left-new c.args.pool c.in_ok-key.key c.args.key.now (filled c.args.fill) c.args.ttl c.in_ok-sealed.sealed c.args.self.now c.open_with.new.core c.link_new.new.core c.in_ok-key.ensures.ok c.in_ok-sealed.ensures.ok c.link_new.result c.link_new.ensures.err

pub returns-clause-why : goal.returns-clause-why
returns-clause-why g c =
    then-why-new c.args.pool c.in_ok-key.key c.args.key.now (filled c.args.fill) c.args.ttl c.in_ok-sealed.sealed c.args.self.now c.open_with.new.core c.link_new.new.core c.in_ok-key.ensures.ok c.in_ok-sealed.ensures.ok c.link_new.result c.in_ok-key.ensures.fits c.link_new.ensures.err
