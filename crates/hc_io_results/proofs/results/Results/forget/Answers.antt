use Rattle.std.proofs.Common.{None}
use Rattle.hc_io_results.proofs.Resulting.{set-at}
use Rattle.hc_io_results.proofs.results.Results.forget.Goals as goal

pub returns : goal.returns
returns g c = rw (← c.self.view_is) (λ every. set-at c.args.job every c.self.inside.waiting.entries c.remove.new.self.entries None (c.remove.ensures.updates.0 every))
