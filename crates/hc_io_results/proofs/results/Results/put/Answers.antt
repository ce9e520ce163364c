use Rattle.std.proofs.Common.{Some}
use Rattle.hc_io_results.proofs.Resulting.{set-at}
use Rattle.hc_io_results.proofs.results.Results.put.Goals as goal

pub returns : goal.returns
returns g c = rw (← c.self.view_is) (λ every. set-at c.args.job every c.self.inside.waiting.entries c.insert.new.self.entries (Some c.args.came) (c.in-Ok.ensures.updates.0 every))
