use Rattle.hc_io_results.proofs.Resulting.{has-at}
use Rattle.hc_io_results.proofs.results.Results.has.Goals as goal

pub returns : goal.returns
returns g c = rw (← c.self.view_is) (has-at c.args.job c.self.inside.waiting.entries c.contains_key.result c.contains_key.ensures)
