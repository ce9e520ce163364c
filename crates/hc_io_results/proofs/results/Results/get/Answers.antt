use Rattle.hc_io_results.proofs.Resulting.{seen-at, lent-at}
use Rattle.hc_io_results.proofs.results.Results.get.Goals as goal

pub returns : goal.returns
returns g c = rw (← c.self.view_is) (lent-at c.get.result _ _ c.get.ensures.value (seen-at c.args.job c.self.inside.waiting.entries))
