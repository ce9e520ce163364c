use Rattle.hc_io_results.proofs.Resulting.{same-at}
use Rattle.hc_io_results.proofs.results.Results.reserve.Goals as goal

pub returns-clause-same : goal.returns-clause-same
returns-clause-same g c = rw (← c.self.view_is) (λ every. same-at every c.self.inside.waiting.entries c.reserve.new.self.entries (c.reserve.ensures.entries.2 every))
