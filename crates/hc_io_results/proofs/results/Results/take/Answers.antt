use Rattle.std.proofs.Common.{None, ap, sym, ◌∙◌, option_map}
use Rattle.hc_flash.specs.Seen.{result_of}
use Rattle.hc_io_results.proofs.Resulting.{set-at, seen-at}
use Rattle.hc_io_results.proofs.results.Results.take.Goals as goal

pub returns-clause-taken : goal.returns-clause-taken
returns-clause-taken g c = rw (← c.self.view_is) (ap (option_map result_of) c.remove.ensures.value ∙ sym (seen-at c.args.job c.self.inside.waiting.entries))

pub returns-clause-others : goal.returns-clause-others
returns-clause-others g c = rw (← c.self.view_is) (λ every. set-at c.args.job every c.self.inside.waiting.entries c.remove.new.self.entries None (c.remove.ensures.updates.0 every))
