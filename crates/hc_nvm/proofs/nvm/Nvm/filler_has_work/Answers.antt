use Rattle.std.proofs.Common.{sym, ◌∙◌}
use Rattle.hc_nvm.proofs.Works.{filler_there}
use Rattle.hc_nvm.proofs.nvm.Nvm.filler_has_work.Goals as goal

pub returns-in-Some-clause-work : goal.returns-in-Some-clause-work
returns-in-Some-clause-work g c = filler_there c.args.self.now.nvm c.in-Some.key (sym c.in-Some.is ∙ c.in_ok-key.ensures.next)
