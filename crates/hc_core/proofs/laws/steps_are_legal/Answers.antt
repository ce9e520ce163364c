use Rattle.hc_theorem.proofs.headlines.WholeRuns as theorem
use Rattle.hc_core.proofs.laws.steps_are_legal.Goals as goal

pub returns-clause-new : goal.returns-clause-new
returns-clause-new c = theorem.new_stands

pub returns-clause-calls : goal.returns-clause-calls
returns-clause-calls c = theorem.guarded
