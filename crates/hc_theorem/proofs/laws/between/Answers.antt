use Rattle.hc_theorem.proofs.runs.Betweens as by
use Rattle.hc_theorem.proofs.laws.between.Goals as goal

pub returns : goal.returns
returns c = by.runs_are_between
