use Rattle.hc_leased.proofs.Runs as by
use Rattle.hc_leased.proofs.laws.calls_are_runs.Goals as goal

pub returns-clause-call : goal.returns-clause-call
returns-clause-call c = by.calls-are-runs

pub returns-clause-chain : goal.returns-clause-chain
returns-clause-chain c = by.chain-runs
