use Rattle.hc_types.proofs.Showing.{if-shown}
use Rattle.hc_types.proofs.shown.KeyDisplay.fmt.Goals as goal

-- src/shown.rt:14:5
pub returns-in-Err-clause-writes : goal.returns-in-Err-clause-writes
returns-in-Err-clause-writes g c = rw (← c.as_slice.ensures) (if-shown c.as_slice.result.now _ c.in-Err.ensures.cases.0)
