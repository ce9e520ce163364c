use Rattle.std.proofs.Common.{[], ap}
use Rattle.hc_history.specs.Lawful.{past, failed_page}
use Rattle.hc_judge_device.proofs.Losses.{found, none-found, same_failure}
use Rattle.hc_judge_device.proofs.pages.failed_page.Goals as goal

pub returns-in-Some : goal.returns-in-Some
returns-in-Some g c = found failed_page same_failure (past [] c.args.notes.now) _ c.in-Some.note.now _ c.failed.result c.before_losses.ensures c.in-Some.ensures (c.failed.ensures _)

pub returns-in-None : goal.returns-in-None
returns-in-None g c = none-found failed_page same_failure (past [] c.args.notes.now) (past [] c.before_losses.result.now) c.before_losses.ensures (ap (past []) c.in-None.ensures)
