use Rattle.std.proofs.Common.{[], ap}
use Rattle.hc_history.specs.Lawful.{past}
use Rattle.hc_legal.specs.Judge as judge
use Rattle.std.proofs.lemmas.Result.{IfOk-weaker}
use Rattle.hc_judge_device.proofs.Losses.{found, none-found, same_pushes}
use Rattle.hc_judge_device.proofs.pushing.pushes_out.Goals as goal

pub returns-in-Some : goal.returns-in-Some
returns-in-Some g c = IfOk-weaker c.pushed_by.result _ _ (λ x told. found (λ older. judge.pushes_out c.args.flash.now older c.args.key.now) (same_pushes c.args.flash.now c.args.key.now) (past [] c.args.notes.now) _ c.in-Some.note.now _ x c.before_losses.ensures c.in-Some.ensures told) c.pushed_by.ensures

pub returns-in-None : goal.returns-in-None
returns-in-None g c = none-found (λ older. judge.pushes_out c.args.flash.now older c.args.key.now) (same_pushes c.args.flash.now c.args.key.now) (past [] c.args.notes.now) (past [] c.before_losses.result.now) c.before_losses.ensures (ap (past []) c.in-None.ensures)
