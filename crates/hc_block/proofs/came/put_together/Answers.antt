use Rattle.std.proofs.lemmas.Result.{IfOk-from_err}
use Rattle.hc_block.proofs.came.put_together.Goals as goal

pub returns-in_err-bytes : goal.returns-in_err-bytes
returns-in_err-bytes g c = IfOk-from_err c.from_residual.result _ c.from_residual.ensures.0

pub returns-in_err-bytes-2 : goal.returns-in_err-bytes-2
returns-in_err-bytes-2 g c = IfOk-from_err c.from_residual-in_err-bytes-2.result _ c.from_residual-in_err-bytes-2.ensures.0

pub returns-in_err-extend_from_slice : goal.returns-in_err-extend_from_slice
returns-in_err-extend_from_slice g c = IfOk-from_err c.from_residual-in_err-extend_from_slice.result _ c.from_residual-in_err-extend_from_slice.ensures.0

pub returns-in_err-extend_from_slice-2 : goal.returns-in_err-extend_from_slice-2
returns-in_err-extend_from_slice-2 g c = IfOk-from_err c.from_residual-in_err-extend_from_slice-2.result _ c.from_residual-in_err-extend_from_slice-2.ensures.0

pub returns-in_err-push_pages : goal.returns-in_err-push_pages
returns-in_err-push_pages g c = IfOk-from_err c.from_residual-in_err-push_pages.result _ c.from_residual-in_err-push_pages.ensures.0
