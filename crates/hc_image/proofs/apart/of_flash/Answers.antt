use Rattle.std.proofs.Common.{sym, ap, ◌∙◌}
use Rattle.std.proofs.lemmas.Result.{IfOk-weaker}
use Rattle.hc_state.specs.Whole.{nvm_of}
use Rattle.hc_image.specs.Saved.{nvm_frames}
use Rattle.hc_image.proofs.apart.of_flash.Goals as goal

pub returns-in-Some-clause-frames : goal.returns-in-Some-clause-frames
returns-in-Some-clause-frames g c = IfOk-weaker c.flash_out.result _ _ (λ f e. e ∙ ap (λ n. nvm_frames (nvm_of n)) (sym c.in-Some.is)) c.flash_out.ensures.frames
