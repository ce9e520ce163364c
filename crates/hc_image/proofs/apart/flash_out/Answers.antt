use Rattle.std.proofs.Common.{◌++◌, ap, ◌∙◌, length}
use Rattle.std.proofs.lemmas.Result.{IfOk-weaker}
use Rattle.hc_engines.specs.pair.Pair.{Pair}
use Rattle.hc_image.specs.Saved.{waiting_frames, engine_frames}
use Rattle.hc_image.proofs.Idle.{idle_nvm}
use Rattle.hc_image.proofs.apart.flash_out.Goals as goal

pub engines_out-requires-clause-small : goal.engines_out-requires-clause-small
engines_out-requires-clause-small g c = ap (λ (pair : Pair). length pair.small.jobs) c.in-Ok.ensures.nvm ∙ (idle_nvm c.args.nvm.nvm c.requires).0

pub engines_out-requires-clause-large : goal.engines_out-requires-clause-large
engines_out-requires-clause-large g c = ap (λ (pair : Pair). length pair.large.jobs) c.in-Ok.ensures.nvm ∙ (idle_nvm c.args.nvm.nvm c.requires).1

pub returns-in-Ok-clause-frames : goal.returns-in-Ok-clause-frames
returns-in-Ok-clause-frames g c =
    IfOk-weaker c.engines_out.result _ _
    (λ f e. e ∙ (λ i. waiting_frames (c.in-Ok.ensures.puts i) (c.in-Ok.ensures.keys i) ++ engine_frames (c.in-Ok.ensures.nvm i).small.words (c.in-Ok.ensures.nvm i).large.regions (c.in-Ok.ensures.nvm i).large.index))
    c.engines_out.ensures.frames
