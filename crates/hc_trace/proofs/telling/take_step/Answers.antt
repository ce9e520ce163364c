use Rattle.hc_trace.proofs.Losses.{is-told, on-both}
use Rattle.hc_trace.proofs.telling.take_step.Goals as goal

pub returns : goal.returns
returns c = on-both c.tell.result c.tell.ensures.player c.tell.ensures.text (λ taken text. is-told _ _ c.requires c.in_ok-answer.ensures taken text)
