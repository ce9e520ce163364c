use Rattle.std.proofs.Common.{◌≡◌, drop}
use Rattle.hc_state.specs.fill.Link.{is_lost as is_lost_seen}
use Rattle.hc_state.proofs.fill.mark.is_lost.Given as goal

abbrev pub invariant-loop-loss : goal.invariant-loop-loss
invariant-loop-loss g l = is_lost_seen l.flash (drop l.loss-index l.losses) l.key l.len ≡ is_lost_seen l.flash l.losses l.key l.len
