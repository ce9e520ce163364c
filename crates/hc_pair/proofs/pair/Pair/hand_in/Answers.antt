use Rattle.std.proofs.Common.{sym}
use Rattle.hc_engines.specs.Seen.{op_of}
use Rattle.hc_pair.proofs.pair.Pair.hand_in.Goals as goal

pub resume_small-requires : goal.resume_small-requires
resume_small-requires g c = (op_of c.in-Some.field-0.now, rw (← c.self.view_is) (sym (c.in-Some.ensures)))
