-- No piece has the key.
use Rattle.hc_waiting.proofs.Numbered.{no-number}
use Rattle.hc_waiting.proofs.line.Line.push.Goals as goal

pub push-requires-clause-apart : goal.push-requires-clause-apart
push-requires-clause-apart g c = no-number c.args.key c.self.inside.queue.entries (rw (← c.self.view_is) at c.requires.absent)
