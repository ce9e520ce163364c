use Rattle.hc_log_text.proofs.ReadBack.{reads-back, reads-only}
use Rattle.hc_log_text.proofs.read.read_note.Goals as goal

pub returns : goal.returns
returns c = record { only = reads-only c.args.line.now c.noted.result c.noted.ensures; written = reads-back c.args.line.now c.noted.result c.noted.ensures }
