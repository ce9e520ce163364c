use Rattle.hc_flash.specs.Seen.{result_of}
use Rattle.hc_state.proofs.fill.Done.{orphan-step}
use Rattle.hc_state.proofs.state.State.finish_orphan.Goals as goal

pub returns : goal.returns
returns g c = orphan-step c.args.number (result_of c.args.came) c.args.ending c.end_get-taken.result c.args.self.now c.end_get-taken.new.self c.requires.orphan c.requires.ends c.end_get-taken.ensures c.requires.room
