use Rattle.std.proofs.Common.{sym}
use Rattle.hc_types.specs.FlashEntry.{entry_of}
use Rattle.hc_state.proofs.state.State.prepare.Goals as goal

pub prepare_item-requires-clause-own : goal.prepare_item-requires-clause-own
prepare_item-requires-clause-own g c = c.requires.own (entry_of c.in-Some.entry.now) (sym c.in-Some.ensures)
