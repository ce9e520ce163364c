use Rattle.std.proofs.Common.{◌∙◌, sym}
use Rattle.hc_types.specs.FlashEntry.{entry_of, entries_of}
use Rattle.hc_judge_device.proofs.Pushed.{pushed, unfound, own}
use Rattle.hc_judge_device.proofs.pushing.is_pushed_by.Goals as goal

pub returns-then-eq : goal.returns-then-eq
returns-then-eq g c = own c.args.size c.args.key.now (entry_of c.args.put.now) (entries_of c.args.was.now) (sym c.if-eq.ensures)

pub returns-then-is_empty : goal.returns-then-is_empty
returns-then-is_empty g c = unfound c.args.size c.args.key.now (entry_of c.args.put.now) (entries_of c.args.was.now) c.from_key-rest.result.now (sym c.if-eq.ensures) (sym c.if-is_empty.ensures) c.from_key-rest.ensures

pub returns : goal.returns
returns g c = c.is_too_long.ensures ∙ pushed c.args.size c.args.key.now (entry_of c.args.put.now) (entries_of c.args.was.now) c.from_key-rest.result.now (sym c.if-eq.ensures) (sym c.if-is_empty.ensures) c.from_key-rest.ensures
