use Rattle.std.proofs.Common.{sym}
use Rattle.hc_run.proofs.Slotting.{put-back}
use Rattle.hc_run.proofs.slots.take_sealed.Goals as goal

pub returns-in-Err-clause-err : goal.returns-in-Err-clause-err
returns-in-Err-clause-err g c =
    put-back c.args.slots.now.items c.take.new.slots.items c.fill.new.slots.items c.args.slot c.in-Written.blank c.in-Err.blank (sym c.in-Written.ensures.content) c.take.ensures.slots c.in-Err.ensures.err c.fill.ensures
