use Rattle.std.proofs.Common.{◌∙◌, Option, ap, sym}
use Rattle.hc_types.specs.FlashEntry.{FlashEntry, entries_of}
use Rattle.hc_bucket.specs.Putting.{is_pushed_out}
use Rattle.hc_judge_device.proofs.Pushed.{last_is}
use Rattle.hc_judge_device.proofs.pushing.is_pushed_out.Goals as goal

pub returns : goal.returns
returns g c = c.is_pushed_by.ensures ∙ ap (λ (put : Option FlashEntry). is_pushed_out c.args.size (entries_of c.args.was.now) put c.args.key.now) (sym (last_is c.index-put-put.result c.args.put.now (sym c.if-is_empty.ensures) c.index-put-put.is))
