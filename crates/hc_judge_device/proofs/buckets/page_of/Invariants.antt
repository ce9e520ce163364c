use Rattle.std.proofs.Common.{◌≡◌, [], take}
use Rattle.hc_types.specs.declared.config.FlashConfig.{FlashConfig}
use Rattle.hc_history.specs.Lawful.{past}
use Rattle.hc_history.specs.Pages.{bucket_entries}
use Rattle.hc_judge_device.specs.Reading.{entries_held}
use Rattle.hc_judge_device.proofs.buckets.page_of.Given as goal

abbrev pub invariant-loop-note : goal.invariant-loop-note
invariant-loop-note g l = (flash : FlashConfig) → entries_held flash.page l.page ≡ bucket_entries flash (past [] (take l.note-index l.notes)) l.bucket
