-- How the code's steps, answers and slots are seen.
use Rattle.std.specs.Prelude.{ℕ, Option, Some, None}
use Rattle.hc_flash.specs.Seen.{result_of}
use Rattle.hc_memory.specs.Item.{Handle}
use Rattle.hc_history.specs.Seen.{reply_of}
use Rattle.hc_nvm.specs.Seen.{take_of}
use Rattle.hc_machine.specs.Cache as cache
use Rattle.hc_machine.specs.World.{Says, Made}
use Rattle.hc_machine.specs.Schedule.{Deed, Open, Put, PutNew, Discard, Find, Remove, Reply, Tick, WriterTake, FillerTake, Reclaim, Io, Finish, Told, Tells, NoSlot, Filled}
use Rattle.hc_run.specs.declared.steps.Request.{Request}
use Rattle.hc_run.specs.declared.steps.Request.TheVariants as requests
use Rattle.hc_run.specs.declared.steps.Outcome.{Outcome}
use Rattle.hc_run.specs.declared.steps.Outcome.TheVariants as outcomes
use Rattle.hc_run.specs.declared.runs.Stopped.{Stopped}
use Rattle.hc_run.specs.declared.runs.Stopped.TheVariants as stops
use Rattle.hc_run.specs.declared.slots.Content.{Content}
use Rattle.hc_run.specs.declared.slots.Content.TheVariants as contents

abbrev pub deed_of : {A : Type 0} → Request A → Deed
deed_of (requests.Open slot pool key value ttl) = Open slot pool key value ttl
deed_of (requests.Put slot) = Put slot
deed_of (requests.PutNew slot) = PutNew slot
deed_of (requests.Discard slot) = Discard slot
deed_of (requests.Find key) = Find key
deed_of (requests.Remove key) = Remove key
deed_of (requests.Reply call) = Reply call
deed_of (requests.Tick moment) = Tick moment
deed_of requests.WriterTake = WriterTake
deed_of requests.FillerTake = FillerTake
deed_of requests.Reclaim = Reclaim
deed_of (requests.Io job fails) = Io job fails
deed_of (requests.Finish job) = Finish job

abbrev pub told_of : {A : Type 0} → Outcome A → Told
told_of (outcomes.Replied reply) = Tells (Says (cache.Replied (reply_of reply)))
told_of (outcomes.Waits call) = Tells (Says (cache.Waits call))
told_of (outcomes.Refused refusal) = Tells (Says (cache.Refused refusal))
told_of outcomes.NoSlot = NoSlot
told_of outcomes.Filled = Filled
told_of outcomes.Discarded = Tells (Says cache.Discarded)
told_of (outcomes.Moment now) = Tells (Says (cache.Moment now))
told_of (outcomes.Took take) = Tells (Says (cache.Took (take_of take)))
told_of (outcomes.Reclaimed region) = Tells (Says (cache.Reclaimed region))
told_of (outcomes.Made came failures) = Tells (Made (result_of came) failures)

-- before which step a run stopped
abbrev pub place_of : Option Stopped → Option ℕ
place_of None = None
place_of (Some (stops.NoMemory place)) = Some place
place_of (Some (stops.NotQuiet place)) = Some place

-- the handle that fills a slot
abbrev pub handle_of : {A : Type 0} → Content A → Option Handle
handle_of contents.Empty = None
handle_of (contents.Written blank) = Some blank
handle_of (contents.Ready sealed) = Some sealed
