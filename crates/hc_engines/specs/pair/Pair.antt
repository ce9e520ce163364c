-- Both engines as one: which of them an operation goes to, and a get that goes on from the one to the other.
use Rattle.std.specs.Prelude.{ℕ, ◌++◌, ◌||◌, Bool, true, false, List, [], length, Option, Some, None, is_some, option_map, replicate, if◌then◌else◌}
use Rattle.hc_types.specs.declared.config.FlashConfig.{FlashConfig}
use Rattle.hc_types.specs.Places.{kept_of, bucket_at, is_small_by}
use Rattle.hc_engines.specs.Engine.{Op, Put, Get, Delete, Flush, Reclaim, Order, IoResult, Page, Written, Failed, Answer, Absent, Loss, Outcome, Next, Io, Done}
use Rattle.hc_engines.specs.small.BigHash as bighash
use Rattle.hc_engines.specs.small.BigHash.{BigHash, could_hold, is_busy}
use Rattle.hc_engines.specs.large.Region.{clean_region}
use Rattle.hc_engines.specs.large.Index.{place_at}
use Rattle.hc_engines.specs.large.Block as block
use Rattle.hc_engines.specs.large.Block.{Block, Work, Writing, Getting, work_of}
use Rattle.hc_engines.specs.large.Steps as steps

pub record Pair : Type 0 where
  pub small : BigHash
  pub large : Block

pub record Moved : Type 0 where
  pub pair : Pair
  pub next : Next

abbrev pub new_pair : FlashConfig → Pair
new_pair flash = record {
  small = record { flash = flash; words = replicate flash.buckets None; jobs = [] };
  large = record { regions = replicate flash.regions clean_region; current = None; sealed = []; flushed = []; index = []; jobs = [] };
}

-- ---- what comes next of the large engine

-- its outcome, behind what was lost before it
abbrev pub after_losses : List Loss → Outcome → Outcome
after_losses before outcome = record outcome { losses = before ++ outcome.losses }

abbrev pub next_of : Outcome → Option Order → Next
next_of outcome None = Done outcome
next_of outcome (Some order) = Io order outcome

-- such a work waits for such a result
abbrev pub waits_for : Work → IoResult → Bool
waits_for (Writing region bytes) Written = true
waits_for (Writing region bytes) Failed = true
waits_for (Writing region bytes) (Page page) = false
waits_for (Getting reading) (Page page) = true
waits_for (Getting reading) Failed = true
waits_for (Getting reading) Written = false

-- ---- one engine of both moved

abbrev pub by_small : Pair → bighash.Moved → Moved
by_small pair moved = record { pair = record pair { small = moved.state }; next = moved.next }

abbrev pub by_large : Pair → List Loss → block.Moved → Moved
by_large pair before moved = record { pair = record pair { large = moved.state }; next = next_of (after_losses before moved.outcome) moved.order }

-- a get that found nothing in the small engine, or lost its bucket there, goes on with the large one
abbrev pub went_on : ℕ → List ℕ → Pair → Outcome → Answer → Moved
went_on number key pair outcome Absent = by_large pair outcome.losses (steps.get pair.small.flash number key pair.large)
went_on number key pair outcome answer = record { pair = pair; next = Done outcome }

abbrev pub then_large : ℕ → Op → Pair → Next → Moved
then_large number (Get key) pair (Done outcome) = went_on number key pair outcome outcome.answer
then_large number op pair next = record { pair = pair; next = next }

abbrev pub after_small : ℕ → Op → Moved → Moved
after_small number op moved = then_large number op moved.pair moved.next

-- ---- the two calls

-- an operation is started under this number
abbrev pub start : ℕ → Op → Pair → Moved
start number (Put e) pair =
    if is_small_by pair.small.flash e.key (length e.value) then by_small pair (bighash.start pair.small number (Put e))
    else by_large pair [] (steps.put pair.small.flash e pair.large)
start number (Get key) pair = after_small number (Get key) (by_small pair (bighash.start pair.small number (Get key)))
start number (Delete key) pair = by_small pair (bighash.start pair.small number (Delete key))
start number Flush pair = by_large pair [] (steps.flush pair.small.flash number pair.large)
start number Reclaim pair = by_large pair [] (steps.reclaim pair.small.flash pair.large)

abbrev pub resume_work : ℕ → IoResult → Pair → Work → Option Moved
resume_work number result pair work = if waits_for work result then Some (by_large pair [] (steps.resume pair.small.flash number work result pair.large)) else None

abbrev pub resume_large : ℕ → IoResult → Pair → Option Work → Option Moved
resume_large number result pair None = None
resume_large number result pair (Some work) = resume_work number result pair work

abbrev pub resume_in : ℕ → IoResult → Pair → Option bighash.Job → Option Moved
resume_in number result pair None = resume_large number result pair (work_of number pair.large.jobs)
resume_in number result pair (Some job) = option_map (λ moved. after_small number job.op (by_small pair moved)) (bighash.resume pair.small number result)

-- the result of this operation's order is handed in; none where nothing with this number waits for such a result
abbrev pub resume : ℕ → IoResult → Pair → Option Moved
resume number result pair = resume_in number result pair (bighash.job_at number pair.small.jobs)

-- ---- what is asked of both

abbrev pub hash_in : Pair → List ℕ → ℕ
hash_in pair key = kept_of pair.small.flash.bits key

abbrev pub bucket_in : Pair → List ℕ → ℕ
bucket_in pair key = bucket_at pair.small.flash key

-- the index leads somewhere from the key's kept hash
abbrev pub is_indexed : Pair → List ℕ → Bool
is_indexed pair key = is_some (place_at (hash_in pair key) pair.large.index)

-- an engine could have the key
abbrev pub could_have : Pair → List ℕ → Bool
could_have pair key = could_hold pair.small key || is_indexed pair key

abbrev pub take_index : List ℕ → Pair → Pair
take_index key pair = record pair { large = steps.take_index (hash_in pair key) pair.large }

-- a job is on the key's bucket
abbrev pub is_busy_for : Pair → List ℕ → Bool
is_busy_for pair key = is_busy (bucket_in pair key) pair.small.jobs
