-- The work of the workers: takes, reclaim, and results that are handed in.
use Rattle.std.specs.Prelude.{ℕ, ◌+◌, ◌==◌, Bool, true, false, not, List, [], ◌∷◌, ◌++◌, length, map, filter, Option, Some, None, option_map}
use Rattle.hc_types.specs.Loss as scopes
use Rattle.hc_types.specs.Places.{is_small_by}
use Rattle.hc_types.specs.FlashEntry.{FlashEntry}
use Rattle.hc_engines.specs.Engine as engine
use Rattle.hc_engines.specs.Engine.{Put, Get, Delete, Flush, Order, Read, Write, IoResult, Page, Written as WasWritten, Found, Loss, Outcome, Next, Busy, Io, Done}
use Rattle.hc_engines.specs.large.Block as block
use Rattle.hc_engines.specs.large.Steps as steps
use Rattle.hc_history.specs.Note.{Note, Lose, Unqueued, Writing, Written, Raised, Read as WasRead, Wrote, Opened, Flushed, Cleared}
use Rattle.hc_engines.specs.pair.Pair as pairs
use Rattle.hc_engines.specs.pair.Pair.{Pair, bucket_in}
use Rattle.hc_machine.specs.Nvm.{Nvm, Tombstone, Waiter, Fill, Task, Putting, Deleting, Filling, Flushing, Job, without_put, next_put, is_stone_of, taken_stone, next_delete, job_at, without_job, ordered, fill_by, without_fill, next_fill, taken_fill}
use Rattle.hc_machine.specs.Leaving.{Changed, changed, behind, and_then}

-- what a take is answered
pub data Take : Type 0 where
  -- there is nothing to do
  Idle : Take
  Finished : Take
  -- a job's order
  Work : (job : ℕ) (order : Order) → Take

-- a fill that is over: what was found, and the calls that wait for it
pub record Filled : Type 0 where
  pub entry : Option FlashEntry
  pub waiters : List Waiter

pub record Taken : Type 0 where
  pub nvm : Nvm
  pub take : Take
  pub part : List Note
  -- the fill that ended, unless it was an orphan
  pub filled : Option Filled

abbrev pub takes : Take → Changed → Taken
takes take change = record { nvm = change.nvm; take = take; part = change.part; filled = None }

abbrev pub idle : Nvm → Taken
idle nvm = takes Idle (changed [] nvm)

abbrev pub told_before : List Note → Taken → Taken
told_before part taken = record taken { part = part ++ taken.part }

-- ---- what an outcome tells

abbrev pub region_note : (ℕ → Note) → Option ℕ → List Note
region_note note None = []
region_note note (Some region) = note region ∷ []

abbrev pub loss_notes : List Loss → List Note
loss_notes losses = map (λ (loss : Loss). Lose loss.scope loss.cause) losses

-- the bucket that was given up
abbrev pub bucket_of : scopes.Scope → Option ℕ
bucket_of (scopes.Bucket bucket) = Some bucket
bucket_of scope = None

abbrev pub bucket_lost : List Loss → Option ℕ
bucket_lost [] = None
bucket_lost (loss ∷ losses) = bucket_of loss.scope

-- these tombstones end
abbrev pub raise : (Tombstone → Bool) → Nvm → Changed
raise test nvm = changed (map (λ (stone : Tombstone). Raised stone.key) (filter test nvm.tombstones)) (record nvm { tombstones = filter (λ stone. not (test stone)) nvm.tombstones })

-- those of a bucket that was given up
abbrev pub raise_all : Option ℕ → Nvm → Changed
raise_all None nvm = changed [] nvm
raise_all (Some bucket) nvm = raise (λ stone. bucket_in nvm.pair stone.key == bucket) nvm

-- what holds from here on
abbrev pub holds : Outcome → Nvm → Changed
holds outcome nvm = behind (region_note Opened outcome.opened ++ loss_notes outcome.losses) (raise_all (bucket_lost outcome.losses) nvm)

-- ---- an operation is over

abbrev pub ends_with : Task → Tombstone → Bool
ends_with (Deleting key) stone = is_stone_of key stone
ends_with task stone = false

abbrev pub written_note : Task → List Note
written_note (Putting key) = Written key ∷ []
written_note task = []

abbrev pub closing_notes : Task → Outcome → List Note
closing_notes task outcome = written_note task ++ (region_note Flushed outcome.flushed ++ region_note Cleared outcome.cleared)

abbrev pub settled : Task → Outcome → Nvm → Changed
settled task outcome nvm = and_then (holds outcome nvm) (λ nvm. and_then (raise (ends_with task) nvm) (changed (closing_notes task outcome)))

abbrev pub found_in : engine.Answer → Option FlashEntry
found_in (Found entry) = Some entry
found_in answer = None

abbrev pub fill_out : Option Fill → engine.Answer → Changed → Taken
fill_out None answer change = takes Finished change
fill_out (Some fill) answer change = record {
  nvm = record change.nvm { fills = without_fill fill.key change.nvm.fills };
  take = Finished;
  part = change.part;
  filled = Some (record { entry = found_in answer; waiters = fill.waiters });
}

abbrev pub finished : Task → ℕ → engine.Answer → Changed → Taken
finished Filling number answer change = fill_out (fill_by number change.nvm.fills) answer change
finished task number answer change = takes Finished change

abbrev pub ends : ℕ → Task → Outcome → Nvm → Taken
ends number task outcome nvm = finished task number outcome.answer (settled task outcome nvm)

-- ---- an operation begins

-- under the next number, which it keeps where it goes on with an order
abbrev pub launched : Task → Next → Nvm → Taken
launched task Busy nvm = idle nvm
launched task (Io order outcome) nvm =
    takes (Work (nvm.made + 1) order) (holds outcome (record nvm { jobs = nvm.jobs ++ record { number = nvm.made + 1; task = task; order = order } ∷ []; made = nvm.made + 1 }))
launched task (Done outcome) nvm = ends (nvm.made + 1) task outcome nvm

abbrev pub launch_by : Task → pairs.Moved → Nvm → Taken
launch_by task moved nvm = launched task moved.next (record nvm { pair = moved.pair })

abbrev pub launch : Task → engine.Op → Nvm → Taken
launch task op nvm = launch_by task (pairs.start (nvm.made + 1) op nvm.pair) nvm

-- ---- writer

-- a put is taken: a small one is being written from here on, and a large one is over at once
abbrev pub take_sized : Bool → FlashEntry → Nvm → Taken
take_sized true put nvm = told_before (Unqueued put.key ∷ Writing put.key ∷ []) (launch (Putting put.key) (Put put) nvm)
take_sized false put nvm = told_before (Unqueued put.key ∷ []) (launch Flushing (Put put) nvm)

abbrev pub take_put : Option FlashEntry → Nvm → Taken
take_put None nvm = idle nvm
take_put (Some put) nvm = take_sized (is_small_by nvm.pair.small.flash put.key (length put.value)) put (record nvm { queue = without_put put.key nvm.queue })

abbrev pub take_delete : Option Tombstone → Nvm → Taken
take_delete None nvm = take_put (next_put nvm) nvm
take_delete (Some stone) nvm = launch (Deleting stone.key) (Delete stone.key) (record nvm { tombstones = taken_stone stone.key nvm.tombstones })

-- a page of a region goes out, or else it is the turn of the deletes
abbrev pub take_flush : Next → Pair → Nvm → Taken
take_flush (Io order outcome) pair nvm = launched Flushing (Io order outcome) (record nvm { pair = pair })
take_flush next pair nvm = take_delete (next_delete nvm) nvm

abbrev pub take_page : pairs.Moved → Nvm → Taken
take_page moved nvm = take_flush moved.next moved.pair nvm

abbrev pub writer_take : Nvm → Taken
writer_take nvm = take_page (pairs.start (nvm.made + 1) Flush nvm.pair) nvm

-- ---- filler

abbrev pub take_fill : Option Fill → Nvm → Taken
take_fill None nvm = idle nvm
take_fill (Some fill) nvm = launch Filling (Get fill.key) (record nvm { fills = taken_fill fill.key (nvm.made + 1) nvm.fills })

abbrev pub filler_take : Nvm → Taken
filler_take nvm = take_fill (next_fill nvm) nvm

-- ---- reclaim

pub record Reclaiming : Type 0 where
  pub region : Option ℕ
  pub change : Changed

abbrev pub reclaimed_by : Option ℕ → block.Moved → Nvm → Reclaiming
reclaimed_by None moved nvm = record { region = None; change = changed [] nvm }
reclaimed_by (Some region) moved nvm = record {
  region = Some region;
  change = settled Flushing moved.outcome (record nvm { pair = record nvm.pair { large = moved.state } });
}

abbrev pub reclaimed : block.Moved → Nvm → Reclaiming
reclaimed moved nvm = reclaimed_by moved.outcome.reclaimed moved nvm

abbrev pub reclaim : Nvm → Reclaiming
reclaim nvm = reclaimed (steps.reclaim nvm.pair.small.flash nvm.pair.large) nvm

-- ---- finish

-- what is told of an order's result
abbrev pub result_note : Order → IoResult → Note
result_note (Read page) (Page bytes) = WasRead page (Some bytes)
result_note (Read page) result = WasRead page None
result_note (Write page bytes) WasWritten = Wrote page bytes true
result_note (Write page bytes) result = Wrote page bytes false

abbrev pub goes_on : Job → Next → Nvm → Taken
goes_on job Busy nvm = idle nvm
goes_on job (Io order outcome) nvm = takes (Work job.number order) (holds outcome (record nvm { jobs = ordered job.number order nvm.jobs }))
goes_on job (Done outcome) nvm = ends job.number job.task outcome (record nvm { jobs = without_job job.number nvm.jobs })

abbrev pub resumed : Job → IoResult → Nvm → pairs.Moved → Taken
resumed job result nvm moved = told_before (result_note job.order result ∷ []) (goes_on job moved.next (record nvm { pair = moved.pair }))

abbrev pub finish_job : Option Job → IoResult → Nvm → Option Taken
finish_job None result nvm = None
finish_job (Some job) result nvm = option_map (resumed job result nvm) (pairs.resume job.number result nvm.pair)

-- a result is handed in; none where no job has this number, or it doesn't wait for such a result
abbrev pub finish : ℕ → IoResult → Nvm → Option Taken
finish number result nvm = finish_job (job_at number nvm.jobs) result nvm
