-- The jobs against the operations that the engines have under way, and the fills.
use Rattle.std.specs.Prelude.{◌≡◌, ℕ, ◌<◌, ◌≤◌, Bool, true, false, ◌&&◌, List, [], ◌∷◌, Option, Some, None, is_some}
use Rattle.std.specs.List.{list_any}
use Rattle.hc_types.specs.Tally.{count}
use Rattle.hc_engines.specs.Engine.{Pages, Op, Get, Delete, Order, Read, Write}
use Rattle.hc_engines.specs.small.BigHash as bighash
use Rattle.hc_engines.specs.small.Held as small
use Rattle.hc_engines.specs.large.Region.{region_at, page_no}
use Rattle.hc_engines.specs.large.Index.{place_at, is_place}
use Rattle.hc_engines.specs.large.Held as large
use Rattle.hc_engines.specs.large.Block as block
use Rattle.hc_memory.specs.Item.{charge_by}
use Rattle.hc_memory.specs.Charges.{is_open}
use Rattle.hc_memory.specs.Memory.{Memory, linked_at}
use Rattle.hc_engines.specs.pair.Pair.{Pair, hash_in}
use Rattle.hc_machine.specs.Nvm.{Nvm, Tombstone, Wish, ToFind, ToAdd, Waiter, Fill, Task, Putting, Deleting, Filling, Flushing, Job, put_at, is_buried, is_stone_of, is_job, job_at, is_fill_of, is_number_in, adds}
use Rattle.hc_invariant.specs.Standing.{put_in, written_by}
use Rattle.hc_invariant.specs.Tells.{waiters_of}

-- ---- jobs

-- the key's tombstone stands, and its delete was taken
abbrev pub is_taken : List ℕ → List Tombstone → Bool
is_taken key stones = list_any (λ (stone : Tombstone). is_stone_of key stone && stone.taken) stones

abbrev pub IsGet : Op → Type 0
IsGet (Get key) = Unit {0}
IsGet op = ⊥

abbrev pub small_order : Pair → bighash.Job → Order
small_order pair job = small.order_of pair.small.flash.page job.bucket job.phase

abbrev pub large_order : Pair → block.Work → Order
large_order pair (block.Writing r bytes) = Write (page_no pair.small.flash r (region_at r pair.large.regions).written) bytes
large_order pair (block.Getting reading) = Read (page_no pair.small.flash reading.place.region reading.next)

-- a job's task and order are those of the operation that has its number in one engine, and in no other
abbrev pub RunsAs : Nvm → Task → Order → Option bighash.Job → Option block.Work → Type 0
RunsAs nvm (Putting key) order (Some job) None = (is_some (put_in key job.op) ≡ true) × (order ≡ small_order nvm.pair job)
-- the tombstone stands until its delete is over
RunsAs nvm (Deleting key) order (Some job) None = (job.op ≡ Delete key) × (is_taken key nvm.tombstones ≡ true) × (order ≡ small_order nvm.pair job)
RunsAs nvm Filling order (Some job) None = IsGet job.op × (order ≡ small_order nvm.pair job)
RunsAs nvm Filling order None (Some (block.Getting reading)) = order ≡ large_order nvm.pair (block.Getting reading)
RunsAs nvm Flushing order None (Some (block.Writing r bytes)) = order ≡ large_order nvm.pair (block.Writing r bytes)
RunsAs nvm task order job work = ⊥

abbrev pub small_job : Nvm → ℕ → Option bighash.Job
small_job nvm number = bighash.job_at number nvm.pair.small.jobs

abbrev pub large_work : Nvm → ℕ → Option block.Work
large_work nvm number = block.work_of number nvm.pair.large.jobs

abbrev pub AllRun : Nvm → List Job → Type 0
AllRun nvm [] = Unit {0}
AllRun nvm (job ∷ jobs) = RunsAs nvm job.task job.order (small_job nvm job.number) (large_work nvm job.number) × AllRun nvm jobs

pub record JobsRun (nvm : Nvm) : Type 0 where
  pub run : AllRun nvm nvm.jobs
  pub one : (n : ℕ) → count (is_job n) nvm.jobs ≤ 1
  pub fresh : (n : ℕ) → nvm.made < n → job_at n nvm.jobs ≡ None
  -- no engine has an operation that isn't a job's
  pub small_ones : (n : ℕ) → job_at n nvm.jobs ≡ None → small_job nvm n ≡ None
  pub large_ones : (n : ℕ) → job_at n nvm.jobs ≡ None → large_work nvm n ≡ None

-- ---- fills

-- an add that waits is of the key, and its charge is open
abbrev pub WishHolds : Memory → List ℕ → Wish → Type 0
WishHolds memory key ToFind = Unit {0}
WishHolds memory key (ToAdd handle) = (handle.key ≡ key) × (is_open (charge_by handle) memory.charges ≡ true)

abbrev pub AllWish : Memory → List ℕ → List Waiter → Type 0
AllWish memory key [] = Unit {0}
AllWish memory key (waiter ∷ waiters) = WishHolds memory key waiter.wish × AllWish memory key waiters

abbrev pub AllWishes : Memory → List Fill → Type 0
AllWishes memory [] = Unit {0}
AllWishes memory (fill ∷ fills) = AllWish memory fill.key fill.waiters × AllWishes memory fills

-- The operation that brings the key: a get of it in the small engine; or in the large one, and then the key is neither
-- being written nor in the small engine; it is where the read began, or not in the large one either.
abbrev pub Brings : Pages → Nvm → List ℕ → Option bighash.Job → Option block.Work → Type 0
Brings pages nvm key (Some job) None = job.op ≡ Get key
Brings pages nvm key None (Some (block.Getting reading)) =
    (reading.key ≡ key) × (written_by key nvm.pair.small.jobs ≡ None) × (small.held nvm.pair.small pages key ≡ None)
    × (is_place (place_at (hash_in nvm.pair key) nvm.pair.large.index) reading.place ≡ false → large.held nvm.pair.small.flash pages nvm.pair.large key ≡ None)
Brings pages nvm key job work = ⊥

abbrev pub BringsIf : Pages → Nvm → List ℕ → Option ℕ → Type 0
BringsIf pages nvm key None = Unit {0}
BringsIf pages nvm key (Some number) = Brings pages nvm key (small_job nvm number) (large_work nvm number)

-- a fill: its key stands on flash, on its way there, or nowhere
pub record FillHolds (pages : Pages) (memory : Memory) (nvm : Nvm) (fill : Fill) : Type 0 where
  pub unlinked : linked_at fill.key memory.pools ≡ None
  pub unqueued : put_at fill.key nvm.queue ≡ None
  pub unburied : is_buried nvm fill.key ≡ false
  pub wishes : AllWish memory fill.key fill.waiters
  pub brought : BringsIf pages nvm fill.key fill.job

abbrev pub AllFill : Pages → Memory → Nvm → List Fill → Type 0
AllFill pages memory nvm [] = Unit {0}
AllFill pages memory nvm (fill ∷ fills) = FillHolds pages memory nvm fill × AllFill pages memory nvm fills

pub record FillsHold (pages : Pages) (memory : Memory) (nvm : Nvm) : Type 0 where
  pub each : AllFill pages memory nvm nvm.fills
  pub one : (key : List ℕ) → count (is_fill_of key) nvm.fills ≤ 1
  pub one_each : (n : ℕ) → count (λ (fill : Fill). is_number_in n fill.job) nvm.fills ≤ 1
  -- no two adds have one charge
  pub one_add : (n : ℕ) → count (adds n) (waiters_of nvm.fills) ≤ 1
