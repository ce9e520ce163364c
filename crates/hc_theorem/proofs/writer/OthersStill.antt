-- Other puts wait and other tombstones stand: the jobs and the fills stay.
use Rattle.std.proofs.Common.{◌≡◌, ℕ, true, false, List, [], ◌∷◌, Option, Some, None}
use Rattle.hc_types.specs.FlashEntry.{FlashEntry}
use Rattle.hc_engines.specs.Engine.{Order, Pages}
use Rattle.hc_engines.specs.small.BigHash as bighash
use Rattle.hc_engines.specs.large.Block as block
use Rattle.hc_memory.specs.Memory.{Memory}
use Rattle.hc_machine.specs.Nvm.{Nvm, Tombstone, Fill, Task, Putting, Deleting, Filling, Flushing, Job, put_at}
use Rattle.hc_invariant.specs.Jobs.{is_taken, small_job, large_work, RunsAs, AllRun, JobsRun, Brings, BringsIf, AllFill, FillsHold}
use Rattle.hc_invariant.proofs.Lookups.{stands_in}

abbrev pub with_lists : Nvm → List FlashEntry → List Tombstone → Nvm
with_lists nvm queue stones = record nvm { queue = queue; tombstones = stones }

runs_lists : (nvm : Nvm) (queue : List FlashEntry) (stones : List Tombstone) → ((key : List ℕ) → is_taken key nvm.tombstones ≡ true → is_taken key stones ≡ true)
    → (task : Task) (order : Order) (job : Option bighash.Job) (work : Option block.Work) → RunsAs nvm task order job work → RunsAs (with_lists nvm queue stones) task order job work
runs_lists nvm queue stones taken (Putting key) order (Some job) None h = h
runs_lists nvm queue stones taken (Deleting key) order (Some job) None h = (h.0, taken key h.1, h.2)
runs_lists nvm queue stones taken Filling order (Some job) None h = h
runs_lists nvm queue stones taken Filling order None (Some (block.Getting reading)) h = h
runs_lists nvm queue stones taken Flushing order None (Some (block.Writing r bytes)) h = h
runs_lists nvm queue stones taken task order job work h = absurd h

pub jobs_stay : (nvm : Nvm) (queue : List FlashEntry) (stones : List Tombstone) → JobsRun nvm → ((key : List ℕ) → is_taken key nvm.tombstones ≡ true → is_taken key stones ≡ true) → JobsRun (with_lists nvm queue stones)
jobs_stay nvm queue stones j taken = record { run = each nvm.jobs j.run; one = j.one; fresh = j.fresh; small_ones = j.small_ones; large_ones = j.large_ones }
  where
    each : (jobs : List Job) → AllRun nvm jobs → AllRun (with_lists nvm queue stones) jobs
    each [] h = tt
    each (job ∷ jobs) h = (runs_lists nvm queue stones taken job.task job.order (small_job nvm job.number) (large_work nvm job.number) h.0, each jobs h.1)

brings_lists : (pages : Pages) (nvm : Nvm) (queue : List FlashEntry) (stones : List Tombstone) (key : List ℕ) (a : Option bighash.Job) (w : Option block.Work) → Brings pages nvm key a w → Brings pages (with_lists nvm queue stones) key a w
brings_lists pages nvm queue stones key (Some job) None h = h
brings_lists pages nvm queue stones key None (Some (block.Getting reading)) h = h
brings_lists pages nvm queue stones key a w h = absurd h

brings_if : (pages : Pages) (nvm : Nvm) (queue : List FlashEntry) (stones : List Tombstone) (key : List ℕ) (job : Option ℕ) → BringsIf pages nvm key job → BringsIf pages (with_lists nvm queue stones) key job
brings_if pages nvm queue stones key None h = tt
brings_if pages nvm queue stones key (Some number) h = brings_lists pages nvm queue stones key (small_job nvm number) (large_work nvm number) h

pub fills_stay : (pages : Pages) (memory : Memory) (nvm : Nvm) (queue : List FlashEntry) (stones : List Tombstone) → FillsHold pages memory nvm
    → ((key : List ℕ) → put_at key nvm.queue ≡ None → put_at key queue ≡ None) → ((key : List ℕ) → stands_in key nvm.tombstones ≡ false → stands_in key stones ≡ false) → FillsHold pages memory (with_lists nvm queue stones)
fills_stay pages memory nvm queue stones f unqueued unburied = record { each = each nvm.fills f.each; one = f.one; one_each = f.one_each; one_add = f.one_add }
  where
    each : (fills : List Fill) → AllFill pages memory nvm fills → AllFill pages memory (with_lists nvm queue stones) fills
    each [] h = tt
    each (fill ∷ fills) h = (
      record {
        unlinked = h.0.unlinked;
        unqueued = unqueued fill.key h.0.unqueued;
        unburied = unburied fill.key h.0.unburied;
        wishes = h.0.wishes;
        brought = brings_if pages nvm queue stones fill.key fill.job h.0.brought;
      },
      each fills h.1,
    )
