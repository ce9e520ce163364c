-- What each take leaves of the jobs, and what it tells.
use Rattle.std.proofs.Common.{◌≡◌, ℕ, ◌+◌, Bool, true, false, [], ◌∷◌, ◌++◌, length, Option, Some, None, refl, ap, sym, ◌∙◌, subst}
use Rattle.hc_types.specs.Places.{is_small_by}
use Rattle.hc_types.specs.FlashEntry.{FlashEntry}
use Rattle.hc_engines.specs.Engine as engine
use Rattle.hc_engines.specs.Engine.{Put, Get, Delete, Outcome, Next, Busy, Io, Done}
use Rattle.hc_engines.specs.large.Block as block
use Rattle.hc_engines.specs.large.Steps as steps
use Rattle.hc_engines.specs.pair.Pair as pairs
use Rattle.hc_engines.specs.pair.Pair.{Pair}
use Rattle.hc_machine.specs.Nvm.{Nvm, Tombstone, Fill, Task, Putting, Deleting, Filling, Flushing, Job, without_job, ordered, fill_by, next_put, next_delete, next_fill, without_put, taken_stone, taken_fill}
use Rattle.hc_machine.specs.Leaving.{Changed}
use Rattle.hc_machine.specs.Takes as takes
use Rattle.hc_machine.specs.Takes.{Take, Idle, Finished, Work, Taken, region_note, fill_out, finished, ends, settled, holds, launched, take_sized, take_put, take_delete, take_flush, take_fill, reclaimed_by, goes_on}
use Rattle.hc_machine.specs.Cache.{Cache, takes_in}
use Rattle.hc_machine.specs.Workers.{fill, after_take}
use Rattle.hc_machine.specs.Quiet.{jobs_in}
use Rattle.hc_laws.specs.Walking.{LeavesBehind}
use Rattle.hc_laws.proofs.walk.Parts.{none_both, as_aside, as_flash, holds_leaves, settled_leaves, opened_too, fill_leaves}
use Rattle.hc_theorem.specs.idle.Still.{StillNvm}
use Rattle.hc_theorem.specs.idle.Takings.{is_of_calls, AllMute, JobsTaken, TakenSo, JobsWent, WentSo}
use Rattle.hc_theorem.proofs.idle.StillParts.{mute, still_jobs}

-- ---- notes

mute-behind : (outcome : Outcome) (nvm : Nvm) (change : Changed) → LeavesBehind is_of_calls StillNvm outcome nvm change → AllMute change.part
mute-behind outcome nvm change b = opened_too (as_flash (as_aside mute)) outcome nvm change (λ region. refl) b

-- ---- an operation is over, or begins

pub record EndsSo (nvm : Nvm) (taken : Taken) : Type 0 where
  pub mute : AllMute taken.part
  pub take : taken.take ≡ Finished
  pub jobs : taken.nvm.jobs ≡ nvm.jobs

pub ends_so : (number : ℕ) (task : Task) (outcome : Outcome) (nvm : Nvm) → EndsSo nvm (ends number task outcome nvm)
ends_so number task outcome nvm = go task (settled task outcome nvm) (mute-behind outcome nvm _ b) b.flash.jobs
  where
    b : LeavesBehind is_of_calls StillNvm outcome nvm (settled task outcome nvm)
    b = settled_leaves (as_flash (as_aside mute)) task outcome nvm

    out : (o : Option Fill) (change : Changed) → AllMute change.part → change.nvm.jobs ≡ nvm.jobs → EndsSo nvm (fill_out o outcome.answer change)
    out None change m j = record { mute = m; take = refl; jobs = j }
    out (Some one) change m j = record { mute = m; take = refl; jobs = j }

    go : (t : Task) (change : Changed) → AllMute change.part → change.nvm.jobs ≡ nvm.jobs → EndsSo nvm (finished t number outcome.answer change)
    go (Putting key) change m j = record { mute = m; take = refl; jobs = j }
    go (Deleting key) change m j = record { mute = m; take = refl; jobs = j }
    go Filling change m j = out (fill_by number change.nvm.fills) change m j
    go Flushing change m j = record { mute = m; take = refl; jobs = j }

ended_jobs : (nvm : Nvm) (taken : Taken) → EndsSo nvm taken → JobsTaken nvm taken.take taken.nvm.jobs
ended_jobs nvm taken e = subst (λ (t : Take). JobsTaken nvm t taken.nvm.jobs) (sym e.take) e.jobs

idle_so : (nvm : Nvm) → TakenSo nvm (takes.idle nvm)
idle_so nvm = record { mute = refl; jobs = refl }

pub launched_so : (task : Task) (next : Next) (nvm : Nvm) → TakenSo nvm (launched task next nvm)
launched_so task Busy nvm = idle_so nvm
launched_so task (Io order outcome) nvm =
    let more : Nvm = record nvm { jobs = nvm.jobs ++ record { number = nvm.made + 1; task = task; order = order } ∷ []; made = nvm.made + 1 } in
    let b = holds_leaves (as_flash (as_aside mute)) outcome more in
    record { mute = mute-behind outcome more (holds outcome more) b; jobs = (task, refl, b.flash.jobs) }
launched_so task (Done outcome) nvm = let e = ends_so (nvm.made + 1) task outcome nvm in record { mute = e.mute; jobs = ended_jobs nvm (ends (nvm.made + 1) task outcome nvm) e }

-- with the same jobs and the same number of them
same_jobs : (nvm other : Nvm) (taken : Taken) → other.jobs ≡ nvm.jobs → other.made ≡ nvm.made → TakenSo other taken → TakenSo nvm taken
same_jobs nvm other taken j m t = record { mute = t.mute; jobs = go taken.take t.jobs }
  where
    go : (take : Take) → JobsTaken other take taken.nvm.jobs → JobsTaken nvm take taken.nvm.jobs
    go Idle h = h ∙ j
    go Finished h = h ∙ j
    go (Work number order) h = (h.0, h.1 ∙ ap (λ n. n + 1) m, h.2 ∙ ap (λ jobs. jobs ++ record { number = number; task = h.0; order = order } ∷ []) j)

sized_so : (t : Bool) (put : FlashEntry) (nvm : Nvm) → TakenSo nvm (take_sized t put nvm)
sized_so true put nvm = let m = pairs.start (nvm.made + 1) (Put put) nvm.pair in let q = same_jobs nvm (record nvm { pair = m.pair }) _ refl refl (launched_so (Putting put.key) m.next (record nvm { pair = m.pair })) in record { mute = q.mute; jobs = q.jobs }
sized_so false put nvm = let m = pairs.start (nvm.made + 1) (Put put) nvm.pair in let q = same_jobs nvm (record nvm { pair = m.pair }) _ refl refl (launched_so Flushing m.next (record nvm { pair = m.pair })) in record { mute = q.mute; jobs = q.jobs }

put_so : (o : Option FlashEntry) (nvm : Nvm) → TakenSo nvm (take_put o nvm)
put_so None nvm = idle_so nvm
put_so (Some put) nvm = let less : Nvm = record nvm { queue = without_put put.key nvm.queue } in same_jobs nvm less _ refl refl (sized_so (is_small_by nvm.pair.small.flash put.key (length put.value)) put less)

delete_so : (o : Option Tombstone) (nvm : Nvm) → TakenSo nvm (take_delete o nvm)
delete_so None nvm = put_so (next_put nvm) nvm
delete_so (Some stone) nvm =
    let m = pairs.start (nvm.made + 1) (Delete stone.key) nvm.pair in
    let taken : Nvm = record nvm { pair = m.pair; tombstones = taken_stone stone.key nvm.tombstones } in
    same_jobs nvm taken _ refl refl (launched_so (Deleting stone.key) m.next taken)

flush_so : (next : Next) (pair : Pair) (nvm : Nvm) → TakenSo nvm (take_flush next pair nvm)
flush_so (Io order outcome) pair nvm = same_jobs nvm (record nvm { pair = pair }) _ refl refl (launched_so Flushing (Io order outcome) (record nvm { pair = pair }))
flush_so Busy pair nvm = delete_so (next_delete nvm) nvm
flush_so (Done outcome) pair nvm = delete_so (next_delete nvm) nvm

pub writer_so : (nvm : Nvm) → TakenSo nvm (takes.writer_take nvm)
writer_so nvm = let m = pairs.start (nvm.made + 1) engine.Flush nvm.pair in flush_so m.next m.pair nvm

pub filler_so : (nvm : Nvm) → TakenSo nvm (takes.filler_take nvm)
filler_so nvm = go (next_fill nvm)
  where
    go : (o : Option Fill) → TakenSo nvm (take_fill o nvm)
    go None = idle_so nvm
    go (Some one) =
        let m = pairs.start (nvm.made + 1) (Get one.key) nvm.pair in
        let taken : Nvm = record nvm { pair = m.pair; fills = taken_fill one.key (nvm.made + 1) nvm.fills } in
        same_jobs nvm taken _ refl refl (launched_so Filling m.next taken)

-- ---- a result

pub goes_on_so : (job : Job) (next : Next) (nvm : Nvm) → (next ≡ Busy → ⊥) → WentSo job.number nvm (goes_on job next nvm)
goes_on_so job Busy nvm not_busy = absurd (not_busy refl)
goes_on_so job (Io order outcome) nvm not_busy =
    let more : Nvm = record nvm { jobs = ordered job.number order nvm.jobs } in
    let b = holds_leaves (as_flash (as_aside mute)) outcome more in
    record { mute = mute-behind outcome more (holds outcome more) b; jobs = (refl, b.flash.jobs) }
goes_on_so job (Done outcome) nvm not_busy =
    let less : Nvm = record nvm { jobs = without_job job.number nvm.jobs } in
    let e = ends_so job.number job.task outcome less in
    record { mute = e.mute; jobs = subst (λ (t : Take). JobsWent job.number nvm.jobs t (ends job.number job.task outcome less).nvm.jobs) (sym e.take) e.jobs }

-- ---- reclaim

pub record ReclaimSo (nvm : Nvm) (change : Changed) : Type 0 where
  pub mute : AllMute change.part
  pub jobs : change.nvm.jobs ≡ nvm.jobs

pub reclaim_so : (nvm : Nvm) → ReclaimSo nvm (takes.reclaim nvm).change
reclaim_so nvm = by (steps.reclaim nvm.pair.small.flash nvm.pair.large).outcome.reclaimed
  where
    m : block.Moved
    m = steps.reclaim nvm.pair.small.flash nvm.pair.large

    by : (given : Option ℕ) → ReclaimSo nvm (reclaimed_by given (steps.reclaim nvm.pair.small.flash nvm.pair.large) nvm).change
    by None = record { mute = refl; jobs = refl }
    by (Some region) =
        let less : Nvm = record nvm { pair = record nvm.pair { large = m.state } } in
        let b = settled_leaves (as_flash (as_aside mute)) Flushing m.outcome less in
        record { mute = mute-behind m.outcome less (settled Flushing m.outcome less) b; jobs = b.flash.jobs }

-- ---- what a take leaves behind is done

pub after_mute : (taken : Taken) (cache : Cache) → AllMute taken.part → AllMute (after_take taken cache).part
after_mute taken cache h =
    let base = (takes_in taken.part taken.nvm cache).cache in
    none_both is_of_calls taken.part (fill taken.filled base).part h (fill_leaves mute taken.filled base).none

pub after_jobs : (taken : Taken) (cache : Cache) → jobs_in (after_take taken cache).cache.nvm ≡ taken.nvm.jobs
after_jobs taken cache =
    let base = (takes_in taken.part taken.nvm cache).cache in
    still_jobs (Some taken.nvm) (fill taken.filled base).cache.nvm (fill_leaves mute taken.filled base).flash
