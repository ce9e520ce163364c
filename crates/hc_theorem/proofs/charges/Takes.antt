-- What a take, a result and a reclaim tell of charges, and whose calls wait for the fill that ends.
use Rattle.std.proofs.Common.{◌≡◌, ℕ, ◌+◌, Bool, true, false, List, [], ◌∷◌, ◌++◌, length, Option, Some, None, refl, ap, sym, subst}
use Rattle.std.specs.Prelude.{if◌then◌else◌}
use Rattle.hc_types.specs.Places.{is_small_by}
use Rattle.hc_types.specs.FlashEntry.{FlashEntry}
use Rattle.hc_engines.specs.Engine as engine
use Rattle.hc_engines.specs.Engine.{Put, Get, Delete, Loss, Outcome, Next, Busy, Io, Done}
use Rattle.hc_engines.specs.large.Block as block
use Rattle.hc_engines.specs.large.Steps as steps
use Rattle.hc_engines.specs.pair.Pair as pairs
use Rattle.hc_engines.specs.pair.Pair.{Pair}
use Rattle.hc_machine.specs.Nvm.{Nvm, Tombstone, Waiter, Fill, Task, Putting, Deleting, Filling, Flushing, Job, is_fill_of, fill_by, is_number_in, without_job, ordered, next_put, next_delete, next_fill, without_put, taken_stone, taken_fill}
use Rattle.hc_machine.specs.Leaving.{Changed}
use Rattle.hc_machine.specs.Takes as takes
use Rattle.hc_machine.specs.Takes.{Take, Finished, Filled, Taken, region_note, loss_notes, bucket_lost, raise, raise_all, holds, ends_with, written_note, closing_notes, settled, fill_out, finished, ends, launched, take_sized, take_put, take_delete, take_flush, take_fill, goes_on, reclaimed_by}
use Rattle.hc_invariant.specs.Tells.{waiters_of}
use Rattle.hc_follows.specs.Desk.{Adding}
use Rattle.hc_theorem.specs.clients.Matches.{AllTold}
use Rattle.hc_theorem.proofs.charges.Notes.{NoCharges, uncharged}
use Rattle.hc_laws.proofs.walk.Parts.{holds_leaves, settled_leaves, opened_too}
use Rattle.hc_theorem.proofs.charges.Pieces.{fill_told}

-- ---- what an outcome tells

holds_none : (outcome : Outcome) (nvm : Nvm) → NoCharges (holds outcome nvm).part
holds_none outcome nvm = opened_too uncharged outcome nvm (holds outcome nvm) (λ region. refl) (holds_leaves uncharged outcome nvm)

settled_none : (task : Task) (outcome : Outcome) (nvm : Nvm) → NoCharges (settled task outcome nvm).part
settled_none task outcome nvm = opened_too uncharged outcome nvm (settled task outcome nvm) (λ region. refl) (settled_leaves uncharged task outcome nvm)

holds_fills : (outcome : Outcome) (nvm : Nvm) → (holds outcome nvm).nvm.fills ≡ nvm.fills
holds_fills outcome nvm = go (bucket_lost outcome.losses)
  where
    go : (o : Option ℕ) → (raise_all o nvm).nvm.fills ≡ nvm.fills
    go None = refl
    go (Some bucket) = refl

-- ---- a fill that ends

-- one that ends does so with a take that is over, and the desk has the charges of its calls
abbrev pub FillTold : List Adding → Take → Option Filled → Type 0
FillTold adds take None = Unit {0}
FillTold adds take (Some filled) = (take ≡ Finished) × AllTold adds filled.waiters

pub record TakenSo (adds : List Adding) (taken : Taken) : Type 0 where
  pub none : NoCharges taken.part
  pub told : FillTold adds taken.take taken.filled

module _ (adds : List Adding) where
  pub ends_so : (number : ℕ) (task : Task) (outcome : Outcome) (nvm : Nvm) → AllTold adds (waiters_of nvm.fills) → TakenSo adds (ends number task outcome nvm)
  ends_so number task outcome nvm told = go task (settled task outcome nvm) (settled_none task outcome nvm) (subst (λ (fills : List Fill). AllTold adds (waiters_of fills)) (sym (holds_fills outcome nvm)) told)
    where
      out : (change : Changed) → NoCharges change.part → AllTold adds (waiters_of change.nvm.fills) → (o : Option Fill) → fill_by number change.nvm.fills ≡ o → TakenSo adds (fill_out o outcome.answer change)
      out change none told None e = record { none = none; told = tt }
      out change none told (Some one) e = record { none = none; told = (refl, fill_told adds (λ (fill : Fill). is_number_in number fill.job) change.nvm.fills one e told) }

      go : (t : Task) (change : Changed) → NoCharges change.part → AllTold adds (waiters_of change.nvm.fills) → TakenSo adds (finished t number outcome.answer change)
      go (Putting key) change none told = record { none = none; told = tt }
      go (Deleting key) change none told = record { none = none; told = tt }
      go Filling change none told = out change none told (fill_by number change.nvm.fills) refl
      go Flushing change none told = record { none = none; told = tt }

  idle_so : (nvm : Nvm) → TakenSo adds (takes.idle nvm)
  idle_so nvm = record { none = refl; told = tt }

  launched_so : (task : Task) (next : Next) (nvm : Nvm) → AllTold adds (waiters_of nvm.fills) → TakenSo adds (launched task next nvm)
  launched_so task Busy nvm told = idle_so nvm
  launched_so task (Io order outcome) nvm told = record { none = holds_none outcome (record nvm { jobs = nvm.jobs ++ record { number = nvm.made + 1; task = task; order = order } ∷ []; made = nvm.made + 1 }); told = tt }
  launched_so task (Done outcome) nvm told = ends_so (nvm.made + 1) task outcome nvm told

  -- ---- the filler

  marked_told : (key : List ℕ) (number : ℕ) (fills : List Fill) → waiters_of (taken_fill key number fills) ≡ waiters_of fills
  marked_told key number [] = refl
  marked_told key number (fill ∷ fills) = go (is_fill_of key fill) (marked_told key number fills)
    where
      go : (t : Bool) → waiters_of (taken_fill key number fills) ≡ waiters_of fills → ◌≡◌ {A = List Waiter} ((if t then record fill { job = Some number } else fill).waiters ++ waiters_of (taken_fill key number fills)) (fill.waiters ++ waiters_of fills)
      go true h = ap (λ ws. fill.waiters ++ ws) h
      go false h = ap (λ ws. fill.waiters ++ ws) h

  pub filler_so : (nvm : Nvm) → AllTold adds (waiters_of nvm.fills) → TakenSo adds (takes.filler_take nvm)
  filler_so nvm told = go (next_fill nvm)
    where
      go : (o : Option Fill) → TakenSo adds (take_fill o nvm)
      go None = idle_so nvm
      go (Some one) =
          let m = pairs.start (nvm.made + 1) (Get one.key) nvm.pair in
          launched_so Filling m.next (record nvm { pair = m.pair; fills = taken_fill one.key (nvm.made + 1) nvm.fills }) (subst (AllTold adds) (sym (marked_told one.key (nvm.made + 1) nvm.fills)) told)

  -- ---- a result

  pub went_so : (job : Job) (next : Next) (nvm : Nvm) → AllTold adds (waiters_of nvm.fills) → TakenSo adds (goes_on job next nvm)
  went_so job Busy nvm told = idle_so nvm
  went_so job (Io order outcome) nvm told = record { none = holds_none outcome (record nvm { jobs = ordered job.number order nvm.jobs }); told = tt }
  went_so job (Done outcome) nvm told = ends_so job.number job.task outcome (record nvm { jobs = without_job job.number nvm.jobs }) told

-- ---- the writer ends no fill

abbrev FillsNothing : Task → Type 0
FillsNothing Filling = ⊥
FillsNothing task = Unit {0}

pub record WriterSo (taken : Taken) : Type 0 where
  pub none : NoCharges taken.part
  pub unfilled : taken.filled ≡ None

written_so : (task : Task) (next : Next) (nvm : Nvm) → FillsNothing task → WriterSo (launched task next nvm)
written_so task Busy nvm other = record { none = refl; unfilled = refl }
written_so task (Io order outcome) nvm other = record { none = holds_none outcome (record nvm { jobs = nvm.jobs ++ record { number = nvm.made + 1; task = task; order = order } ∷ []; made = nvm.made + 1 }); unfilled = refl }
written_so task (Done outcome) nvm other = go task other (settled task outcome nvm) (settled_none task outcome nvm)
  where
    go : (t : Task) → FillsNothing t → (change : Changed) → NoCharges change.part → WriterSo (finished t (nvm.made + 1) outcome.answer change)
    go (Putting key) other change none = record { none = none; unfilled = refl }
    go (Deleting key) other change none = record { none = none; unfilled = refl }
    go Filling other change none = absurd other
    go Flushing other change none = record { none = none; unfilled = refl }

sized_so : (t : Bool) (put : FlashEntry) (nvm : Nvm) → WriterSo (take_sized t put nvm)
sized_so true put nvm = let m = pairs.start (nvm.made + 1) (Put put) nvm.pair in let q = written_so (Putting put.key) m.next (record nvm { pair = m.pair }) tt in record { none = q.none; unfilled = q.unfilled }
sized_so false put nvm = let m = pairs.start (nvm.made + 1) (Put put) nvm.pair in let q = written_so Flushing m.next (record nvm { pair = m.pair }) tt in record { none = q.none; unfilled = q.unfilled }

put_so : (o : Option FlashEntry) (nvm : Nvm) → WriterSo (take_put o nvm)
put_so None nvm = record { none = refl; unfilled = refl }
put_so (Some put) nvm = sized_so (is_small_by nvm.pair.small.flash put.key (length put.value)) put (record nvm { queue = without_put put.key nvm.queue })

delete_so : (o : Option Tombstone) (nvm : Nvm) → WriterSo (take_delete o nvm)
delete_so None nvm = put_so (next_put nvm) nvm
delete_so (Some stone) nvm =
    let m = pairs.start (nvm.made + 1) (Delete stone.key) nvm.pair in
    written_so (Deleting stone.key) m.next (record nvm { pair = m.pair; tombstones = taken_stone stone.key nvm.tombstones }) tt

flush_so : (next : Next) (pair : Pair) (nvm : Nvm) → WriterSo (take_flush next pair nvm)
flush_so (Io order outcome) pair nvm = written_so Flushing (Io order outcome) (record nvm { pair = pair }) tt
flush_so Busy pair nvm = delete_so (next_delete nvm) nvm
flush_so (Done outcome) pair nvm = delete_so (next_delete nvm) nvm

pub writer_so : (nvm : Nvm) → WriterSo (takes.writer_take nvm)
writer_so nvm = let m = pairs.start (nvm.made + 1) engine.Flush nvm.pair in flush_so m.next m.pair nvm

-- ---- reclaim

pub reclaim_none : (nvm : Nvm) → NoCharges (takes.reclaim nvm).change.part
reclaim_none nvm = by (steps.reclaim nvm.pair.small.flash nvm.pair.large).outcome.reclaimed
  where
    m : block.Moved
    m = steps.reclaim nvm.pair.small.flash nvm.pair.large

    by : (given : Option ℕ) → NoCharges (reclaimed_by given (steps.reclaim nvm.pair.small.flash nvm.pair.large) nvm).change.part
    by None = refl
    by (Some region) = settled_none Flushing m.outcome (record nvm { pair = record nvm.pair { large = m.state } })
