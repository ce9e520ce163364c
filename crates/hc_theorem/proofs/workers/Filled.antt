-- What a take or a result leaves of the fills, and what becomes of the charges as the calls of a fill are served.
use Rattle.std.proofs.Common.{◌≡◌, ℕ, ◌+◌, ◌≤◌, cond, Bool, true, false, not, List, [], ◌∷◌, ◌++◌, length, Option, Some, None, refl, ap, sym, ◌∙◌, subst, arith}
use Rattle.std.specs.Prelude.{if◌then◌else◌}
use Rattle.hc_types.specs.Tally.{count}
use Rattle.hc_types.specs.Places.{is_small_by}
use Rattle.hc_types.proofs.Tallies.{tally-append}
use Rattle.hc_machine.proofs.items.Items.{bytes_eq-refl}
use Rattle.hc_types.specs.FlashEntry.{FlashEntry}
use Rattle.hc_engines.specs.Engine as engine
use Rattle.hc_engines.specs.Engine.{Put, Get, Delete, Outcome, Next, Busy, Io, Done}
use Rattle.hc_engines.specs.large.Block as block
use Rattle.hc_engines.specs.large.Steps as steps
use Rattle.hc_engines.specs.pair.Pair as pairs
use Rattle.hc_engines.specs.pair.Pair.{Pair}
use Rattle.hc_machine.specs.Nvm.{Nvm, Tombstone, Waiter, Fill, Task, Putting, Deleting, Filling, Flushing, Job, adds, is_fill_of, fill_by, is_number_in, without_fill, taken_fill, without_job, ordered, next_put, next_delete, next_fill, without_put, taken_stone}
use Rattle.hc_machine.specs.Leaving.{Changed}
use Rattle.hc_machine.specs.Takes as takes
use Rattle.hc_machine.specs.Takes.{Filled, bucket_lost, raise_all, holds, settled, fill_out, finished, ends, launched, take_sized, take_put, take_delete, take_flush, take_fill, goes_on, reclaimed_by}
use Rattle.hc_invariant.specs.Tells.{waiters_of}
use Rattle.hc_proof.proofs.calls.CallBooks.{left_counts}
use Rattle.hc_proof.proofs.frames.ByNumber.{count-map}
use Rattle.hc_proof.proofs.frames.Lists.{found-only}
use Rattle.hc_follows.specs.Desk.{Adding}
use Rattle.hc_theorem.specs.clients.Matches.{AllTold}
use Rattle.hc_theorem.proofs.clients.Adds.{fewer_told}

-- those who wait are as before, but for those of the fill that is over
abbrev pub FillsTaken : List Fill → Option Filled → List Fill → Type 0
FillsTaken old None new = waiters_of new ≡ waiters_of old
FillsTaken old (Some filled) new = ((n : ℕ) → count (adds n) (waiters_of old) ≡ count (adds n) filled.waiters + count (adds n) (waiters_of new)) × ((all : List Adding) → AllTold all (waiters_of old) → AllTold all (waiters_of new))

abbrev pub OneEach : List Fill → Type 0
OneEach fills = (key : List ℕ) → count (is_fill_of key) fills ≤ 1

-- ---- what holds from an outcome on leaves the fills

holds_fills : (outcome : Outcome) (nvm : Nvm) → (holds outcome nvm).nvm.fills ≡ nvm.fills
holds_fills outcome nvm = go (bucket_lost outcome.losses)
  where
    go : (o : Option ℕ) → (raise_all o nvm).nvm.fills ≡ nvm.fills
    go None = refl
    go (Some bucket) = refl

settled_fills : (task : Task) (outcome : Outcome) (nvm : Nvm) → (settled task outcome nvm).nvm.fills ≡ nvm.fills
settled_fills task outcome nvm = holds_fills outcome nvm

-- ---- an operation is over, or begins

ends_so : (number : ℕ) (task : Task) (outcome : Outcome) (nvm : Nvm) → OneEach nvm.fills → FillsTaken nvm.fills (ends number task outcome nvm).filled (ends number task outcome nvm).nvm.fills
ends_so number task outcome nvm one = go task (settled task outcome nvm) (settled_fills task outcome nvm)
  where
    out : (change : Changed) → change.nvm.fills ≡ nvm.fills → (o : Option Fill) → fill_by number change.nvm.fills ≡ o → FillsTaken nvm.fills (fill_out o outcome.answer change).filled (fill_out o outcome.answer change).nvm.fills
    out change same None e = ap waiters_of same
    out change same (Some fill) e =
        let fills = change.nvm.fills in
        let each : OneEach fills = subst OneEach (sym same) one in
        let at = found-only (λ (f : Fill). is_number_in number f.job) (is_fill_of fill.key) fills fill e (bytes_eq-refl fill.key) (each fill.key) in
        let counts : (n : ℕ) → count (adds n) (waiters_of fills) ≡ count (adds n) fill.waiters + count (adds n) (waiters_of (without_fill fill.key fills)) =
        λ n. omega (arith, left_counts (adds n) fill.key fills fill at (each fill.key), tally-append (λ (w : Waiter). cond (adds n w) 1 0) fill.waiters (waiters_of (without_fill fill.key fills))) in (
          λ n. ap (λ (fs : List Fill). count (adds n) (waiters_of fs)) (sym same) ∙ counts n,
          λ all told. fewer_told all (λ (f : Fill). not (is_fill_of fill.key f)) fills (subst (λ (fs : List Fill). AllTold all (waiters_of fs)) (sym same) told),
        )

    go : (t : Task) (change : Changed) → change.nvm.fills ≡ nvm.fills → FillsTaken nvm.fills (finished t number outcome.answer change).filled (finished t number outcome.answer change).nvm.fills
    go (Putting key) change same = ap waiters_of same
    go (Deleting key) change same = ap waiters_of same
    go Filling change same = out change same (fill_by number change.nvm.fills) refl
    go Flushing change same = ap waiters_of same

launched_so : (task : Task) (next : Next) (nvm : Nvm) → OneEach nvm.fills → FillsTaken nvm.fills (launched task next nvm).filled (launched task next nvm).nvm.fills
launched_so task Busy nvm one = refl
launched_so task (Io order outcome) nvm one = ap waiters_of (holds_fills outcome (record nvm { jobs = nvm.jobs ++ record { number = nvm.made + 1; task = task; order = order } ∷ []; made = nvm.made + 1 }))
launched_so task (Done outcome) nvm one = ends_so (nvm.made + 1) task outcome nvm one

sized_so : (t : Bool) (put : FlashEntry) (nvm : Nvm) → OneEach nvm.fills → FillsTaken nvm.fills (take_sized t put nvm).filled (take_sized t put nvm).nvm.fills
sized_so true put nvm one = let m = pairs.start (nvm.made + 1) (Put put) nvm.pair in launched_so (Putting put.key) m.next (record nvm { pair = m.pair }) one
sized_so false put nvm one = let m = pairs.start (nvm.made + 1) (Put put) nvm.pair in launched_so Flushing m.next (record nvm { pair = m.pair }) one

put_so : (o : Option FlashEntry) (nvm : Nvm) → OneEach nvm.fills → FillsTaken nvm.fills (take_put o nvm).filled (take_put o nvm).nvm.fills
put_so None nvm one = refl
put_so (Some put) nvm one = sized_so (is_small_by nvm.pair.small.flash put.key (length put.value)) put (record nvm { queue = without_put put.key nvm.queue }) one

delete_so : (o : Option Tombstone) (nvm : Nvm) → OneEach nvm.fills → FillsTaken nvm.fills (take_delete o nvm).filled (take_delete o nvm).nvm.fills
delete_so None nvm one = put_so (next_put nvm) nvm one
delete_so (Some stone) nvm one =
    let m = pairs.start (nvm.made + 1) (Delete stone.key) nvm.pair in
    launched_so (Deleting stone.key) m.next (record nvm { pair = m.pair; tombstones = taken_stone stone.key nvm.tombstones }) one

flush_so : (next : Next) (pair : Pair) (nvm : Nvm) → OneEach nvm.fills → FillsTaken nvm.fills (take_flush next pair nvm).filled (take_flush next pair nvm).nvm.fills
flush_so (Io order outcome) pair nvm one = launched_so Flushing (Io order outcome) (record nvm { pair = pair }) one
flush_so Busy pair nvm one = delete_so (next_delete nvm) nvm one
flush_so (Done outcome) pair nvm one = delete_so (next_delete nvm) nvm one

pub writer_fills : (nvm : Nvm) → OneEach nvm.fills → FillsTaken nvm.fills (takes.writer_take nvm).filled (takes.writer_take nvm).nvm.fills
writer_fills nvm one = let m = pairs.start (nvm.made + 1) engine.Flush nvm.pair in flush_so m.next m.pair nvm one

-- ---- the filler marks a fill as taken

marked_same : (key : List ℕ) (number : ℕ) (fills : List Fill) → waiters_of (taken_fill key number fills) ≡ waiters_of fills
marked_same key number [] = refl
marked_same key number (fill ∷ fills) = go (is_fill_of key fill) (marked_same key number fills)
  where
    go : (t : Bool) → waiters_of (taken_fill key number fills) ≡ waiters_of fills → ◌≡◌ {A = List Waiter} ((if t then record fill { job = Some number } else fill).waiters ++ waiters_of (taken_fill key number fills)) (fill.waiters ++ waiters_of fills)
    go true h = ap (λ ws. fill.waiters ++ ws) h
    go false h = ap (λ ws. fill.waiters ++ ws) h

marked_counts : (key k : List ℕ) (number : ℕ) (fills : List Fill) → count (is_fill_of k) (taken_fill key number fills) ≡ count (is_fill_of k) fills
marked_counts key k number fills = count-map (is_fill_of k) (λ (fill : Fill). if is_fill_of key fill then record fill { job = Some number } else fill) same fills
  where
    same : (fill : Fill) → is_fill_of k (if is_fill_of key fill then record fill { job = Some number } else fill) ≡ is_fill_of k fill
    same fill = go (is_fill_of key fill)
      where
        go : (t : Bool) → is_fill_of k (if t then record fill { job = Some number } else fill) ≡ is_fill_of k fill
        go true = refl
        go false = refl

-- from the fills with the mark to those without
unmarked : (old marked new : List Fill) (filled : Option Filled) → waiters_of marked ≡ waiters_of old → FillsTaken marked filled new → FillsTaken old filled new
unmarked old marked new None same h = h ∙ same
unmarked old marked new (Some filled) same h = (λ n. ap (count (adds n)) (sym same) ∙ h.0 n, λ all told. h.1 all (subst (AllTold all) (sym same) told))

pub filler_fills : (nvm : Nvm) → OneEach nvm.fills → FillsTaken nvm.fills (takes.filler_take nvm).filled (takes.filler_take nvm).nvm.fills
filler_fills nvm one = go (next_fill nvm)
  where
    go : (o : Option Fill) → FillsTaken nvm.fills (take_fill o nvm).filled (take_fill o nvm).nvm.fills
    go None = refl
    go (Some fill) =
        let m = pairs.start (nvm.made + 1) (Get fill.key) nvm.pair in
        let more = taken_fill fill.key (nvm.made + 1) nvm.fills in
        let each : OneEach more = λ key. omega (arith, marked_counts fill.key key (nvm.made + 1) nvm.fills, one key) in
        let taken = launched Filling m.next (record nvm { pair = m.pair; fills = more }) in
        unmarked nvm.fills more taken.nvm.fills taken.filled (marked_same fill.key (nvm.made + 1) nvm.fills) (launched_so Filling m.next (record nvm { pair = m.pair; fills = more }) each)

-- ---- a result, and a reclaim

pub went_fills : (job : Job) (next : Next) (nvm : Nvm) → OneEach nvm.fills → FillsTaken nvm.fills (goes_on job next nvm).filled (goes_on job next nvm).nvm.fills
went_fills job Busy nvm one = refl
went_fills job (Io order outcome) nvm one = ap waiters_of (holds_fills outcome (record nvm { jobs = ordered job.number order nvm.jobs }))
went_fills job (Done outcome) nvm one = ends_so job.number job.task outcome (record nvm { jobs = without_job job.number nvm.jobs }) one

pub reclaim_fills : (nvm : Nvm) → (takes.reclaim nvm).change.nvm.fills ≡ nvm.fills
reclaim_fills nvm = by (steps.reclaim nvm.pair.small.flash nvm.pair.large).outcome.reclaimed
  where
    m : block.Moved
    m = steps.reclaim nvm.pair.small.flash nvm.pair.large

    by : (given : Option ℕ) → (reclaimed_by given (steps.reclaim nvm.pair.small.flash nvm.pair.large) nvm).change.nvm.fills ≡ nvm.fills
    by None = refl
    by (Some region) = settled_fills Flushing m.outcome (record nvm { pair = record nvm.pair { large = m.state } })
