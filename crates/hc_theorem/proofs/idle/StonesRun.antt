-- A key whose tombstone is taken is being deleted: each step keeps that.
use Rattle.std.proofs.Common.{◌≡◌, inl, inr, ℕ, ◌+◌, ◌≤◌, Bool, true, false, not, ◌&&◌, ◌||◌, List, [], ◌∷◌, ◌++◌, length, filter, Option, Some, None, refl, ap, sym, ◌∙◌, arith}
use Rattle.std.proofs.lemmas.Bool.{or_right}
use Rattle.std.specs.Prelude.{if◌then◌else◌, ◌⊎◌}
use Rattle.std.specs.Str.{bytes_eq}
use Rattle.hc_types.specs.Tally.{count}
use Rattle.hc_types.specs.Places.{bucket_at, is_small_by}
use Rattle.hc_types.specs.FlashEntry.{FlashEntry}
use Rattle.hc_engines.specs.Engine as engine
use Rattle.hc_engines.specs.Engine.{Put, Get, Delete, Flush, Outcome, Next, Busy, Io, Done}
use Rattle.hc_engines.specs.small.BigHash as bighash
use Rattle.hc_engines.specs.large.Steps as steps
use Rattle.hc_engines.specs.pair.Pair as pairs
use Rattle.hc_engines.specs.pair.Pair.{Pair}
use Rattle.hc_machine.specs.Nvm.{Nvm, Tombstone, Fill, Task, Putting, Deleting, Filling, Flushing, Job, is_job, job_at, without_job, ordered, is_stone_of, fill_by, next_put, next_delete, next_fill, without_put, taken_stone, taken_fill}
use Rattle.hc_machine.specs.Leaving.{Changed}
use Rattle.hc_machine.specs.Takes as takes
use Rattle.hc_machine.specs.Takes.{holds, settled, ends_with, fill_out, finished, ends, launched, take_sized, take_put, take_delete, take_flush, take_fill, goes_on, reclaimed_by}
use Rattle.hc_invariant.specs.Jobs.{is_taken, JobsRun}
use Rattle.hc_proof.proofs.frames.Lists.{any-push}
use Rattle.hc_memory.proofs.Keyed.{same_bytes}
use Rattle.hc_proof.proofs.frames.ByNumber.{found-passes}
use Rattle.hc_theorem.proofs.writer.SmallStarts.{waits_so, ends_so, delete_starts}
use Rattle.hc_laws.specs.Serving.{can_delete}
use Rattle.hc_theorem.specs.idle.Still.{StillNvm}
use Rattle.hc_theorem.specs.idle.Stones.{deletes, is_deleting, StonesRun, StonesBut}
use Rattle.hc_laws.proofs.walk.Parts.{holds_leaves, settled_leaves}
use Rattle.hc_theorem.proofs.idle.StillParts.{still}
use Rattle.hc_theorem.proofs.idle.Idle.{both-not}

-- ---- what leaves jobs and tombstones as they are

pub still_stones : (old new : Nvm) → StillNvm old new → StonesRun old → StonesRun new
still_stones old new s r key h = ap (is_deleting key) s.jobs ∙ r key (s.taken key h)

still_but : (task : Task) (old new : Nvm) → StillNvm old new → StonesBut task old → StonesBut task new
still_but task old new s r key h = ap (λ jobs. deletes key task || is_deleting key jobs) s.jobs ∙ r key (s.taken key h)

pub but_run : (task : Task) (nvm : Nvm) → StonesRun nvm → StonesBut task nvm
but_run task nvm r key h = or_right (deletes key task) (is_deleting key nvm.jobs) (r key h)

-- ---- an operation is over: its own tombstone is gone

left_apart : (k key : List ℕ) (stones : List Tombstone) → is_taken key (filter (λ (stone : Tombstone). not (is_stone_of k stone)) stones) ≡ true → bytes_eq k key ≡ false
left_apart k key [] h = absurd cc
left_apart k key (stone ∷ stones) h = go (is_stone_of k stone) refl h (bytes_eq k key) refl (left_apart k key stones)
  where
    go : (t : Bool) → is_stone_of k stone ≡ t → is_taken key (if not t then stone ∷ filter (λ (stone : Tombstone). not (is_stone_of k stone)) stones else filter (λ (stone : Tombstone). not (is_stone_of k stone)) stones) ≡ true → (u : Bool) → bytes_eq k key ≡ u
        → (is_taken key (filter (λ (stone : Tombstone). not (is_stone_of k stone)) stones) ≡ true → bytes_eq k key ≡ false) → u ≡ false
    go t e h false u more = refl
    go true e h true u more = sym u ∙ more h
    go false e h true u more =
        let same : k ≡ key = same_bytes k key u in
        let not_it : is_stone_of key stone ≡ false = ap (λ x. is_stone_of x stone) (sym same) ∙ e in
        sym u ∙ more (rw not_it at h)

apart_deletes : (task : Task) (key : List ℕ) (stones : List Tombstone) → is_taken key (filter (λ (stone : Tombstone). not (ends_with task stone)) stones) ≡ true → deletes key task ≡ false
apart_deletes (Putting k) key stones h = refl
apart_deletes (Deleting k) key stones h = left_apart k key stones h
apart_deletes Filling key stones h = refl
apart_deletes Flushing key stones h = refl

settled_run : (task : Task) (outcome : Outcome) (nvm : Nvm) → StonesBut task nvm → StonesRun (settled task outcome nvm).nvm
settled_run task outcome nvm r key h =
    let b = settled_leaves still task outcome nvm in
    let apart : deletes key task ≡ false = apart_deletes task key (holds outcome nvm).nvm.tombstones h in
    let all = still_but task nvm (settled task outcome nvm).nvm b.flash r key h in
    (rw apart at all)

ends_run : (number : ℕ) (task : Task) (outcome : Outcome) (nvm : Nvm) → StonesBut task nvm → StonesRun (ends number task outcome nvm).nvm
ends_run number task outcome nvm r = go task (settled task outcome nvm) (settled_run task outcome nvm r)
  where
    out : (o : Option Fill) (change : Changed) → StonesRun change.nvm → StonesRun (fill_out o outcome.answer change).nvm
    out None change h = h
    out (Some one) change h = h

    go : (t : Task) (change : Changed) → StonesRun change.nvm → StonesRun (finished t number outcome.answer change).nvm
    go (Putting key) change h = h
    go (Deleting key) change h = h
    go Filling change h = out (fill_by number change.nvm.fills) change h
    go Flushing change h = h

pub launched_run : (task : Task) (next : Next) (nvm : Nvm) → (next ≡ Busy → StonesRun nvm) → StonesBut task nvm → StonesRun (launched task next nvm).nvm
launched_run task Busy nvm busy r = busy refl
launched_run task (Io order outcome) nvm busy r =
    let job : Job = record { number = nvm.made + 1; task = task; order = order } in
    let more : Nvm = record nvm { jobs = nvm.jobs ++ job ∷ []; made = nvm.made + 1 } in
    let pushed : StonesRun more = λ key h. any-push (λ (j : Job). deletes key j.task) nvm.jobs job ∙ turned (deletes key task) (is_deleting key nvm.jobs) (r key h) in
    still_stones more (holds outcome more).nvm (holds_leaves still outcome more).flash pushed
  where
    turned : (a b : Bool) → (a || b) ≡ true → (b || a) ≡ true
    turned true true h = refl
    turned true false h = refl
    turned false b h = let both : (b || false) ≡ b = swap b in both ∙ h
      where
        swap : (b : Bool) → (b || false) ≡ b
        swap true = refl
        swap false = refl
launched_run task (Done outcome) nvm busy r = ends_run (nvm.made + 1) task outcome nvm r

-- ---- a job's result

list_same : (key : List ℕ) (number : ℕ) (order : engine.Order) (jobs : List Job) → is_deleting key (ordered number order jobs) ≡ is_deleting key jobs
list_same key number order [] = refl
list_same key number order (x ∷ jobs) = go (is_job number x) (list_same key number order jobs)
  where
    go : (t : Bool) → is_deleting key (ordered number order jobs) ≡ is_deleting key jobs → (deletes key (if t then record x { order = order } else x).task || is_deleting key (ordered number order jobs)) ≡ (deletes key x.task || is_deleting key jobs)
    go true h = ap (λ b. deletes key x.task || b) h
    go false h = ap (λ b. deletes key x.task || b) h

none_of : (number : ℕ) (jobs : List Job) → count (is_job number) jobs ≡ 0 → without_job number jobs ≡ jobs
none_of number [] h = refl
none_of number (x ∷ jobs) h = go (is_job number x) refl h (none_of number jobs)
  where
    go : (t : Bool) → is_job number x ≡ t → (if t then 1 else 0) + count (is_job number) jobs ≡ 0 → (count (is_job number) jobs ≡ 0 → without_job number jobs ≡ jobs) → (if not t then x ∷ without_job number jobs else without_job number jobs) ≡ x ∷ jobs
    go true e h more = absurd (omega (arith, h))
    go false e h more = ap (λ xs. x ∷ xs) (more (omega (arith, h)))

goes_out : (key : List ℕ) (number : ℕ) (jobs : List Job) (job : Job) → job_at number jobs ≡ Some job → count (is_job number) jobs ≤ 1 → is_deleting key jobs ≡ true → (deletes key job.task || is_deleting key (without_job number jobs)) ≡ true
goes_out key number [] job at one h = absurd cc
goes_out key number (x ∷ jobs) job at one h = go (is_job number x) refl at one (goes_out key number jobs job)
  where
    go : (t : Bool) → is_job number x ≡ t → (if t then Some x else job_at number jobs) ≡ Some job → (if t then 1 else 0) + count (is_job number) jobs ≤ 1
        → (job_at number jobs ≡ Some job → count (is_job number) jobs ≤ 1 → is_deleting key jobs ≡ true → (deletes key job.task || is_deleting key (without_job number jobs)) ≡ true)
        → (deletes key job.task || is_deleting key (if not t then x ∷ without_job number jobs else without_job number jobs)) ≡ true
    go true e at one more =
        let same : x ≡ job = cc in
        let rest : without_job number jobs ≡ jobs = none_of number jobs (omega (arith, one)) in
        (λ i. deletes key (sym same i).task || is_deleting key (rest i)) ∙ h
    go false e at one more = by (deletes key x.task) refl (more at (omega (arith, one)))
      where
        by : (t : Bool) → deletes key x.task ≡ t → (is_deleting key jobs ≡ true → (deletes key job.task || is_deleting key (without_job number jobs)) ≡ true) → (deletes key job.task || (deletes key x.task || is_deleting key (without_job number jobs))) ≡ true
        by true f m = or_right (deletes key job.task) (deletes key x.task || is_deleting key (without_job number jobs)) (rw f refl)
        by false f m = let there : is_deleting key jobs ≡ true = (rw f at h) in rw f (m there)

pub went_run : (job : Job) (next : Next) (nvm : Nvm) → job_at job.number nvm.jobs ≡ Some job → count (is_job job.number) nvm.jobs ≤ 1 → StonesRun nvm → StonesRun (goes_on job next nvm).nvm
went_run job Busy nvm at one r = r
went_run job (Io order outcome) nvm at one r =
    let more : Nvm = record nvm { jobs = ordered job.number order nvm.jobs } in
    still_stones more (holds outcome more).nvm (holds_leaves still outcome more).flash (λ key h. list_same key job.number order nvm.jobs ∙ r key h)
went_run job (Done outcome) nvm at one r = ends_run job.number job.task outcome (record nvm { jobs = without_job job.number nvm.jobs }) (λ key h. goes_out key job.number nvm.jobs job at one (r key h))

-- ---- takes

marked : (k key : List ℕ) (stones : List Tombstone) → is_taken key (taken_stone k stones) ≡ true → (bytes_eq k key || is_taken key stones) ≡ true
marked k key [] h = absurd cc
marked k key (stone ∷ stones) h = go (is_stone_of k stone) refl (is_stone_of key stone) refl stone.taken refl (bytes_eq k key) refl (marked k key stones) h
  where
    go : (t : Bool) → is_stone_of k stone ≡ t → (u : Bool) → is_stone_of key stone ≡ u → (v : Bool) → stone.taken ≡ v → (w : Bool) → bytes_eq k key ≡ w → (is_taken key (taken_stone k stones) ≡ true → (bytes_eq k key || is_taken key stones) ≡ true)
        → ((is_stone_of key (if t then record stone { taken = true } else stone) && (if t then record stone { taken = true } else stone).taken) || is_taken key (taken_stone k stones)) ≡ true → (w || ((u && v) || is_taken key stones)) ≡ true
    go t e u f v g true i more h = refl
    go t e true f true g false i more h = refl
    go true e true f false g false i more h =
        let one : stone.key ≡ k = same_bytes stone.key k e in
        let two : stone.key ≡ key = same_bytes stone.key key f in
        absurd (let own : bytes_eq k key ≡ bytes_eq stone.key key = ap (λ x. bytes_eq x key) (sym one) in let clash : bytes_eq k key ≡ true = own ∙ f in cc (clash, i))
    go false e true f false g false i more h = let rest = more (rw (f, g) at h) in (rw i at rest)
    go true e false f v g false i more h = let rest = more (rw f at h) in (rw i at rest)
    go false e false f v g false i more h = let rest = more (rw f at h) in (rw i at rest)

sized_run : (t : Bool) (put : FlashEntry) (nvm : Nvm) → StonesRun nvm → StonesRun (take_sized t put nvm).nvm
sized_run true put nvm r = let m = pairs.start (nvm.made + 1) (Put put) nvm.pair in launched_run (Putting put.key) m.next (record nvm { pair = m.pair }) (λ e. r) (but_run (Putting put.key) nvm r)
sized_run false put nvm r = let m = pairs.start (nvm.made + 1) (Put put) nvm.pair in launched_run Flushing m.next (record nvm { pair = m.pair }) (λ e. r) (but_run Flushing nvm r)

put_run : (o : Option FlashEntry) (nvm : Nvm) → StonesRun nvm → StonesRun (take_put o nvm).nvm
put_run None nvm r = r
put_run (Some put) nvm r = sized_run (is_small_by nvm.pair.small.flash put.key (length put.value)) put (record nvm { queue = without_put put.key nvm.queue }) r

delete_run : (o : Option Tombstone) (nvm : Nvm) → next_delete nvm ≡ o → JobsRun nvm → StonesRun nvm → StonesRun (take_delete o nvm).nvm
delete_run None nvm found j r = put_run (next_put nvm) nvm r
delete_run (Some stone) nvm found j r =
    let m = pairs.start (nvm.made + 1) (Delete stone.key) nvm.pair in
    launched_run (Deleting stone.key) m.next (record nvm { pair = m.pair; tombstones = taken_stone stone.key nvm.tombstones }) (λ e. absurd (never e)) (λ key h. joins key (marked stone.key key nvm.tombstones h))
  where
    joins : (key : List ℕ) → (bytes_eq stone.key key || is_taken key nvm.tombstones) ≡ true → (bytes_eq stone.key key || is_deleting key nvm.jobs) ≡ true
    joins key h = go (bytes_eq stone.key key) h
      where
        go : (t : Bool) → (t || is_taken key nvm.tombstones) ≡ true → (t || is_deleting key nvm.jobs) ≡ true
        go true h = refl
        go false h = r key h

    never : (pairs.start (nvm.made + 1) (Delete stone.key) nvm.pair).next ≡ Busy → ⊥
    never e = by (delete_starts nvm.pair.small (nvm.made + 1) stone.key (both-not stone.taken (pairs.is_busy_for nvm.pair stone.key) (found-passes (can_delete nvm) nvm.tombstones stone found)) (j.small_ones (nvm.made + 1) (j.fresh (nvm.made + 1) (omega arith))))
      where
        by : (bighash.start nvm.pair.small (nvm.made + 1) (Delete stone.key) ≡ waits_so nvm.pair.small (nvm.made + 1) (Delete stone.key) bighash.Reading)
            ⊎ ((bighash.start nvm.pair.small (nvm.made + 1) (Delete stone.key) ≡ ends_so nvm.pair.small engine.Over) × (bighash.word_at nvm.pair.small (bucket_at nvm.pair.small.flash stone.key) ≡ None)) → ⊥
        by (inl s) = absurd (let its : (waits_so nvm.pair.small (nvm.made + 1) (Delete stone.key) bighash.Reading).next ≡ Busy = ap (λ (x : bighash.Moved). x.next) (sym s) ∙ e in cc)
        by (inr s) = absurd (let its : (ends_so nvm.pair.small engine.Over).next ≡ Busy = ap (λ (x : bighash.Moved). x.next) (sym s.0) ∙ e in cc)

flush_run : (next : Next) (pair : Pair) (nvm : Nvm) → JobsRun nvm → StonesRun nvm → StonesRun (take_flush next pair nvm).nvm
flush_run (Io order outcome) pair nvm j r = launched_run Flushing (Io order outcome) (record nvm { pair = pair }) (λ e. r) (but_run Flushing nvm r)
flush_run Busy pair nvm j r = delete_run (next_delete nvm) nvm refl j r
flush_run (Done outcome) pair nvm j r = delete_run (next_delete nvm) nvm refl j r

pub writer_run : (nvm : Nvm) → JobsRun nvm → StonesRun nvm → StonesRun (takes.writer_take nvm).nvm
writer_run nvm j r = let m = pairs.start (nvm.made + 1) Flush nvm.pair in flush_run m.next m.pair nvm j r

pub filler_run : (nvm : Nvm) → StonesRun nvm → StonesRun (takes.filler_take nvm).nvm
filler_run nvm r = go (next_fill nvm)
  where
    go : (o : Option Fill) → StonesRun (take_fill o nvm).nvm
    go None = r
    go (Some one) = let m = pairs.start (nvm.made + 1) (Get one.key) nvm.pair in launched_run Filling m.next (record nvm { pair = m.pair; fills = taken_fill one.key (nvm.made + 1) nvm.fills }) (λ e. r) (but_run Filling nvm r)

pub reclaim_run : (nvm : Nvm) → StonesRun nvm → StonesRun (takes.reclaim nvm).change.nvm
reclaim_run nvm r = by (steps.reclaim nvm.pair.small.flash nvm.pair.large).outcome.reclaimed
  where
    by : (given : Option ℕ) → StonesRun (reclaimed_by given (steps.reclaim nvm.pair.small.flash nvm.pair.large) nvm).change.nvm
    by None = r
    by (Some region) =
        let m = steps.reclaim nvm.pair.small.flash nvm.pair.large in
        let less : Nvm = record nvm { pair = record nvm.pair { large = m.state } } in
        still_stones less (settled Flushing m.outcome less).nvm (settled_leaves still Flushing m.outcome less).flash r
