-- The work of workers on flash: takes, results, and a reclaim.
use Rattle.std.proofs.Common.{◌≡◌, ℕ, ◌+◌, ◌<◌, ◌≤◌, ◌==◌, Bool, true, false, not, ◌&&◌, List, [], ◌∷◌, ◌++◌, length, filter, Option, Some, None, refl, ap, sym, ◌∙◌, arith, cond, subst}
use Rattle.std.specs.Prelude.{if◌then◌else◌, nat_lt, is_some}
use Rattle.std.proofs.lemmas.Bool.{eqb-true}
use Rattle.hc_types.specs.Tally.{count}
use Rattle.hc_types.proofs.Tallies.{tally-push, tally-mono}
use Rattle.hc_types.specs.Places.{is_small_by}
use Rattle.hc_types.specs.FlashEntry.{FlashEntry}
use Rattle.hc_engines.specs.Engine.{Op, Put, Get, Delete, Flush, IoResult, Outcome, Next, Busy, Io, Done}
use Rattle.hc_engines.specs.small.BigHash as bighash
use Rattle.hc_engines.specs.large.Block as block
use Rattle.hc_engines.specs.large.Steps as steps
use Rattle.hc_engines.specs.pair.Pair as pairs
use Rattle.hc_engines.specs.pair.Pair.{Pair, Moved, bucket_in, is_busy_for}
use Rattle.hc_engines.proofs.pair.Waiting.{busy_is_true}
use Rattle.hc_engines.proofs.pair.Numbers.{mapped_some}
use Rattle.hc_memory.specs.Memory.{Memory}
use Rattle.hc_history.specs.Note as note
use Rattle.hc_machine.specs.Nvm.{Nvm, Tombstone, Task, Putting, Deleting, Filling, Flushing, Job, Fill, is_put_of, without_put, next_put, is_stone_of, taken_stone, next_delete, is_fill_of, is_job, job_at, without_job, ordered, fill_by, taken_fill, next_fill, adds}
use Rattle.hc_machine.specs.Leaving.{Changed, changed}
use Rattle.hc_machine.specs.Takes.{Filled, Taken, Work, takes, idle, told_before, raise, bucket_lost, raise_all, holds, ends_with, settled, finished, ends, launched, launch, take_sized, take_put, take_delete, take_flush, writer_take, take_fill, filler_take, reclaimed_by, reclaim, goes_on, resumed, finish_job, finish}
use Rattle.hc_invariant.specs.Tells.{waiters_of}
use Rattle.hc_invariant.specs.Jobs.{AllWishes}
use Rattle.hc_invariant.specs.Structure.{Asks, AllAsk, JobsStand, brings, operations, is_get_of, is_read_of, is_small_job, is_large_job}
use Rattle.hc_proof.proofs.frames.ByNumber.{same_number, found-passes, count-fewer, count-map}
use Rattle.hc_proof.proofs.frames.Lists.{found-counts}
use Rattle.hc_proof.proofs.frames.JobLists.{gone_fewer, ordered_many}
use Rattle.hc_proof.specs.structure.Operations.{AnswerIsOf, NextIsOf, Rests}
use Rattle.hc_proof.specs.structure.Parts.{Beside, FewerPuts}
use Rattle.hc_proof.specs.structure.Takes.{Under, AllAsked, FilledSo, Leaves, Raised}
use Rattle.hc_proof.proofs.structure.Keeps.{started_keeps, resumed_keeps}
use Rattle.hc_proof.proofs.structure.LargeAlone.{reclaim_alone}
use Rattle.hc_proof.proofs.structure.Operations as engines
use Rattle.hc_proof.proofs.structure.Operations.{Resumes}
use Rattle.hc_proof.proofs.structure.Parts.{same_puts, same_fills, same_wait}
use Rattle.hc_proof.proofs.structure.Pieces.{Calm, all_ask}
use Rattle.hc_proof.proofs.structure.Jobs.{BringsNone, asked_found, asked_all, asked_none, asked_taken, pair_under, under_of, whole_jobs, finished_leaves}

-- ---- tombstones end

raised_by : (test : Tombstone → Bool) (nvm : Nvm) → Raised nvm (raise test nvm).nvm
raised_by test nvm = record { stones = filter (λ stone. not (test stone)) nvm.tombstones; same = refl; fewer = λ key. count-fewer (is_stone_of key) (λ stone. not (test stone)) nvm.tombstones }

raised_all : (bucket : Option ℕ) (nvm : Nvm) → Raised nvm (raise_all bucket nvm).nvm
raised_all None nvm = record { stones = nvm.tombstones; same = refl; fewer = λ key. omega arith }
raised_all (Some bucket) nvm = raised_by (λ stone. bucket_in nvm.pair stone.key == bucket) nvm

pub raised_holds : (outcome : Outcome) (nvm : Nvm) → Raised nvm (holds outcome nvm).nvm
raised_holds outcome nvm = raised_all (bucket_lost outcome.losses) nvm

pub raised_settled : (task : Task) (outcome : Outcome) (nvm : Nvm) → Raised nvm (settled task outcome nvm).nvm
raised_settled task outcome nvm =
    let one = raised_holds outcome nvm in
    let two = raised_by (ends_with task) (holds outcome nvm).nvm in
    record { stones = two.stones; same = two.same ∙ ap (λ (n : Nvm). record n { tombstones = two.stones }) one.same; fewer = λ key. omega (arith, two.fewer key, ap (λ (n : Nvm). count (is_stone_of key) n.tombstones) one.same, one.fewer key) }

-- ---- an operation is over

pub ends_leaves : (nvm : Nvm) (number : ℕ) (task : Task) (outcome : Outcome) → ((key : List ℕ) → count (is_stone_of key) nvm.tombstones ≤ 1) → Under nvm number → (nvm.made < number → count (is_job number) nvm.jobs + operations nvm.pair number ≡ 0)
    → BringsNone task number nvm → ((fill : Fill) → fill_by number nvm.fills ≡ Some fill → AnswerIsOf (Get fill.key) outcome.answer) → Leaves nvm (ends number task outcome nvm)
ends_leaves nvm number task outcome one u rests none own =
    let r = raised_settled task outcome nvm in
    let part = (settled task outcome nvm).part in
    subst (λ (n : Nvm). Leaves nvm (finished task number outcome.answer (changed part n))) (sym r.same)
    (finished_leaves nvm r.stones number outcome.answer (λ key. omega (arith, r.fewer key, one key)) u rests task part none own)

-- ---- an operation begins

still : (nvm : Nvm) (stones : List Tombstone) → ((key : List ℕ) → count (is_stone_of key) stones ≤ 1) → JobsStand nvm → Beside (Some (record nvm { tombstones = stones }))
still nvm stones one j = record { one_stone = one; jobs = record { one_job = j.one_job; one_each = j.one_each; fresh = j.fresh; asks = j.asks; large = j.large } }

one_more_job : (b : Bool) (n : ℕ) → (b ≡ true → n ≡ 0) → n ≤ 1 → n + cond b 1 0 ≤ 1
one_more_job true n none one = omega (arith, none refl)
one_more_job false n none one = omega (arith, one)

other_number : (made n : ℕ) → made + 1 < n → (n == (made + 1)) ≡ false
other_number made n lt = grind (arith, lt)

not_it : (made n : ℕ) → made + 1 < n → ◌≡◌ {A = ℕ} (cond ((made + 1) == n) 1 0) 0
not_it made n lt = grind (arith, lt)

-- before the engines are asked under the next number
record Ready (nvm : Nvm) (task : Task) (op : Op) : Type 0 where
  stones : (key : List ℕ) → count (is_stone_of key) nvm.tombstones ≤ 1
  under : Under nvm (nvm.made + 1)
  no_job : count (is_job (nvm.made + 1)) nvm.jobs ≡ 0
  no_operation : operations nvm.pair (nvm.made + 1) ≡ 0
  brings_none : BringsNone task (nvm.made + 1) nvm
  asked : AllAsked op (nvm.made + 1) nvm.fills
  -- it isn't put off, where a fill is to be brought
  goes : (pairs.start (nvm.made + 1) op nvm.pair).next ≡ Busy → count (brings (nvm.made + 1)) nvm.fills ≡ 0

-- and once they were
record Asked (nvm : Nvm) (task : Task) (next : Next) : Type 0 where
  stones : (key : List ℕ) → count (is_stone_of key) nvm.tombstones ≤ 1
  under : Under nvm (nvm.made + 1)
  no_job : count (is_job (nvm.made + 1)) nvm.jobs ≡ 0
  rests : (outcome : Outcome) → next ≡ Done outcome → operations nvm.pair (nvm.made + 1) ≡ 0
  brings_none : BringsNone task (nvm.made + 1) nvm
  own : (outcome : Outcome) → next ≡ Done outcome → (fill : Fill) → fill_by (nvm.made + 1) nvm.fills ≡ Some fill → AnswerIsOf (Get fill.key) outcome.answer
  busy : next ≡ Busy → (count (brings (nvm.made + 1)) nvm.fills ≡ 0) × (operations nvm.pair (nvm.made + 1) ≡ 0)

launched_leaves : (nvm : Nvm) (task : Task) (next : Next) → Asked nvm task next → Leaves nvm (launched task next nvm)
launched_leaves nvm task Busy a =
    let none = a.busy refl in
    let j = whole_jobs nvm (nvm.made + 1) a.under (λ lt. omega (arith, a.no_job, none.0, none.1)) in
    record { puts = same_puts nvm.queue; fills = (same_fills nvm.fills, same_wait nvm.fills); beside = record { one_stone = a.stones; jobs = j }; flash = refl }
launched_leaves nvm task (Done outcome) a = ends_leaves nvm (nvm.made + 1) task outcome a.stones a.under (λ lt. omega (arith, a.no_job, a.rests outcome refl)) a.brings_none (a.own outcome refl)
launched_leaves nvm task (Io order outcome) a =
    let job : Job = record { number = nvm.made + 1; task = task; order = order } in
    let with_job : Nvm = record nvm { jobs = nvm.jobs ++ job ∷ []; made = nvm.made + 1 } in
    let r = raised_holds outcome with_job in
    let more : (n : ℕ) → count (is_job n) (nvm.jobs ++ job ∷ []) ≡ count (is_job n) nvm.jobs + cond ((nvm.made + 1) == n) 1 0 = λ n. tally-push (λ (x : Job). cond (is_job n x) 1 0) nvm.jobs job in
    let j : JobsStand with_job = record {
      one_job = λ n. omega (arith, more n, one_more_job ((nvm.made + 1) == n) (count (is_job n) nvm.jobs) (λ t. subst (λ (m : ℕ). count (is_job m) nvm.jobs ≡ 0) (eqb-true (nvm.made + 1) n t) a.no_job) (a.under.one_job n));
      one_each = a.under.one_each;
      fresh = λ n lt. omega (arith, more n, not_it nvm.made n lt, a.under.fresh n (omega (arith, lt)) (other_number nvm.made n lt));
      asks = a.under.asks;
      large = a.under.large;
    } in
    let b = still with_job r.stones (λ key. omega (arith, r.fewer key, a.stones key)) j in
    let part = (holds outcome with_job).part in
    subst (λ (n : Nvm). Leaves nvm (takes (Work (nvm.made + 1) order) (changed part n))) (sym r.same) (record { puts = same_puts nvm.queue; fills = (same_fills nvm.fills, same_wait nvm.fills); beside = b; flash = refl })

-- what holds before the next operation
fresh_next : (nvm : Nvm) → JobsStand nvm → count (is_job (nvm.made + 1)) nvm.jobs + (count (brings (nvm.made + 1)) nvm.fills + operations nvm.pair (nvm.made + 1)) ≡ 0
fresh_next nvm j = j.fresh (nvm.made + 1) (omega arith)

asked_of : (nvm : Nvm) (task : Task) (op : Op) → Ready nvm task op → Asked (record nvm { pair = (pairs.start (nvm.made + 1) op nvm.pair).pair }) task (pairs.start (nvm.made + 1) op nvm.pair).next
asked_of nvm task op r =
    let number = nvm.made + 1 in
    let moved = pairs.start number op nvm.pair in
    let d = engines.started number op nvm.pair in
    let new : Nvm = record nvm { pair = moved.pair } in
    record {
      stones = r.stones;
      under = pair_under nvm number op moved d (started_keeps number op nvm.pair) r.asked r.under;
      no_job = r.no_job;
      rests = λ outcome e. let less : Rests nvm.pair moved.pair (Done outcome) = subst (λ (next : Next). Rests nvm.pair moved.pair next) e d.rests in omega (arith, less number, r.no_operation);
      brings_none = brings_same task r.brings_none;
      own = λ outcome e fill found.
          let is : AnswerIsOf op outcome.answer = subst (λ (next : Next). NextIsOf op next) e d.answer in
          subst (λ (o : Op). AnswerIsOf o outcome.answer) (asked_found op number nvm.fills fill found r.asked) is;
      busy = λ e. let less : Rests nvm.pair moved.pair Busy = subst (λ (next : Next). Rests nvm.pair moved.pair next) e d.rests in (r.goes e, omega (arith, less number, r.no_operation));
    }
  where
    brings_same : (task : Task) → BringsNone task (nvm.made + 1) nvm → BringsNone task (nvm.made + 1) (record nvm { pair = (pairs.start (nvm.made + 1) op nvm.pair).pair })
    brings_same (Putting key) h = h
    brings_same (Deleting key) h = h
    brings_same Filling h = h
    brings_same Flushing h = h

launch_leaves : (nvm : Nvm) (task : Task) (op : Op) → Ready nvm task op → Leaves nvm (launch task op nvm)
launch_leaves nvm task op r =
    let moved = pairs.start (nvm.made + 1) op nvm.pair in
    let l = launched_leaves (record nvm { pair = moved.pair }) task moved.next (asked_of nvm task op r) in
    record { puts = l.puts; fills = l.fills; beside = l.beside; flash = l.flash ∙ (started_keeps (nvm.made + 1) op nvm.pair).flash }

-- any but a fill
ready_for : (nvm : Nvm) (task : Task) (op : Op) → ((key : List ℕ) → count (is_stone_of key) nvm.tombstones ≤ 1) → JobsStand nvm → Ready nvm task op
ready_for nvm task op one j =
    let none = fresh_next nvm j in
    let no_fill : count (brings (nvm.made + 1)) nvm.fills ≡ 0 = omega (arith, none) in
    record {
      stones = one;
      under = under_of nvm (nvm.made + 1) j;
      no_job = omega (arith, none);
      no_operation = omega (arith, none);
      brings_none = brings_of task no_fill;
      asked = asked_none op (nvm.made + 1) nvm.fills no_fill;
      goes = λ e. no_fill;
    }
  where
    brings_of : (task : Task) → count (brings (nvm.made + 1)) nvm.fills ≡ 0 → BringsNone task (nvm.made + 1) nvm
    brings_of (Putting key) z = λ lt. z
    brings_of (Deleting key) z = λ lt. z
    brings_of Filling z = tt
    brings_of Flushing z = λ lt. z

-- what comes before it
leaves_from : (old nvm : Nvm) (taken : Taken) → FewerPuts old.queue nvm.queue → nvm.fills ≡ old.fills → nvm.pair.small.flash ≡ old.pair.small.flash → Leaves nvm taken → Leaves old taken
leaves_from old nvm taken puts same flash l = record { puts = λ key. omega (arith, puts key, l.puts key); fills = subst (λ (fills : List Fill). FilledSo fills taken.nvm.fills taken.filled) same l.fills; beside = l.beside; flash = l.flash ∙ flash }

-- ---- the writer

leaves_idle : (nvm : Nvm) → Beside (Some nvm) → Leaves nvm (idle nvm)
leaves_idle nvm b = record { puts = same_puts nvm.queue; fills = (same_fills nvm.fills, same_wait nvm.fills); beside = b; flash = refl }

told_leaves : (part : List note.Note) (old : Nvm) (taken : Taken) → Leaves old taken → Leaves old (told_before part taken)
told_leaves part old taken l = record { puts = l.puts; fills = l.fills; beside = l.beside; flash = l.flash }

-- another queue and other tombstones
jobs_as : (nvm : Nvm) (queue : List FlashEntry) (stones : List Tombstone) → JobsStand nvm → JobsStand (record nvm { queue = queue; tombstones = stones })
jobs_as nvm queue stones j = record { one_job = j.one_job; one_each = j.one_each; fresh = j.fresh; asks = j.asks; large = j.large }

put_leaves : (o : Option FlashEntry) (nvm : Nvm) → Beside (Some nvm) → Leaves nvm (take_put o nvm)
put_leaves None nvm b = leaves_idle nvm b
put_leaves (Some put) nvm b = leaves_from nvm less (take_put (Some put) nvm) (λ k. count-fewer (is_put_of k) (λ p. not (is_put_of put.key p)) nvm.queue) refl refl (by (is_small_by nvm.pair.small.flash put.key (length put.value)))
  where
    less : Nvm
    less = record nvm { queue = without_put put.key nvm.queue }

    by : (small : Bool) → Leaves less (take_sized small put less)
    by true = told_leaves (note.Unqueued put.key ∷ note.Writing put.key ∷ []) less (launch (Putting put.key) (Put put) less) (launch_leaves less (Putting put.key) (Put put) (ready_for less (Putting put.key) (Put put) b.one_stone (jobs_as nvm less.queue nvm.tombstones b.jobs)))
    by false = told_leaves (note.Unqueued put.key ∷ []) less (launch Flushing (Put put) less) (launch_leaves less Flushing (Put put) (ready_for less Flushing (Put put) b.one_stone (jobs_as nvm less.queue nvm.tombstones b.jobs)))

same_stone : (key k : List ℕ) (stone : Tombstone) → is_stone_of k (if is_stone_of key stone then record stone { taken = true } else stone) ≡ is_stone_of k stone
same_stone key k stone = by (is_stone_of key stone)
  where
    by : (b : Bool) → is_stone_of k (if b then record stone { taken = true } else stone) ≡ is_stone_of k stone
    by true = refl
    by false = refl

delete_leaves : (o : Option Tombstone) (nvm : Nvm) → Beside (Some nvm) → Leaves nvm (take_delete o nvm)
delete_leaves None nvm b = put_leaves (next_put nvm) nvm b
delete_leaves (Some stone) nvm b =
    let stones = taken_stone stone.key nvm.tombstones in
    let taken : Nvm = record nvm { tombstones = stones } in
    let one : (key : List ℕ) → count (is_stone_of key) stones ≤ 1 = λ key. omega (arith, b.one_stone key, count-map (is_stone_of key) (λ (x : Tombstone). if is_stone_of stone.key x then record x { taken = true } else x) (same_stone stone.key key) nvm.tombstones) in
    leaves_from nvm taken (take_delete (Some stone) nvm) (same_puts nvm.queue) refl refl
    (launch_leaves taken (Deleting stone.key) (Delete stone.key) (ready_for taken (Deleting stone.key) (Delete stone.key) one (jobs_as nvm nvm.queue stones b.jobs)))

pub writer_leaves : (nvm : Nvm) → Beside (Some nvm) → Leaves nvm (writer_take nvm)
writer_leaves nvm b = by (pairs.start (nvm.made + 1) Flush nvm.pair).next refl
  where
    moved : Moved
    moved = pairs.start (nvm.made + 1) Flush nvm.pair

    by : (next : Next) → moved.next ≡ next → Leaves nvm (take_flush next moved.pair nvm)
    by (Io order outcome) e =
        let a = asked_of nvm Flushing Flush (ready_for nvm Flushing Flush b.one_stone b.jobs) in
        let l = launched_leaves (record nvm { pair = moved.pair }) Flushing (Io order outcome) (subst (λ (next : Next). Asked (record nvm { pair = moved.pair }) Flushing next) e a) in
        record { puts = l.puts; fills = l.fills; beside = l.beside; flash = l.flash ∙ (started_keeps (nvm.made + 1) Flush nvm.pair).flash }
    by Busy e = delete_leaves (next_delete nvm) nvm b
    by (Done outcome) e = delete_leaves (next_delete nvm) nvm b

-- ---- the filler

taken_seen : (key : List ℕ) (number : ℕ) (fills : List Fill) (k : List ℕ) → count (is_fill_of k) (taken_fill key number fills) ≡ count (is_fill_of k) fills
taken_seen key number fills k = count-map (is_fill_of k) (λ (fill : Fill). if is_fill_of key fill then record fill { job = Some number } else fill) same fills
  where
    same : (fill : Fill) → is_fill_of k (if is_fill_of key fill then record fill { job = Some number } else fill) ≡ is_fill_of k fill
    same fill = by (is_fill_of key fill)
      where
        by : (b : Bool) → is_fill_of k (if b then record fill { job = Some number } else fill) ≡ is_fill_of k fill
        by true = refl
        by false = refl

taken_wishes : (memory : Memory) (key : List ℕ) (number : ℕ) (fills : List Fill) → AllWishes memory fills → AllWishes memory (taken_fill key number fills)
taken_wishes memory key number [] h = tt
taken_wishes memory key number (fill ∷ fills) h = by (is_fill_of key fill) (taken_wishes memory key number fills h.1)
  where
    by : (b : Bool) → AllWishes memory (taken_fill key number fills) → AllWishes memory ((if b then record fill { job = Some number } else fill) ∷ taken_fill key number fills)
    by true rest = (h.0, rest)
    by false rest = (h.0, rest)

taken_waiters : (key : List ℕ) (number : ℕ) (fills : List Fill) → waiters_of (taken_fill key number fills) ≡ waiters_of fills
taken_waiters key number [] = refl
taken_waiters key number (fill ∷ fills) = by (is_fill_of key fill) (taken_waiters key number fills)
  where
    by : (b : Bool) → waiters_of (taken_fill key number fills) ≡ waiters_of fills → waiters_of ((if b then record fill { job = Some number } else fill) ∷ taken_fill key number fills) ≡ waiters_of (fill ∷ fills)
    by true rest = ap (λ ws. fill.waiters ++ ws) rest
    by false rest = ap (λ ws. fill.waiters ++ ws) rest

-- another number brings no more
taken_others : (key : List ℕ) (number n : ℕ) (fills : List Fill) → (n == number) ≡ false → count (brings n) (taken_fill key number fills) ≤ count (brings n) fills
taken_others key number n [] o = omega arith
taken_others key number n (fill ∷ fills) o = by (is_fill_of key fill) (taken_others key number n fills o)
  where
    by : (b : Bool) → count (brings n) (taken_fill key number fills) ≤ count (brings n) fills → count (brings n) ((if b then record fill { job = Some number } else fill) ∷ taken_fill key number fills) ≤ count (brings n) (fill ∷ fills)
    by true rest = let none : ◌≡◌ {A = ℕ} (cond (number == n) 1 0) 0 = (grind (arith, o)) in omega (arith, rest, none)
    by false rest = omega (arith, rest)

-- and this one the key's fill alone
taken_own : (key : List ℕ) (number : ℕ) (fills : List Fill) → count (brings number) fills ≡ 0 → count (brings number) (taken_fill key number fills) ≤ count (is_fill_of key) fills
taken_own key number [] none = omega arith
taken_own key number (fill ∷ fills) none = by (is_fill_of key fill) (taken_own key number fills (omega (arith, none)))
  where
    few : (b : Bool) → ◌≤◌ (cond b 1 0) 1
    few true = omega arith
    few false = omega arith

    by : (b : Bool) → count (brings number) (taken_fill key number fills) ≤ count (is_fill_of key) fills → count (brings number) ((if b then record fill { job = Some number } else fill) ∷ taken_fill key number fills) ≤ cond b 1 0 + count (is_fill_of key) fills
    by true rest = omega (arith, rest, few (number == number))
    by false rest = omega (arith, rest, none)

no_asks : (pair : Pair) (key : List ℕ) (n : ℕ) → operations pair n ≡ 0 → Asks pair key n
no_asks pair key n none = record { small = omega (arith, none, small_part pair.small.jobs); large = omega (arith, none, large_part pair.large.jobs) }
  where
    less : (a b : Bool) → ◌≤◌ (cond (a && b) 1 0) (cond a 1 0)
    less true true = omega arith
    less true false = omega arith
    less false b = omega arith

    small_part : (jobs : List bighash.Job) → count (λ (job : bighash.Job). is_small_job n job && not (is_get_of key job.op)) jobs ≤ count (is_small_job n) jobs
    small_part jobs = tally-mono (λ (job : bighash.Job). cond (is_small_job n job && not (is_get_of key job.op)) 1 0) (λ job. cond (is_small_job n job) 1 0) (λ job. less (is_small_job n job) (not (is_get_of key job.op))) jobs

    large_part : (jobs : List block.Job) → count (λ (job : block.Job). is_large_job n job && not (is_read_of key job.work)) jobs ≤ count (is_large_job n) jobs
    large_part jobs = tally-mono (λ (job : block.Job). cond (is_large_job n job && not (is_read_of key job.work)) 1 0) (λ job. cond (is_large_job n job) 1 0) (λ job. less (is_large_job n job) (not (is_read_of key job.work))) jobs

taken_asks : (pair : Pair) (key : List ℕ) (number : ℕ) (fills : List Fill) → operations pair number ≡ 0 → AllAsk pair fills → AllAsk pair (taken_fill key number fills)
taken_asks pair key number [] none h = tt
taken_asks pair key number (fill ∷ fills) none h = by (is_fill_of key fill) (taken_asks pair key number fills none h.1)
  where
    by : (b : Bool) → AllAsk pair (taken_fill key number fills) → AllAsk pair ((if b then record fill { job = Some number } else fill) ∷ taken_fill key number fills)
    by true rest = (no_asks pair fill.key number none, rest)
    by false rest = (h.0, rest)

free_bucket : (a b : Bool) → (not a && not b) ≡ true → b ≡ false
free_bucket true true h = absurd cc
free_bucket true false h = refl
free_bucket false true h = absurd cc
free_bucket false false h = refl

fill_leaves : (o : Option Fill) (nvm : Nvm) → next_fill nvm ≡ o → ((key : List ℕ) → count (is_fill_of key) nvm.fills ≤ 1) → Beside (Some nvm) → Leaves nvm (take_fill o nvm)
fill_leaves None nvm e one b = leaves_idle nvm b
fill_leaves (Some fill) nvm e one b =
    let number = nvm.made + 1 in
    let fills = taken_fill fill.key number nvm.fills in
    let taken : Nvm = record nvm { fills = fills } in
    let none = fresh_next nvm b.jobs in
    let no_fill : count (brings number) nvm.fills ≡ 0 = omega (arith, none) in
    let no_operation : operations nvm.pair number ≡ 0 = omega (arith, none) in
    let is_free : is_busy_for nvm.pair fill.key ≡ false = free_bucket (is_some fill.job) (is_busy_for nvm.pair fill.key) (found-passes (λ (f : Fill). not (is_some f.job) && not (is_busy_for nvm.pair f.key)) nvm.fills fill e) in
    let under : Under taken number = record {
      one_job = b.jobs.one_job;
      one_each = λ n. each n (n == number) refl;
      fresh = λ n lt o. omega (arith, b.jobs.fresh n lt, taken_others fill.key number n nvm.fills o);
      asks = taken_asks nvm.pair fill.key number nvm.fills no_operation b.jobs.asks;
      large = b.jobs.large;
    } in
    let l = launch_leaves taken Filling (Get fill.key) (record {
      stones = b.one_stone;
      under = under;
      no_job = omega (arith, none);
      no_operation = no_operation;
      brings_none = tt;
      asked = asked_taken fill.key number nvm.fills no_fill;
      goes = λ busy. absurd (let is_busy = (busy_is_true nvm.pair).0 number (Get fill.key) busy in cc);
    }) in
    record { puts = l.puts; fills = filled_from (launch Filling (Get fill.key) taken).nvm.fills (launch Filling (Get fill.key) taken).filled l.fills; beside = l.beside; flash = l.flash }
  where
    each : (n : ℕ) (t : Bool) → (n == (nvm.made + 1)) ≡ t → count (brings n) (taken_fill fill.key (nvm.made + 1) nvm.fills) ≤ 1
    each n true t = subst (λ (m : ℕ). count (brings m) (taken_fill fill.key (nvm.made + 1) nvm.fills) ≤ 1) (sym (eqb-true n (nvm.made + 1) t)) (let none = fresh_next nvm b.jobs in omega (arith, taken_own fill.key (nvm.made + 1) nvm.fills (omega (arith, none)), one fill.key))
    each n false t = omega (arith, taken_others fill.key (nvm.made + 1) n nvm.fills t, b.jobs.one_each n)

    filled_from : (new : List Fill) (filled : Option Filled) → FilledSo (taken_fill fill.key (nvm.made + 1) nvm.fills) new filled → FilledSo nvm.fills new filled
    filled_from new None h = (
      λ k. omega (arith, h.0 k, taken_seen fill.key (nvm.made + 1) nvm.fills k),
      record { wishes = λ memory w. h.1.wishes memory (taken_wishes memory fill.key (nvm.made + 1) nvm.fills w); adds = λ n. omega (arith, h.1.adds n, ap (λ ws. count (adds n) ws) (taken_waiters fill.key (nvm.made + 1) nvm.fills)) },
    )
    filled_from new (Some filled) h = (
      h.0,
      record {
        fills = λ k. omega (arith, h.1.fills k, taken_seen fill.key (nvm.made + 1) nvm.fills k);
        wait = record { wishes = λ memory w. h.1.wait.wishes memory (taken_wishes memory fill.key (nvm.made + 1) nvm.fills w); adds = λ n. omega (arith, h.1.wait.adds n, ap (λ ws. count (adds n) ws) (taken_waiters fill.key (nvm.made + 1) nvm.fills)) };
        gone = h.1.gone;
        own = h.1.own;
      },
    )

pub filler_leaves : (nvm : Nvm) → ((key : List ℕ) → count (is_fill_of key) nvm.fills ≤ 1) → Beside (Some nvm) → Leaves nvm (filler_take nvm)
filler_leaves nvm one b = fill_leaves (next_fill nvm) nvm refl one b

-- ---- a result is handed in

goes_leaves : (nvm : Nvm) (job : Job) (op : Op) (next : Next) → job.number ≤ nvm.made → NextIsOf op next → AllAsked op job.number nvm.fills → Beside (Some nvm) → Leaves nvm (goes_on job next nvm)
goes_leaves nvm job op Busy lt is asked b = leaves_idle nvm b
goes_leaves nvm job op (Io order outcome) lt is asked b =
    let on : Nvm = record nvm { jobs = ordered job.number order nvm.jobs } in
    let r = raised_holds outcome on in
    let same : (n : ℕ) → count (is_job n) (ordered job.number order nvm.jobs) ≡ count (is_job n) nvm.jobs = λ n. ordered_many (λ (j : Job). cond (is_job n j) 1 0) (λ j o. refl) job.number order nvm.jobs in
    let j : JobsStand on = record { one_job = λ n. omega (arith, same n, b.jobs.one_job n); one_each = b.jobs.one_each; fresh = λ n l. omega (arith, same n, b.jobs.fresh n l); asks = b.jobs.asks; large = b.jobs.large } in
    let s = still on r.stones (λ key. omega (arith, r.fewer key, b.one_stone key)) j in
    let part = (holds outcome on).part in
    subst (λ (n : Nvm). Leaves nvm (takes (Work job.number order) (changed part n))) (sym r.same) (record { puts = same_puts nvm.queue; fills = (same_fills nvm.fills, same_wait nvm.fills); beside = s; flash = refl })
goes_leaves nvm job op (Done outcome) lt is asked b =
    let off : Nvm = record nvm { jobs = without_job job.number nvm.jobs } in
    let u : Under off job.number = record {
      one_job = λ n. omega (arith, gone_fewer (is_job n) job.number nvm.jobs, b.jobs.one_job n);
      one_each = b.jobs.one_each;
      fresh = λ n l o. omega (arith, gone_fewer (is_job n) job.number nvm.jobs, b.jobs.fresh n l);
      asks = b.jobs.asks;
      large = b.jobs.large;
    } in
    let l = ends_leaves off job.number job.task outcome b.one_stone u (λ more. absurd (omega (arith, more, lt))) (brings_of job.task)
    (λ fill found. subst (λ (o : Op). AnswerIsOf o outcome.answer) (asked_found op job.number nvm.fills fill found asked) is) in
    record { puts = l.puts; fills = l.fills; beside = l.beside; flash = l.flash }
  where
    brings_of : (task : Task) → BringsNone task job.number (record nvm { jobs = without_job job.number nvm.jobs })
    brings_of (Putting key) = λ more. absurd (omega (arith, more, lt))
    brings_of (Deleting key) = λ more. absurd (omega (arith, more, lt))
    brings_of Filling = tt
    brings_of Flushing = λ more. absurd (omega (arith, more, lt))

resumed_leaves : (nvm : Nvm) (job : Job) (result : IoResult) (moved : Moved) → job.number ≤ nvm.made → pairs.resume job.number result nvm.pair ≡ Some moved → Beside (Some nvm) → Leaves nvm (resumed job result nvm moved)
resumed_leaves nvm job result moved lt made b =
    let r = engines.resumed job.number result nvm.pair moved made in
    let new : Nvm = record nvm { pair = moved.pair } in
    let asked = asked_all r.op job.number nvm.pair nvm.fills r.asked b.jobs.asks in
    let k = resumed_keeps job.number result nvm.pair moved made in
    let u = pair_under nvm job.number r.op moved r.does k asked (under_of nvm job.number b.jobs) in
    let j : JobsStand new = whole_jobs new job.number u (λ more. absurd (omega (arith, more, lt))) in
    let l = goes_leaves new job r.op moved.next lt r.does.answer asked (record { one_stone = b.one_stone; jobs = j }) in
    record { puts = l.puts; fills = l.fills; beside = l.beside; flash = l.flash ∙ k.flash }

number_made : (nvm : Nvm) (number : ℕ) (job : Job) → job_at number nvm.jobs ≡ Some job → JobsStand nvm → job.number ≤ nvm.made
number_made nvm number job e j = by (nat_lt nvm.made job.number) refl
  where
    there : 1 ≤ count (is_job job.number) nvm.jobs
    there = found-counts (is_job number) (is_job job.number) nvm.jobs job e (same_number job.number)

    by : (b : Bool) → nat_lt nvm.made job.number ≡ b → job.number ≤ nvm.made
    by true t = absurd (let lt : nvm.made < job.number = (grind (arith, t)) in omega (arith, j.fresh job.number lt, there))
    by false t = grind (arith, t)

-- where a job waits for such a result
pub finish_leaves : (nvm : Nvm) (number : ℕ) (result : IoResult) (taken : Taken) → Beside (Some nvm) → finish number result nvm ≡ Some taken → Leaves nvm taken
finish_leaves nvm number result taken b made = by (job_at number nvm.jobs) refl made
  where
    by : (o : Option Job) → job_at number nvm.jobs ≡ o → finish_job o result nvm ≡ Some taken → Leaves nvm taken
    by None e made = absurd cc
    by (Some job) e made =
        let m = mapped_some (resumed job result nvm) (pairs.resume job.number result nvm.pair) taken made in
        subst (λ (t : Taken). Leaves nvm t) m.2 (resumed_leaves nvm job result m.0 (number_made nvm number job e b.jobs) m.1 b)

-- ---- a reclaim

pub reclaim_calm : (nvm : Nvm) → Calm nvm (reclaim nvm).change.nvm
reclaim_calm nvm = by moved.outcome.reclaimed
  where
    moved : block.Moved
    moved = steps.reclaim nvm.pair.small.flash nvm.pair.large

    new : Nvm
    new = record nvm { pair = record nvm.pair { large = moved.state } }

    jobs_same : moved.state.jobs ≡ nvm.pair.large.jobs
    jobs_same = engines.reclaim_same nvm.pair.small.flash nvm.made nvm.pair.large

    jobs : JobsStand nvm → JobsStand new
    jobs j = record {
      one_job = j.one_job;
      one_each = j.one_each;
      fresh = λ n lt. omega (arith, j.fresh n lt, ap (λ (js : List block.Job). count (is_large_job n) js) jobs_same);
      asks = all_ask nvm.pair new.pair nvm.fills (λ key n a. record { small = a.small; large = subst (λ (js : List block.Job). count (λ (job : block.Job). is_large_job n job && not (is_read_of key job.work)) js ≡ 0) (sym jobs_same) a.large }) j.asks;
      large = reclaim_alone nvm.pair.small.flash nvm.pair.large j.large;
    }

    of : (change : Changed) → Raised new change.nvm → Calm nvm change.nvm
    of change r = subst (λ (n : Nvm). Calm nvm n) (sym r.same) (record {
      puts = same_puts nvm.queue;
      fills = refl;
      beside = λ b. still new r.stones (λ key. omega (arith, r.fewer key, b.one_stone key)) (jobs b.jobs);
      flash = refl;
    })

    by : (o : Option ℕ) → Calm nvm (reclaimed_by o moved nvm).change.nvm
    by None = record { puts = same_puts nvm.queue; fills = refl; beside = λ b. b; flash = refl }
    by (Some region) = of (settled Flushing moved.outcome new) (raised_settled Flushing moved.outcome new)
