-- When an operation of the pair is put off.
use Rattle.std.proofs.Common.{◌≡◌, ◌≢◌, ℕ, Bool, true, false, [], length, Option, Some, None, refl, sym, subst}
use Rattle.std.specs.Prelude.{if◌then◌else◌}
use Rattle.std.proofs.lemmas.Option.{cond_some}
use Rattle.hc_types.specs.Places.{bucket_at, is_small_by}
use Rattle.hc_engines.specs.Engine.{Op, Put, Get, Delete, Flush, Reclaim, Order, IoResult, Answer, Nothing, Over, Absent, Found, Outcome, Next, Busy, Io, Done}
use Rattle.hc_bucket.proofs.Numbers.{some_is}
use Rattle.hc_engines.specs.small.BigHash as bighash
use Rattle.hc_engines.specs.small.BigHash.{BigHash, Job, Plan, ToRead, ToWrite, ToEnd, ToKeep, ToGiveUp, begun, is_busy, job_at, key_of, resume_job, resumed, went_on, word_at}
use Rattle.hc_engines.specs.large.Block.{Work, work_of}
use Rattle.hc_engines.specs.large.Steps as steps
use Rattle.hc_engines.specs.pair.Pair as pairs
use Rattle.hc_engines.specs.pair.Pair.{Pair, Moved, next_of, after_losses, waits_for, by_small, by_large, then_large, after_small, start, resume, resume_in, resume_large}
use Rattle.hc_engines.specs.pair.Held.{BusyIsTrue}
use Rattle.hc_engines.proofs.pair.Numbers.{mapped_some}

plan-goes : (size bucket : ℕ) (op : Op) (plan : Plan) → bighash.next_of size bucket op plan ≢ Busy
plan-goes size bucket op ToRead h = cc
plan-goes size bucket op (ToWrite es losses) h = cc
plan-goes size bucket op (ToEnd answer) h = cc
plan-goes size bucket op (ToKeep word losses) h = cc
plan-goes size bucket op ToGiveUp h = cc

next-goes : (outcome : Outcome) (o : Option Order) → next_of outcome o ≢ Busy
next-goes outcome None h = cc
next-goes outcome (Some order) h = cc

-- what the small engine answers is the pair's, or the large engine goes on
small-busy : (number : ℕ) (op : Op) (pair : Pair) (next : Next) → (then_large number op pair next).next ≡ Busy → next ≡ Busy
small-busy number (Put e) pair next h = h
small-busy number (Delete key) pair next h = h
small-busy number Flush pair next h = h
small-busy number Reclaim pair next h = h
small-busy number (Get key) pair Busy h = h
small-busy number (Get key) pair (Io order outcome) h = h
small-busy number (Get key) pair (Done outcome) h = absurd (by outcome.answer h)
  where
    by : (answer : Answer) → (pairs.went_on number key pair outcome answer).next ≡ Busy → ⊥
    by Nothing h = cc
    by Over h = cc
    by (Found e) h = cc
    by Absent h = next-goes _ _ h

small-waits : (s : BigHash) (number bucket : ℕ) (op : Op) → (bighash.start_at s number op (Some bucket)).next ≡ Busy → is_busy bucket s.jobs ≡ true
small-waits s number bucket op h = by (is_busy bucket s.jobs) h
  where
    by : (t : Bool) → (if t then record { state = s; next = Busy } else bighash.moved s number bucket op (begun (word_at s bucket) op)).next ≡ Busy → t ≡ true
    by true h = refl
    by false h = absurd (plan-goes s.flash.page bucket op (begun (word_at s bucket) op) h)

start-busy : (pair : Pair) (number : ℕ) (op : Op) → (start number op pair).next ≡ Busy → pairs.is_busy_for pair (key_of op) ≡ true
start-busy pair number (Put e) h = by (is_small_by pair.small.flash e.key (length e.value)) refl h
  where
    by : (t : Bool) → is_small_by pair.small.flash e.key (length e.value) ≡ t
        → (if t then by_small pair (bighash.start pair.small number (Put e)) else by_large pair [] (steps.put pair.small.flash e pair.large)).next ≡ Busy → pairs.is_busy_for pair e.key ≡ true
    by true t h = small-waits pair.small number (bucket_at pair.small.flash e.key) (Put e) (rw t at h)
    by false t h = absurd (next-goes _ _ h)
start-busy pair number (Get key) h = small-waits pair.small number (bucket_at pair.small.flash key) (Get key) (small-busy number (Get key) _ _ h)
start-busy pair number (Delete key) h = small-waits pair.small number (bucket_at pair.small.flash key) (Delete key) h
start-busy pair number Flush h = absurd (next-goes _ _ h)
start-busy pair number Reclaim h = absurd (next-goes _ _ h)

resumed-goes : (s : BigHash) (job : Job) (plan : Option Plan) (m : bighash.Moved) → resumed s job plan ≡ Some m → m.next ≢ Busy
resumed-goes s job None m made h = cc
resumed-goes s job (Some plan) m made h = plan-goes s.flash.page job.bucket job.op plan (subst (λ (x : bighash.Moved). x.next ≡ Busy) (sym (some_is (bighash.moved s job.number job.bucket job.op plan) m made)) h)

job-goes : (s : BigHash) (result : IoResult) (job : Option Job) (m : bighash.Moved) → resume_job s job result ≡ Some m → m.next ≢ Busy
job-goes s result None m made h = cc
job-goes s result (Some job) m made h = resumed-goes s job (went_on s.flash.page job.op job.phase result) m made h

resume-goes : (pair : Pair) (number : ℕ) (result : IoResult) (moved : Moved) → resume number result pair ≡ Some moved → moved.next ≢ Busy
resume-goes pair number result moved made busy = by (job_at number pair.small.jobs) made
  where
    work : (o : Option Work) → resume_large number result pair o ≡ Some moved → ⊥
    work None made = cc
    work (Some w) made = next-goes _ _ (subst (λ (x : Moved). x.next ≡ Busy) (sym (cond_some (waits_for w result) _ moved made).1) busy)

    by : (job : Option Job) → resume_in number result pair job ≡ Some moved → ⊥
    by None made = work (work_of number pair.large.jobs) made
    by (Some job) made =
        let m = mapped_some (λ m. after_small number job.op (by_small pair m)) (bighash.resume pair.small number result) moved made in
        job-goes pair.small result (job_at number pair.small.jobs) m.0 m.1 (small-busy number job.op (by_small pair m.0).pair m.0.next (subst (λ (x : Moved). x.next ≡ Busy) (sym m.2) busy))

pub busy_is_true : BusyIsTrue
busy_is_true pair = (λ number op. start-busy pair number op, λ number result moved. resume-goes pair number result moved)
