-- Each call hands in no result, but for `finish`: nothing is read or written, and each job goes on with its order.
use Rattle.std.proofs.Common.{◌≡◌, ℕ, ◌==◌, false, List, ◌++◌, Option, Some, None, refl, ap, sym, ◌∙◌, subst}
use Rattle.std.specs.Prelude.{option_map}
use Rattle.hc_engines.specs.Engine.{Order, IoResult, Next, Busy, Io, Done}
use Rattle.hc_memory.specs.Memory.{linked_at}
use Rattle.hc_history.specs.Note.{Note, Read, Wrote}
use Rattle.hc_engines.specs.pair.Pair as pairs
use Rattle.hc_machine.specs.Nvm.{Nvm, Job, job_at}
use Rattle.hc_machine.specs.Takes as takes
use Rattle.hc_machine.specs.Takes.{Take, Idle, Finished, Work, Taken, goes_on, resumed}
use Rattle.hc_machine.specs.Cache.{Cache, Moved, takes_in}
use Rattle.hc_machine.specs.Calls as calls
use Rattle.hc_machine.specs.Call.{CacheCall, Allocates, Inserts, Adds, Discards, Finds, Removes, Replies, Ticks, Writes, Fills, Reclaims, Finishes, act}
use Rattle.hc_machine.specs.Workers as workers
use Rattle.hc_machine.specs.Workers.{after_take, take_on, fill}
use Rattle.hc_machine.specs.World.{order_in}
use Rattle.hc_machine.specs.Quiet.{jobs_in}
use Rattle.hc_laws.proofs.walk.Parts.{none_both, none_less, fill_leaves}
use Rattle.hc_laws.proofs.walk.Calls.{allocate_leaves, discard_leaves, insert_leaves, new_leaves, find_leaves, remove_leaves, reply_leaves, tick_leaves}
use Rattle.hc_theorem.specs.idle.Still.{is_of_pages, StillStep}
use Rattle.hc_theorem.specs.idle.Takings.{is_of_calls, AllMute, JobsTaken, TakenSo, JobsWent, WentSo}
use Rattle.hc_theorem.specs.runs.NoIo.{is_io, NoIo, HandsInNothing, NoIoStep, FinishStep}
use Rattle.hc_theorem.proofs.idle.StillParts.{calm, mute, still_jobs}
use Rattle.hc_theorem.proofs.idle.TakesStill.{after_mute, after_jobs, writer_so, filler_so, goes_on_so, reclaim_so}
use Rattle.hc_theorem.proofs.runs.OrdersStay.{order_at, order-is, same_orders, pushed_order, ordered_other, without_other}
use Rattle.hc_proof.proofs.frames.JobLists.{job_number}

-- ---- what of pages is told by a call of clients

of_pages : (note : Note) → is_of_pages note ≡ false → is_io note ≡ false
of_pages (Read page result) h = h
of_pages (Wrote page bytes is_written) h = h
of_pages note h = refl

no_io : (cache : Cache) (moved : Moved) → StillStep cache moved → NoIoStep cache moved
no_io cache moved s = record { silent = none_less is_io is_of_pages of_pages moved.part s.none; orders = same_orders cache.nvm moved.cache.nvm (still_jobs cache.nvm moved.cache.nvm s.flash) }

-- ---- takes

of_calls : (note : Note) → is_of_calls note ≡ false → is_io note ≡ false
of_calls (Read page result) h = h
of_calls (Wrote page bytes is_written) h = h
of_calls note h = refl

silent : (part : List Note) → AllMute part → NoIo part
silent part h = none_less is_io is_of_calls of_calls part h

taken_orders : (nvm : Nvm) (taken : Taken) → TakenSo nvm taken → (n : ℕ) (order : Order) → order_at nvm.jobs n ≡ Some order → order_at taken.nvm.jobs n ≡ Some order
taken_orders nvm taken so n order h = go taken.take so.jobs
  where
    go : (take : Take) → JobsTaken nvm take taken.nvm.jobs → order_at taken.nvm.jobs n ≡ Some order
    go Idle j = ap (λ jobs. order_at jobs n) j ∙ h
    go Finished j = ap (λ jobs. order_at jobs n) j ∙ h
    go (Work number other) j = ap (λ jobs. order_at jobs n) j.2 ∙ pushed_order n order (record { number = number; task = j.0; order = other }) nvm.jobs h

taken_no_io : (cache : Cache) (take : Nvm → Taken) → ((nvm : Nvm) → TakenSo nvm (take nvm)) → NoIoStep cache (take_on cache.nvm take cache)
taken_no_io cache take q = go cache.nvm refl
  where
    go : (nvm : Option Nvm) → cache.nvm ≡ nvm → NoIoStep cache (take_on nvm take cache)
    go None e = record { silent = refl; orders = λ n order h. h }
    go (Some nvm) e = record {
      silent = silent (after_take (take nvm) cache).part (after_mute (take nvm) cache (q nvm).mute);
      orders = λ n order h.
          order-is (after_take (take nvm) cache).cache.nvm n ∙ ap (λ jobs. order_at jobs n) (after_jobs (take nvm) cache)
          ∙ taken_orders nvm (take nvm) (q nvm) n order (sym (order-is (Some nvm) n) ∙ sym (ap (λ o. order_in o n) e) ∙ h);
    }

reclaim_no_io : (cache : Cache) → NoIoStep cache (workers.reclaim cache)
reclaim_no_io cache = go cache.nvm refl
  where
    go : (nvm : Option Nvm) → cache.nvm ≡ nvm → NoIoStep cache (workers.reclaim_on nvm cache)
    go None e = record { silent = refl; orders = λ n order h. h }
    go (Some nvm) e =
        let r = reclaim_so nvm in
        let change = (takes.reclaim nvm).change in
        record { silent = silent change.part r.mute; orders = same_orders cache.nvm (Some change.nvm) (r.jobs ∙ sym (ap jobs_in e)) }

-- ---- each call that hands in no result

pub act_no_io : (call : CacheCall) → HandsInNothing call → (cache : Cache) → NoIoStep cache (act call cache)
act_no_io (Allocates pool key value ttl) h cache = no_io cache _ (allocate_leaves calm pool key value ttl cache)
act_no_io (Inserts client handle) h cache = no_io cache _ (insert_leaves calm client handle cache)
act_no_io (Adds client handle) h cache = no_io cache _ (new_leaves calm client handle cache)
act_no_io (Discards handle) h cache = no_io cache _ (discard_leaves calm handle cache)
act_no_io (Finds client key) h cache = no_io cache _ (find_leaves calm client key cache)
act_no_io (Removes client key) h cache = no_io cache _ (remove_leaves calm (calls.remove_reply (linked_at key cache.memory.pools)) client key cache)
act_no_io (Replies call) h cache = no_io cache _ (reply_leaves calm call cache)
act_no_io (Ticks moment) h cache = record { silent = none_less is_io is_of_pages of_pages (calls.tick moment cache).part (tick_leaves calm moment cache).none; orders = λ n order h. h }
act_no_io Writes h cache = taken_no_io cache takes.writer_take writer_so
act_no_io Fills h cache = taken_no_io cache takes.filler_take filler_so
act_no_io Reclaims h cache = reclaim_no_io cache
act_no_io (Finishes number result) h cache = absurd h

-- ---- a result is handed in

record GoesOn (number : ℕ) (nvm : Nvm) (taken : Taken) : Type 0 where
  silent : NoIo taken.part
  others : (n : ℕ) → (n == number) ≡ false → order_at taken.nvm.jobs n ≡ order_at nvm.jobs n

went_on : (number : ℕ) (nvm : Nvm) (taken : Taken) → WentSo number nvm taken → GoesOn number nvm taken
went_on number nvm taken w = record { silent = silent taken.part w.mute; others = λ n other. go n other taken.take w.jobs }
  where
    go : (n : ℕ) → (n == number) ≡ false → (take : Take) → JobsWent number nvm.jobs take taken.nvm.jobs → order_at taken.nvm.jobs n ≡ order_at nvm.jobs n
    go n other Idle j = absurd j
    go n other Finished j = ap (λ jobs. order_at jobs n) j ∙ without_other number n nvm.jobs other
    go n other (Work m order) j = ap (λ jobs. order_at jobs n) j.1 ∙ ordered_other number n order nvm.jobs other

goes_on_to : (job : Job) (next : Next) (nvm : Nvm) → GoesOn job.number nvm (goes_on job next nvm)
goes_on_to job Busy nvm = record { silent = refl; others = λ n other. refl }
goes_on_to job (Io order outcome) nvm = went_on job.number nvm (goes_on job (Io order outcome) nvm) (goes_on_so job (Io order outcome) nvm (λ e. absurd cc))
goes_on_to job (Done outcome) nvm = went_on job.number nvm (goes_on job (Done outcome) nvm) (goes_on_so job (Done outcome) nvm (λ e. absurd cc))

pub finish_is : (cache : Cache) (nvm : Nvm) (number : ℕ) (job : Job) (result : IoResult) (m : pairs.Moved) → cache.nvm ≡ Some nvm → job_at number nvm.jobs ≡ Some job → pairs.resume job.number result nvm.pair ≡ Some m
    → workers.finish number result cache ≡ after_take (resumed job result nvm m) cache
finish_is cache nvm number job result m e at goes =
    ap (λ o. workers.finish_on o number result cache) e ∙ ap (λ o. workers.after_finish o cache) (ap (λ o. takes.finish_job o result nvm) at ∙ ap (option_map (resumed job result nvm)) goes)

pub finish_step : (cache : Cache) (nvm : Nvm) (number : ℕ) (job : Job) (result : IoResult) (moved : pairs.Moved) → cache.nvm ≡ Some nvm → job_at number nvm.jobs ≡ Some job → pairs.resume job.number result nvm.pair ≡ Some moved
    → FinishStep cache number job.order result (workers.finish number result cache)
finish_step cache nvm number job result moved e at resume =
    let taken = resumed job result nvm moved in
    let left = (goes_on job moved.next (record nvm { pair = moved.pair })).part in
    let filled = fill taken.filled (takes_in taken.part taken.nvm cache).cache in
    let went = goes_on_to job moved.next (record nvm { pair = moved.pair }) in
    subst (λ (m : Moved). FinishStep cache number job.order result m) (sym (finish_is cache nvm number job result moved e at resume)) (record {
      rest = left ++ filled.part;
      told = refl;
      silent = none_both is_io left filled.part went.silent (silent filled.part (fill_leaves mute taken.filled (takes_in taken.part taken.nvm cache).cache).none);
      orders = λ n other o h.
          order-is (after_take taken cache).cache.nvm n ∙ ap (λ jobs. order_at jobs n) (after_jobs taken cache)
          ∙ went.others n (ap (λ m. n == m) (job_number number nvm.jobs job at) ∙ o)
          ∙ sym (order-is (Some nvm) n) ∙ sym (ap (λ x. order_in x n) e) ∙ h;
    })
