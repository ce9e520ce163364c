-- A result is handed in: it is told first, and the job is over or goes on.
use Rattle.std.proofs.Common.{◌≡◌, ℕ, Bool, true, false, List, [], ◌∷◌, ◌++◌, Option, Some, None, refl, ap, sym, ◌∙◌, subst}
use Rattle.std.specs.Prelude.{is_some, option_map, if◌then◌else◌}
use Rattle.hc_types.specs.Config.{Config}
use Rattle.hc_engines.specs.Engine.{Op, Pages, Order, Read, Write, IoResult, Page, Written, Failed, Next, Busy, Io, Done, Outcome, Answer, Nothing, Over, Absent, Found, Get, Put, Delete, Flush, Reclaim}
use Rattle.hc_engines.specs.small.BigHash as bighash
use Rattle.hc_engines.specs.small.BigHash.{Plan, ToRead, ToWrite, ToEnd, ToKeep, ToGiveUp}
use Rattle.hc_engines.specs.large.Block as block
use Rattle.hc_engines.specs.large.Steps as steps
use Rattle.hc_history.specs.Note.{Note}
use Rattle.hc_history.specs.Pages.{bytes_at}
use Rattle.hc_history.specs.Lawful.{past}
use Rattle.hc_engines.specs.pair.Pair as pairs
use Rattle.hc_engines.specs.pair.Pair.{Pair}
use Rattle.hc_machine.specs.Nvm.{Nvm, Job, job_at}
use Rattle.hc_machine.specs.Takes.{Take, Idle, Finished, Work, Taken, result_note, goes_on, resumed}
use Rattle.hc_machine.specs.Cache.{Moved, Took, takes_in}
use Rattle.hc_machine.specs.Workers.{fill, after_take}
use Rattle.hc_machine.specs.World.{Says, World, Result, order_in, result_at, without_result, by_call, done_of}
use Rattle.hc_machine.specs.Schedule.{Scene, Finish, Tells, in_world}
use Rattle.hc_invariant.specs.Good.{IsResult}
use Rattle.hc_machine.specs.Quiet.{jobs_in}
use Rattle.hc_theorem.specs.runs.Scene.{SceneHolds}
use Rattle.hc_theorem.proofs.runs.Devices.{waiting_is}
use Rattle.hc_theorem.proofs.runs.WritesAlone.{runs_of}
use Rattle.hc_theorem.proofs.runs.ResultsSuit.{suits}
use Rattle.hc_proof.proofs.frames.JobLists.{job_number}
use Rattle.hc_follows.specs.Desk.{Out, Desk, job_out}
use Rattle.hc_follows.specs.Workers.{IsNoted, IsToldFirst, FinishPart, result_out}
use Rattle.hc_theorem.specs.idle.Takings.{is_of_calls, AllMute, JobsWent, WentSo}
use Rattle.hc_laws.proofs.walk.Parts.{none_both, fill_leaves}
use Rattle.hc_theorem.proofs.idle.StillParts.{mute}
use Rattle.hc_theorem.proofs.runs.SilentSteps.{finish_is}
use Rattle.hc_theorem.proofs.idle.TakesStill.{after_jobs, goes_on_so}
use Rattle.hc_theorem.specs.clients.Matches.{JobsMatch, Matches}
use Rattle.hc_theorem.specs.clients.Deeds.{Followed, DeedFollows}
use Rattle.hc_theorem.proofs.clients.Stepping.{older_after}
use Rattle.hc_theorem.proofs.workers.Filled.{went_fills}
use Rattle.hc_theorem.proofs.workers.Served.{Settled}
use Rattle.hc_theorem.proofs.workers.JobsOut.{outs_went, went_jobs}
use Rattle.hc_theorem.proofs.workers.Made.{still_matches}
use Rattle.hc_theorem.proofs.clients.Telling.{mute_calls}
use Rattle.hc_theorem.proofs.workers.Takes.{flash_at, jobs_match, settles}

-- ---- what goes on is in no other's way

next_moves : (size bucket : ℕ) (op : Op) (plan : Plan) → bighash.next_of size bucket op plan ≡ Busy → ⊥
next_moves size bucket op ToRead e = absurd cc
next_moves size bucket op (ToWrite es losses) e = absurd cc
next_moves size bucket op (ToEnd answer) e = absurd cc
next_moves size bucket op (ToKeep word losses) e = absurd cc
next_moves size bucket op ToGiveUp e = absurd cc

large_moves : (outcome : Outcome) (order : Option Order) → pairs.next_of outcome order ≡ Busy → ⊥
large_moves outcome None e = absurd cc
large_moves outcome (Some order) e = absurd cc

went_moves : (number : ℕ) (key : List ℕ) (pair : Pair) (outcome : Outcome) (answer : Answer) → (pairs.went_on number key pair outcome answer).next ≡ Busy → ⊥
went_moves number key pair outcome Absent e = let got = steps.get pair.small.flash number key pair.large in large_moves (pairs.after_losses outcome.losses got.outcome) got.order e
went_moves number key pair outcome Nothing e = absurd cc
went_moves number key pair outcome Over e = absurd cc
went_moves number key pair outcome (Found entry) e = absurd cc

then_moves : (number : ℕ) (op : Op) (pair : Pair) (next : Next) → (next ≡ Busy → ⊥) → (pairs.then_large number op pair next).next ≡ Busy → ⊥
then_moves number op pair Busy h e = h refl
then_moves number (Get key) pair (Io order outcome) h e = absurd cc
then_moves number (Put entry) pair (Io order outcome) h e = absurd cc
then_moves number (Delete key) pair (Io order outcome) h e = absurd cc
then_moves number Flush pair (Io order outcome) h e = absurd cc
then_moves number Reclaim pair (Io order outcome) h e = absurd cc
then_moves number (Get key) pair (Done outcome) h e = went_moves number key pair outcome outcome.answer e
then_moves number (Put entry) pair (Done outcome) h e = absurd cc
then_moves number (Delete key) pair (Done outcome) h e = absurd cc
then_moves number Flush pair (Done outcome) h e = absurd cc
then_moves number Reclaim pair (Done outcome) h e = absurd cc

-- the next of a small job's plan isn't busy
plan_moves : (s : bighash.BigHash) (job : bighash.Job) (o : Option Plan) (m : bighash.Moved) → bighash.resumed s job o ≡ Some m → m.next ≡ Busy → ⊥
plan_moves s job None m e b = absurd cc
plan_moves s job (Some plan) m e b =
    let its : bighash.moved s job.number job.bucket job.op plan ≡ m = cc in
    next_moves s.flash.page job.bucket job.op plan (ap (λ (x : bighash.Moved). x.next) its ∙ b)

small_moves : (s : bighash.BigHash) (o : Option bighash.Job) (result : IoResult) (m : bighash.Moved) → bighash.resume_job s o result ≡ Some m → m.next ≡ Busy → ⊥
small_moves s None result m e b = absurd cc
small_moves s (Some job) result m e b = plan_moves s job (bighash.went_on s.flash.page job.op job.phase result) m e b

pub resumes_moving : (number : ℕ) (result : IoResult) (pair : Pair) (m : pairs.Moved) → pairs.resume number result pair ≡ Some m → m.next ≡ Busy → ⊥
resumes_moving number result pair m e b = go (bighash.job_at number pair.small.jobs) e
  where
    large : (work : block.Work) (waits : Bool) → (if waits then Some (pairs.by_large pair [] (steps.resume pair.small.flash number work result pair.large)) else None) ≡ Some m → ⊥
    large work false e = absurd cc
    large work true e =
        let got = steps.resume pair.small.flash number work result pair.large in
        let its : pairs.by_large pair [] got ≡ m = cc in
        large_moves got.outcome got.order (ap (λ (x : pairs.Moved). x.next) its ∙ b)

    by_work : (o : Option block.Work) → pairs.resume_large number result pair o ≡ Some m → ⊥
    by_work None e = absurd cc
    by_work (Some work) e = large work (pairs.waits_for work result) e

    small : (job : bighash.Job) (o : Option bighash.Moved) → bighash.resume pair.small number result ≡ o → option_map (λ moved. pairs.after_small number job.op (pairs.by_small pair moved)) o ≡ Some m → ⊥
    small job None f e = absurd cc
    small job (Some moved) f e =
        let its : pairs.after_small number job.op (pairs.by_small pair moved) ≡ m = cc in
        then_moves number job.op (pairs.by_small pair moved).pair moved.next (small_moves pair.small (bighash.job_at number pair.small.jobs) result moved f) (ap (λ (x : pairs.Moved). x.next) its ∙ b)

    go : (o : Option bighash.Job) → pairs.resume_in number result pair o ≡ Some m → ⊥
    go None e = by_work (block.work_of number pair.large.jobs) e
    go (Some job) e = small job (bighash.resume pair.small number result) refl e

-- ---- what is told

is_noted : (pages : Pages) (order : Order) (result : IoResult) → IsResult pages (Some order) result → IsNoted order result (result_note order result)
is_noted pages (Read page) (Page bytes) h = (refl, refl)
is_noted pages (Read page) Failed h = refl
is_noted pages (Read page) Written h = absurd h
is_noted pages (Write page bytes) Written h = (refl, refl)
is_noted pages (Write page bytes) Failed h = (refl, refl)
is_noted pages (Write page bytes) (Page read) h = absurd h

result_none : (job : ℕ) (outs : List Out) (rs : List Result) → ((out : Out) → job_out job outs ≡ Some out → out.result ≡ result_at job rs) → result_at job rs ≡ None → result_out (job_out job outs) ≡ None
result_none job outs rs each none = go (job_out job outs) refl
  where
    go : (o : Option Out) → job_out job outs ≡ o → result_out o ≡ None
    go None e = refl
    go (Some out) e = each out e ∙ none

-- ---- the step

some_of : (o : Option pairs.Moved) → is_some o ≡ true → (m : pairs.Moved) × (o ≡ Some m)
some_of None h = absurd cc
some_of (Some m) h = (m, refl)

module _ (number : ℕ) (config : Config) (log : List Note) (scene : Scene) (desk : Desk) (client : ℕ) (h : SceneHolds config log scene) (m : Matches log desk scene) where
  abbrev left : World
  left = record scene.world { results = without_result number scene.world.results }

  refused_follows : result_at number scene.world.results ≡ None → Followed config log desk client (Finish number) (in_world scene.slots (done_of scene.world number None))
  refused_follows none =
      let s = still_matches log desk scene m in
      record { part = (result_none number desk.jobs scene.world.results (m.jobs.results number) none, refl); matches = record { older = s.older; slots = s.slots; adds = s.adds; jobs = s.jobs; failures = s.failures } }

  module _ (result : IoResult) (nvm : Nvm) (job : Job) (moved : pairs.Moved) (e : scene.world.cache.nvm ≡ Some nvm) (at : job_at number nvm.jobs ≡ Some job) (goes : pairs.resume job.number result nvm.pair ≡ Some moved)
      (waits : result_at number scene.world.results ≡ Some result) (its : IsResult (bytes_at (past [] log)) (Some job.order) result) where
    abbrev taken : Taken
    taken = resumed job result nvm moved

    abbrev more : Nvm
    more = record nvm { pair = moved.pair }

    went : WentSo job.number more (goes_on job moved.next more)
    went = goes_on_so job moved.next more (resumes_moving job.number result nvm.pair moved goes)

    abbrev rest : List Note
    rest = (goes_on job moved.next more).part ++ (fill taken.filled (takes_in taken.part taken.nvm scene.world.cache).cache).part

    rest_mute : AllMute rest
    rest_mute =
        let base = (takes_in taken.part taken.nvm scene.world.cache).cache in
        none_both is_of_calls (goes_on job moved.next more).part (fill taken.filled base).part went.mute (fill_leaves mute taken.filled base).none

    same_number : job.number ≡ number
    same_number = job_number number nvm.jobs job at

    went_by : JobsWent number nvm.jobs taken.take taken.nvm.jobs
    went_by = subst (λ (n : ℕ). JobsWent n nvm.jobs taken.take taken.nvm.jobs) same_number went.jobs

    jobs : JobsMatch desk.jobs desk.pages nvm.jobs scene.world.results scene.world.pages
    jobs = jobs_match config log scene desk h m nvm e

    out_is : (out : Out) × (job_out number desk.jobs ≡ Some out) × (out.order ≡ job.order)
    out_is = go (job_out number desk.jobs) (jobs.orders number ∙ ap (option_map (λ (j : Job). j.order)) at)
      where
        go : (o : Option Out) → option_map (λ (out : Out). out.order) o ≡ Some job.order → (out : Out) × (o ≡ Some out) × (out.order ≡ job.order)
        go None h = absurd cc
        go (Some out) h = (out, refl, cc)

    told_first : (out : Out) → out.order ≡ job.order → out.result ≡ Some result → IsToldFirst out.order out.result (result_note job.order result ∷ rest)
    told_first out same r =
        subst (λ (o : Order). IsToldFirst o out.result (result_note job.order result ∷ rest)) (sym same)
        (subst (λ (x : Option IoResult). IsToldFirst job.order x (result_note job.order result ∷ rest)) (sym r) (is_noted (bytes_at (past [] log)) job.order result its, mute_calls rest rest_mute))

    by_take : (out : Out) → IsToldFirst out.order out.result (result_note job.order result ∷ rest) → (take : Take) → JobsWent number nvm.jobs take taken.nvm.jobs
        → FinishPart number (Some out) (Tells (Says (Took take))) (result_note job.order result ∷ rest)
    by_take out t Idle j = absurd j
    by_take out t Finished j = t
    by_take out t (Work n order) j = (j.0, t)

    finish_part : FinishPart number (job_out number desk.jobs) (Tells (Says (Took taken.take))) (after_take taken scene.world.cache).part
    finish_part =
        let out = out_is in
        subst (λ (o : Option Out). FinishPart number o (Tells (Says (Took taken.take))) (result_note job.order result ∷ rest)) (sym out.1)
        (by_take out.0 (told_first out.0 out.2 (m.jobs.results number out.0 out.1 ∙ waits)) taken.take went_by)

    after_jobs_match : JobsMatch (outs_went number taken.take desk.jobs) desk.pages (jobs_in (after_take taken scene.world.cache).cache.nvm) (without_result number scene.world.results) scene.world.pages
    after_jobs_match =
        subst (λ (xs : List Job). JobsMatch (outs_went number taken.take desk.jobs) desk.pages xs (without_result number scene.world.results) scene.world.pages) (sym (after_jobs taken scene.world.cache))
        (went_jobs desk.jobs desk.pages nvm.jobs scene.world.results scene.world.pages number job taken.take taken.nvm.jobs jobs at went_by)

    settled : Settled desk.slots scene.slots desk.adds (after_take taken scene.world.cache).cache
    settled = settles config log scene desk h m nvm e taken (went_fills job moved.next more (flash_at config log scene desk h m nvm e).good.fills.one)

    finished_follows : (take : Take) → FinishPart number (job_out number desk.jobs) (Tells (Says (Took take))) (after_take taken scene.world.cache).part
        → JobsMatch (outs_went number take desk.jobs) desk.pages (jobs_in (after_take taken scene.world.cache).cache.nvm) (without_result number scene.world.results) scene.world.pages
        → Followed config log desk client (Finish number) (record { scene = record { world = record left { cache = (after_take taken scene.world.cache).cache }; slots = scene.slots }; told = Tells (Says (Took take)); part = (after_take taken scene.world.cache).part })
    finished_follows Idle p j = record { part = p; matches = record { older = older_after log desk.older (after_take taken scene.world.cache).part m.older; slots = settled.slots_match; adds = settled.adds_match; jobs = j; failures = m.failures } }
    finished_follows Finished p j = record { part = p; matches = record { older = older_after log desk.older (after_take taken scene.world.cache).part m.older; slots = settled.slots_match; adds = settled.adds_match; jobs = j; failures = m.failures } }
    finished_follows (Work n order) p j = record { part = p; matches = record { older = older_after log desk.older (after_take taken scene.world.cache).part m.older; slots = settled.slots_match; adds = settled.adds_match; jobs = j; failures = m.failures } }

    handed_in : Followed config log desk client (Finish number) (in_world scene.slots (by_call left (after_take taken scene.world.cache)))
    handed_in = finished_follows taken.take finish_part after_jobs_match

  done_follows : (result : IoResult) → result_at number scene.world.results ≡ Some result → Followed config log desk client (Finish number) (in_world scene.slots (done_of scene.world number (Some result)))
  done_follows result waits = by_nvm scene.world.cache.nvm refl (waiting_is (past [] log) scene.world number result waits h.holds.device)
    where
      by_job : (nvm : Nvm) → scene.world.cache.nvm ≡ Some nvm → (o : Option Job) → job_at number nvm.jobs ≡ o → IsResult (bytes_at (past [] log)) (order_in (Some nvm) number) result → Followed config log desk client (Finish number) (in_world scene.slots (done_of scene.world number (Some result)))
      by_job nvm e None at its = absurd (let none : order_in (Some nvm) number ≡ None = rw at refl in let x : IsResult (bytes_at (past [] log)) None result = subst (λ (o : Option Order). IsResult (bytes_at (past [] log)) o result) none its in nothing result x)
        where
          nothing : (result : IoResult) → IsResult (bytes_at (past [] log)) None result → ⊥
          nothing result h = h
      by_job nvm e (Some job) at its =
          let ordered : order_in (Some nvm) number ≡ Some job.order = rw at refl in
          let mine : IsResult (bytes_at (past [] log)) (Some job.order) result = subst (λ (o : Option Order). IsResult (bytes_at (past [] log)) o result) ordered its in
          let f = (flash_at config log scene desk h m nvm e).good in
          let moved = some_of (pairs.resume number result nvm.pair) (suits (bytes_at (past [] log)) nvm number job.order result (runs_of nvm number job.order f.jobs ordered) mine) in
          let goes : pairs.resume job.number result nvm.pair ≡ Some moved.0 = ap (λ n. pairs.resume n result nvm.pair) (job_number number nvm.jobs job at) ∙ moved.1 in
          subst (λ (x : Moved). Followed config log desk client (Finish number) (in_world scene.slots (by_call left x))) (sym (finish_is scene.world.cache nvm number job result moved.0 e at goes))
          (handed_in result nvm job moved.0 e at goes waits mine)

      by_nvm : (o : Option Nvm) → scene.world.cache.nvm ≡ o → IsResult (bytes_at (past [] log)) (order_in o number) result → Followed config log desk client (Finish number) (in_world scene.slots (done_of scene.world number (Some result)))
      by_nvm None e its = absurd (nothing result its)
        where
          nothing : (result : IoResult) → IsResult (bytes_at (past [] log)) None result → ⊥
          nothing result h = h
      by_nvm (Some nvm) e its = by_job nvm e (job_at number nvm.jobs) refl its

  by_result : (o : Option IoResult) → result_at number scene.world.results ≡ o → Followed config log desk client (Finish number) (in_world scene.slots (done_of scene.world number o))
  by_result None e = refused_follows e
  by_result (Some result) e = done_follows result e

pub finish_follows : (job : ℕ) → DeedFollows (Finish job)
finish_follows job config log scene desk client before after m = by_result job config log scene desk client before m (result_at job scene.world.results) refl
