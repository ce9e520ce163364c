-- What a take comes to at the desk, and a reclaim: the desk matches the scene after it.
use Rattle.std.proofs.Common.{◌≡◌, ℕ, ◌+◌, Bool, true, List, [], ◌++◌, Option, Some, None, refl, ap, sym, ◌∙◌, subst, arith}
use Rattle.std.specs.Prelude.{option_map}
use Rattle.hc_types.specs.Config.{Config}
use Rattle.hc_types.specs.declared.config.FlashConfig.{FlashConfig}
use Rattle.hc_engines.specs.Engine.{Order, IoResult}
use Rattle.hc_memory.specs.Memory.{Memory}
use Rattle.hc_history.specs.Note.{Note}
use Rattle.hc_history.specs.Pages.{bytes_at}
use Rattle.hc_history.specs.Lawful.{past}
use Rattle.hc_machine.specs.Nvm.{Nvm, Job, job_at}
use Rattle.hc_machine.specs.Takes.{Take, Idle, Finished, Work, Taken}
use Rattle.hc_machine.specs.Cache.{Took}
use Rattle.hc_machine.specs.Workers.{after_take}
use Rattle.hc_machine.specs.World.{Says, World, order_in, result_at, by_call}
use Rattle.hc_machine.specs.Schedule.{Scene, Tells, in_world}
use Rattle.hc_invariant.specs.Good.{FlashPart, FlashGood, GoodRun, IsResult}
use Rattle.hc_machine.specs.Quiet.{jobs_in}
use Rattle.hc_theorem.specs.runs.Scene.{SceneHolds}
use Rattle.hc_theorem.proofs.runs.Devices.{waiting_is}
use Rattle.hc_theorem.proofs.runs.OrdersStay.{order-is}
use Rattle.hc_follows.specs.Desk.{Out, Desk, job_out}
use Rattle.hc_follows.specs.Workers.{TakePart}
use Rattle.hc_theorem.specs.idle.Takings.{JobsTaken, TakenSo}
use Rattle.hc_theorem.proofs.idle.TakesStill.{after_mute, after_jobs}
use Rattle.hc_theorem.proofs.clients.Telling.{mute_calls}
use Rattle.hc_theorem.specs.clients.Matches.{JobsMatch, Matches}
use Rattle.hc_theorem.proofs.clients.Stepping.{older_after}
use Rattle.hc_theorem.proofs.workers.Filled.{FillsTaken}
use Rattle.hc_theorem.proofs.workers.Served.{Settled, taken_settles}
use Rattle.hc_theorem.proofs.workers.JobsOut.{outs_by, taken_jobs}

-- ---- states

-- where there is flash, it is good
pub record OnFlash (flash : Option FlashConfig) (older : List Note) (memory : Memory) (nvm : Nvm) : Type 0 where
  pub config : FlashConfig
  pub is : flash ≡ Some config
  pub good : FlashGood config older memory nvm

pub on_flash : (flash : Option FlashConfig) (older : List Note) (memory : Memory) (o : Option Nvm) (nvm : Nvm) → o ≡ Some nvm → FlashPart flash older memory o → OnFlash flash older memory nvm
on_flash None older memory None nvm e g = absurd cc
on_flash None older memory (Some x) nvm e g = absurd g
on_flash (Some flash) older memory None nvm e g = absurd cc
on_flash (Some flash) older memory (Some x) nvm e g = let same : x ≡ nvm = cc in record { config = flash; is = refl; good = subst (FlashGood flash older memory) same g }

pub no_flash : (flash : Option FlashConfig) (older : List Note) (memory : Memory) (o : Option Nvm) → o ≡ None → FlashPart flash older memory o → flash ≡ None
no_flash None older memory o e g = refl
no_flash (Some flash) older memory None e g = absurd g
no_flash (Some flash) older memory (Some x) e g = absurd cc

-- a job that isn't out has no result
pub no_result : (config : Config) (log : List Note) (world : World) (n : ℕ) → GoodRun config log world → order_in world.cache.nvm n ≡ None → result_at n world.results ≡ None
no_result config log world n r h = go (result_at n world.results) refl
  where
    go : (o : Option IoResult) → result_at n world.results ≡ o → o ≡ None
    go None e = refl
    go (Some result) e = absurd (let its = waiting_is (past [] log) world n result e r.device in let none : IsResult (bytes_at (past [] log)) None result = subst (λ (o : Option Order). IsResult (bytes_at (past [] log)) o result) h its in nothing result none)
      where
        nothing : (result : IoResult) → IsResult (bytes_at (past [] log)) None result → ⊥
        nothing result h = h

-- ---- a take

abbrev pub desk_taken : Taken → List Note → Desk → Desk
desk_taken taken part desk = record { older = past desk.older part; slots = desk.slots; jobs = outs_by taken.take desk.jobs; adds = desk.adds; pages = desk.pages; failures = desk.failures }

module _ (config : Config) (log : List Note) (scene : Scene) (desk : Desk) (h : SceneHolds config log scene) (m : Matches log desk scene) (nvm : Nvm) (e : scene.world.cache.nvm ≡ Some nvm) where
  pub flash_at : OnFlash config.flash (past [] log) scene.world.cache.memory nvm
  flash_at = on_flash config.flash (past [] log) scene.world.cache.memory scene.world.cache.nvm nvm e h.holds.good.agrees.flash

  pub next_free : job_at (nvm.made + 1) nvm.jobs ≡ None
  next_free = flash_at.good.jobs.fresh (nvm.made + 1) (omega arith)

  pub jobs_match : JobsMatch desk.jobs desk.pages nvm.jobs scene.world.results scene.world.pages
  jobs_match = subst (λ (o : Option Nvm). JobsMatch desk.jobs desk.pages (jobs_in o) scene.world.results scene.world.pages) e m.jobs

  next_result : result_at (nvm.made + 1) scene.world.results ≡ None
  next_result = no_result config log scene.world (nvm.made + 1) h.holds (ap (λ o. order_in o (nvm.made + 1)) e ∙ order-is (Some nvm) (nvm.made + 1) ∙ ap (λ o. orders o) next_free)
    where
      orders : Option Job → Option Order
      orders o = option_map (λ (job : Job). job.order) o

  pub settles : (taken : Taken) → FillsTaken nvm.fills taken.filled taken.nvm.fills → Settled desk.slots scene.slots desk.adds (after_take taken scene.world.cache).cache
  settles taken f =
      let charges = h.holds.good.agrees.memory.charges in
      taken_settles desk.slots scene.slots desk.adds scene.world.cache nvm taken e (λ n l. omega (arith, charges.fresh n l)) (λ n. omega (arith, charges.one_number n)) f (record { slots_match = m.slots; adds_match = m.adds })

  pub taken_matches : (taken : Taken) → TakenSo nvm taken → FillsTaken nvm.fills taken.filled taken.nvm.fills
      → Matches (log ++ (after_take taken scene.world.cache).part) (desk_taken taken (after_take taken scene.world.cache).part desk) (in_world scene.slots (by_call scene.world (after_take taken scene.world.cache))).scene
  taken_matches taken so f =
      let s = settles taken f in
      let moved = after_take taken scene.world.cache in
      record {
        older = older_after log desk.older moved.part m.older;
        slots = s.slots_match;
        adds = s.adds_match;
        jobs = subst (λ (jobs : List Job). JobsMatch (outs_by taken.take desk.jobs) desk.pages jobs scene.world.results scene.world.pages) (sym (after_jobs taken scene.world.cache))
            (taken_jobs desk.jobs desk.pages nvm scene.world.results scene.world.pages taken.take taken.nvm.jobs jobs_match next_free next_result so.jobs);
        failures = m.failures;
      }

  -- a job that comes isn't out
  none_out : job_out (nvm.made + 1) desk.jobs ≡ None
  none_out = go (job_out (nvm.made + 1) desk.jobs) (jobs_match.orders (nvm.made + 1) ∙ ap orders next_free)
    where
      orders : Option Job → Option Order
      orders o = option_map (λ (job : Job). job.order) o

      go : (o : Option Out) → option_map (λ (out : Out). out.order) o ≡ None → o ≡ None
      go None h = refl
      go (Some out) h = absurd cc

  pub taken_part : (nothing : Bool) (taken : Taken) → TakenSo nvm taken → (taken.take ≡ Idle → (nothing ≡ true) × ((after_take taken scene.world.cache).part ≡ []))
      → TakePart nothing desk.jobs (Tells (Says (Took taken.take))) (after_take taken scene.world.cache).part
  taken_part nothing taken so idle = go taken.take refl so.jobs
    where
      part : List Note
      part = (after_take taken scene.world.cache).part

      go : (take : Take) → taken.take ≡ take → JobsTaken nvm take taken.nvm.jobs → TakePart nothing desk.jobs (Tells (Says (Took take))) (after_take taken scene.world.cache).part
      go Idle e j = idle e
      go Finished e j = mute_calls (after_take taken scene.world.cache).part (after_mute taken scene.world.cache so.mute)
      go (Work n order) e j = (subst (λ (k : ℕ). job_out k desk.jobs ≡ None) (sym j.1) none_out, mute_calls (after_take taken scene.world.cache).part (after_mute taken scene.world.cache so.mute))
