-- Every schedule's run follows its steps: one step after the other, and the end.
use Rattle.std.proofs.Common.{◌≡◌, ℕ, Bool, List, [], ◌∷◌, ◌++◌, length, suc, Option, Some, None, refl, ap, sym, ◌∙◌, arith}
use Rattle.std.specs.Prelude.{option_map}
use Rattle.hc_types.specs.Tally.{count}
use Rattle.hc_types.specs.Config.{Config}
use Rattle.hc_types.specs.declared.config.FlashConfig.{FlashConfig}
use Rattle.hc_engines.specs.large.Region.{Clean, Draining}
use Rattle.hc_engines.proofs.large.New.{all_clean}
use Rattle.hc_memory.specs.Memory.{Memory}
use Rattle.hc_history.specs.Note.{Note}
use Rattle.hc_machine.specs.Nvm.{Nvm, Job, new_nvm, job_at, adds}
use Rattle.hc_machine.specs.Schedule.{Deed, Open, Put, PutNew, Discard, Find, Remove, Reply, Tick, WriterTake, FillerTake, Reclaim, Io, Finish, Step, Scene, new_scene, does, step, run_from, ended}
use Rattle.hc_invariant.specs.Tells.{waiters_of}
use Rattle.hc_invariant.specs.Good.{FlashPart, fills_of}
use Rattle.hc_invariant.specs.Laws.{Laws}
use Rattle.hc_invariant.specs.Structure.{Structured}
use Rattle.hc_invariant.proofs.Beginning.{new_run}
use Rattle.hc_invariant.proofs.Ends.{good_ends}
use Rattle.hc_proof.proofs.structure.Workers.{begins}
use Rattle.hc_machine.specs.Quiet.{jobs_in}
use Rattle.hc_theorem.specs.runs.Scene.{SceneHolds}
use Rattle.hc_theorem.specs.runs.Schedule.{AllStepSized}
use Rattle.hc_theorem.proofs.runs.Scheduling.{does_hold}
use Rattle.hc_theorem.specs.idle.Stones.{StonesOf, JobsOf}
use Rattle.hc_theorem.specs.idle.AccountsKept.{AccountsOf}
use Rattle.hc_theorem.proofs.idle.StonesKept.{step_keeps_stones}
use Rattle.hc_theorem.proofs.idle.AccountsKept.{step_keeps_accounts}
use Rattle.hc_follows.specs.Desk.{Desk, new_desk}
use Rattle.hc_follows.specs.Follows.{desk_after, IsStep, slots_freed, FollowsFrom}
use Rattle.hc_theorem.specs.clients.Matches.{AllTold, Matches}
use Rattle.hc_theorem.specs.clients.Deeds.{Followed, WorkersFollow, SchedulesFollow}
use Rattle.hc_theorem.proofs.clients.Stepping.{good_at, opens_at}
use Rattle.hc_theorem.proofs.clients.Asking.{tick_follows, reply_follows}
use Rattle.hc_theorem.proofs.clients.Finding.{find_follows}
use Rattle.hc_theorem.proofs.clients.Putting.{put_follows, discard_follows, remove_follows}
use Rattle.hc_theorem.proofs.clients.PuttingNew.{put_new_follows}
use Rattle.hc_theorem.proofs.clients.Opening.{open_follows}
use Rattle.hc_theorem.proofs.clients.Claims.{claimed}
use Rattle.hc_theorem.proofs.clients.Clock.{clocked}
use Rattle.hc_theorem.proofs.clients.Ending.{freed_at_end}
use Rattle.hc_theorem.proofs.charges.Structures.{step_structured}
use Rattle.hc_theorem.proofs.charges.Steps.{charging}

-- ---- each kind of step

deed_follows : WorkersFollow → (deed : Deed) (config : Config) (log : List Note) (scene : Scene) (desk : Desk) (client : ℕ) → SceneHolds config log scene → SceneHolds config (log ++ (does client deed scene).part) (does client deed scene).scene
    → StonesOf scene.world.cache.nvm → AccountsOf config.flash desk.older scene.world.cache.nvm → Matches log desk scene → Followed config log desk client deed (does client deed scene)
deed_follows workers (Open slot pool key value ttl) config log scene desk client h after stones accounts m = open_follows slot pool key value ttl config log scene desk client h after m
deed_follows workers (Put slot) config log scene desk client h after stones accounts m = put_follows slot config log scene desk client h after m
deed_follows workers (PutNew slot) config log scene desk client h after stones accounts m = put_new_follows slot config log scene desk client h after m
deed_follows workers (Discard slot) config log scene desk client h after stones accounts m = discard_follows slot config log scene desk client h after m
deed_follows workers (Find key) config log scene desk client h after stones accounts m = find_follows key config log scene desk client h after m
deed_follows workers (Remove key) config log scene desk client h after stones accounts m = remove_follows key config log scene desk client h after m
deed_follows workers (Reply call) config log scene desk client h after stones accounts m = reply_follows call config log scene desk client h after m
deed_follows workers (Tick moment) config log scene desk client h after stones accounts m = tick_follows moment config log scene desk client h after m
deed_follows workers WriterTake config log scene desk client h after stones accounts m = workers.writer config log scene desk client h after stones accounts m
deed_follows workers FillerTake config log scene desk client h after stones accounts m = workers.filler config log scene desk client h after m
deed_follows workers Reclaim config log scene desk client h after stones accounts m = workers.reclaim config log scene desk client h after m
deed_follows workers (Io job fails) config log scene desk client h after stones accounts m = workers.io job fails config log scene desk client h after m
deed_follows workers (Finish job) config log scene desk client h after stones accounts m = workers.finish job config log scene desk client h after m

-- ---- the beginning

new_jobs : (flash : Option FlashConfig) (n : ℕ) → ◌≡◌ {A = Option Job} None (job_at n (jobs_in (option_map new_nvm flash)))
new_jobs None n = refl
new_jobs (Some flash) n = refl

new_counts : (flash : Option FlashConfig) (n : ℕ) → 0 ≡ count (adds n) (waiters_of (fills_of (option_map new_nvm flash)))
new_counts None n = refl
new_counts (Some flash) n = refl

new_told : (flash : Option FlashConfig) → AllTold [] (waiters_of (fills_of (option_map new_nvm flash)))
new_told None = tt
new_told (Some flash) = tt

new_matches : (config : Config) (breaks : List Bool) → Matches [] new_desk (new_scene config breaks)
new_matches config breaks = record {
  older = refl;
  slots = record { same = refl; one_slot = λ n. omega arith; known = tt; held = λ n. omega (arith, new_counts config.flash n) };
  adds = record { told = new_told config.flash; one_add = λ n. omega arith; fresh = λ n later. refl };
  jobs = record { orders = λ n. ap (option_map (λ (job : Job). job.order)) (new_jobs config.flash n); results = λ n out e. absurd cc; sheets = λ page. refl };
  failures = refl;
}

new_stones : (flash : Option FlashConfig) → StonesOf (option_map new_nvm flash)
new_stones None = tt
new_stones (Some flash) = λ key h. absurd cc

new_accounts : (flash : Option FlashConfig) → AccountsOf flash [] (option_map new_nvm flash)
new_accounts None = tt
new_accounts (Some flash) = record {
  listed = λ r. rw (all_clean flash.regions r) tt;
  drained = λ r d. absurd (let clean : Clean ≡ Draining = (rw (all_clean flash.regions r) at d) in cc);
  written = λ r c. absurd cc;
}

-- ---- one step after the other

jobs_of : (flash : Option FlashConfig) (older : List Note) (memory : Memory) (nvm : Option Nvm) → FlashPart flash older memory nvm → JobsOf nvm
jobs_of flash older memory None g = tt
jobs_of None older memory (Some nvm) g = absurd g
jobs_of (Some flash) older memory (Some nvm) g = g.jobs

module _ (laws : Laws) (workers : WorkersFollow) (config : Config) where
  walks : (log : List Note) (scene : Scene) (desk : Desk) (steps : List Step) → SceneHolds config log scene → AllStepSized steps → StonesOf scene.world.cache.nvm → AccountsOf config.flash desk.older scene.world.cache.nvm → Structured scene.world.cache → Matches log desk scene
      → FollowsFrom config desk steps (run_from steps scene).answers (run_from steps scene).parts (ended (run_from steps scene)).part
  walks log scene desk [] h sized stones accounts whole m =
      let g = (good_at config log desk scene h m).agrees in
      freed_at_end scene.slots scene.world.cache (opens_at config desk.older scene.world.cache desk.slots scene.slots g m.slots) ∙ ap slots_freed (sym m.slots.same)
  walks log scene desk (s ∷ steps) h sized stones accounts whole m =
      let done = step s scene in
      let after = does_hold laws config log scene h s.client s.deed sized.0 in
      let f = deed_follows workers s.deed config log scene desk s.client h after stones accounts m in
      let before = (good_at config log desk scene h m).agrees in
      let left = step_keeps_stones s.client s.deed scene (jobs_of config.flash desk.older scene.world.cache.memory scene.world.cache.nvm before.flash) stones in
      let told = step_keeps_accounts s.client s.deed config desk.older scene before accounts in
      let next = desk_after s.deed done.told done.part desk in
      let g = (good_at config (log ++ done.part) next done.scene after f.matches).agrees in
      let charged = charging config log scene desk m (good_at config log desk scene h m) whole s.client s.deed in
      let one : IsStep config desk s.client s.deed done.told done.part = record {
        part_of = f.part;
        clocked = clocked s.client s.deed scene desk.older done.part before.clock g.clock;
        charges = charged.0;
        frees = charged.1;
        claimed = claimed config next done.scene.world.cache done.scene.slots g f.matches.slots f.matches.adds;
        at_end = good_ends config next.older done.scene.world.cache g;
      } in
      (one, walks (log ++ done.part) done.scene next steps after sized.1 left told (step_structured s.client scene whole s.deed) f.matches)

all_made : (steps : List Step) (scene : Scene) → length (run_from steps scene).answers ≡ length steps
all_made [] scene = refl
all_made (s ∷ steps) scene = ap suc (all_made steps (step s scene).scene)

pub schedules_follow : Laws → WorkersFollow → SchedulesFollow
schedules_follow laws workers config breaks steps can sized = record {
  stops = all_made steps (new_scene config breaks);
  follows = walks laws workers config [] (new_scene config breaks) new_desk steps (record { holds = new_run config breaks can; sized = tt }) sized (new_stones config.flash) (new_accounts config.flash) (begins config) (new_matches config breaks);
}
