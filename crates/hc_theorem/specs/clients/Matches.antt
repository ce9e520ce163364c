-- What ties a desk to a scene of the machine, between two steps.
use Rattle.std.specs.Prelude.{◌≡◌, ℕ, ◌+◌, ◌<◌, ◌≤◌, ◌==◌, List, [], ◌∷◌, map, find, Option, Some, None, option_map}
use Rattle.hc_types.specs.Tally.{count}
use Rattle.hc_engines.specs.Engine.{Pages}
use Rattle.hc_memory.specs.Item.{Open}
use Rattle.hc_machine.specs.items.Items.{open_has}
use Rattle.hc_history.specs.Note.{Note}
use Rattle.hc_history.specs.Lawful.{past}
use Rattle.hc_machine.specs.Nvm.{Wish, ToFind, ToAdd, Waiter, Fill, Job, job_at, adds}
use Rattle.hc_machine.specs.World.{Result, result_at}
use Rattle.hc_machine.specs.Schedule.{Slot, Scene, is_slot}
use Rattle.hc_invariant.specs.Tells.{waiters_of}
use Rattle.hc_invariant.specs.Good.{fills_of}
use Rattle.hc_machine.specs.Quiet.{jobs_in}
use Rattle.hc_theorem.specs.slots.Opens.{holds, AllOpen}
use Rattle.hc_follows.specs.Desk.{Kept, Out, Adding, Sheet, Desk, job_out}
use Rattle.hc_follows.specs.Workers.{sheet_at}

-- ---- slots

-- what fills a slot, by its handle
abbrev pub kept_of : Slot → Kept
kept_of slot = record { slot = slot.number; charge = slot.handle.number; key = slot.handle.key; value = slot.handle.value; expiry = slot.handle.expiry }

pub record SlotsMatch (kept : List Kept) (slots : List Slot) (charges : List Open) (fills : List Fill) : Type 0 where
  pub same : kept ≡ map kept_of slots
  pub one_slot : (n : ℕ) → count (is_slot n) slots ≤ 1
  pub known : AllOpen charges slots
  -- each open charge is one slot's, or is kept by one add that waits
  pub held : (n : ℕ) → count (open_has n) charges ≡ count (holds n) slots + count (adds n) (waiters_of fills)

-- ---- adds that wait

-- the charge that the add keeps, by the desk
abbrev pub charge_kept : ℕ → List Adding → Option ℕ
charge_kept call all = option_map (λ (adding : Adding). adding.charge) (find (λ (adding : Adding). adding.call == call) all)

-- the charge that what a call asks for keeps
abbrev pub charge_of_wish : Wish → Option ℕ
charge_of_wish ToFind = None
charge_of_wish (ToAdd handle) = Some handle.number

-- the desk has the charges of these calls, and of no find
abbrev pub AllTold : List Adding → List Waiter → Type 0
AllTold all [] = Unit {0}
AllTold all (waiter ∷ waiters) = (charge_kept waiter.call all ≡ charge_of_wish waiter.wish) × AllTold all waiters

-- adds that wait, as the desk has them and as the fills do
pub record AddsMatch (all : List Adding) (calls : ℕ) (fills : List Fill) : Type 0 where
  pub told : AllTold all (waiters_of fills)
  pub one_add : (n : ℕ) → count (λ (adding : Adding). adding.call == n) all ≤ 1
  -- none has the number of a call that is still to come
  pub fresh : (n : ℕ) → calls < n → charge_kept n all ≡ None

-- ---- jobs and the device

-- jobs that are out, the results that wait, and the device
pub record JobsMatch (outs : List Out) (written : List Sheet) (jobs : List Job) (waiting : List Result) (pages : Pages) : Type 0 where
  -- the same jobs are out, each with its order
  pub orders : (n : ℕ) → option_map (λ (out : Out). out.order) (job_out n outs) ≡ option_map (λ (job : Job). job.order) (job_at n jobs)
  pub results : (n : ℕ) (out : Out) → job_out n outs ≡ Some out → out.result ≡ result_at n waiting
  -- the device's pages
  pub sheets : (page : ℕ) → sheet_at page written ≡ pages page

-- ---- all of it

-- the desk is that of the scene, after this log
pub record Matches (log : List Note) (desk : Desk) (scene : Scene) : Type 0 where
  pub older : desk.older ≡ past [] log
  pub slots : SlotsMatch desk.slots scene.slots scene.world.cache.memory.charges (fills_of scene.world.cache.nvm)
  pub adds : AddsMatch desk.adds scene.world.cache.calls (fills_of scene.world.cache.nvm)
  pub jobs : JobsMatch desk.jobs desk.pages (jobs_in scene.world.cache.nvm) scene.world.results scene.world.pages
  pub failures : desk.failures ≡ scene.world.failures
