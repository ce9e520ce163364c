-- Each step leaves the slots as they should be, and so does every schedule.
use Rattle.std.proofs.Common.{◌≡◌, ℕ, ◌≤◌, ◌==◌, Bool, not, ◌&&◌, List, [], ◌∷◌, ◌++◌, length, Option, Some, None, refl, ap, sym, subst, arith, append_assoc}
use Rattle.std.specs.Prelude.{if◌then◌else◌, option_map}
use Rattle.std.proofs.lemmas.Bool.{eqb-true}
use Rattle.std.proofs.lemmas.List.{append-nil}
use Rattle.hc_types.specs.Config.{Config}
use Rattle.hc_types.specs.Tally.{count}
use Rattle.hc_types.specs.declared.refusal.Refusal.{Refusal}
use Rattle.hc_engines.specs.Engine.{Order, IoResult}
use Rattle.hc_machine.specs.items.Allocating.{refusal_of}
use Rattle.hc_history.specs.Note.{Note}
use Rattle.hc_history.specs.Lawful.{past}
use Rattle.hc_types.specs.declared.config.FlashConfig.{FlashConfig}
use Rattle.hc_machine.specs.Nvm.{new_nvm}
use Rattle.hc_machine.specs.Cache.{Cache, new_cache}
use Rattle.hc_machine.specs.Evicting.{allocate_by}
use Rattle.hc_machine.specs.Workers as workers
use Rattle.hc_machine.specs.World.{order_in, result_at, io_of, done_of}
use Rattle.hc_machine.specs.Schedule.{Deed, Open, Put, PutNew, Discard, Find, Remove, Reply, Tick, WriterTake, FillerTake, Reclaim, Io, Finish, Step, Slot, Scene, new_scene, is_slot, slot_at, fills, opens, puts, puts_new, discards, in_world, does, step, run_from, run, all_of}
use Rattle.hc_invariant.specs.Good.{Agrees, fills_of}
use Rattle.hc_invariant.specs.Laws.{Laws}
use Rattle.hc_invariant.proofs.Beginning.{new_run}
use Rattle.hc_proof.proofs.frames.ByNumber.{found-passes, same_number}
use Rattle.hc_theorem.specs.runs.Scene.{SceneHolds}
use Rattle.hc_theorem.specs.runs.Schedule.{AllStepSized}
use Rattle.hc_theorem.proofs.runs.Scheduling.{does_hold}
use Rattle.hc_theorem.proofs.runs.Betweens.{runs_are_between}
use Rattle.hc_theorem.specs.slots.Opens.{holds, AllOpen, adds_in, SlotsHold}
use Rattle.hc_theorem.specs.slots.BetweenScene.{AllKnown, BetweenScene, SchedulesAreBetween}
use Rattle.hc_theorem.proofs.slots.Takes.{writer_left, filler_left, reclaim_left, finish_left}
use Rattle.hc_theorem.proofs.slots.Calls.{HoldIn, opens_of, holds_by, allocated, inserted, discarded, added, found_left, removed_left, reply_left, not_kept}

abbrev pub SlotsIn : Scene → Type 0
SlotsIn scene = HoldIn scene.slots scene.world.cache

slot_here : (number : ℕ) (slots : List Slot) (slot : Slot) → slot_at number slots ≡ Some slot → slot_at slot.number slots ≡ Some slot
slot_here number slots slot at = subst (λ (n : ℕ). slot_at n slots ≡ Some slot) (sym (eqb-true slot.number number (found-passes (is_slot number) slots slot at))) at

module _ (config : Config) (older : List Note) (scene : Scene) (g : Agrees config older scene.world.cache) (h : SlotsIn scene) where
  abbrev cache : Cache
  cache = scene.world.cache

  opens_slot : (o : Option Slot) (number pool : ℕ) (key value : List ℕ) (ttl : ℕ) → slot_at number scene.slots ≡ o → SlotsIn (opens o number pool key value ttl scene).scene
  opens_slot (Some slot) number pool key value ttl at = h
  opens_slot None number pool key value ttl at = go (refusal_of scene.world.cache.memory pool key (length value))
    where
      go : (r : Option Refusal) → SlotsIn (fills number (allocate_by r pool key value ttl scene.world.cache).answer scene (allocate_by r pool key value ttl scene.world.cache)).scene
      go (Some refusal) = h
      go None = allocated config older scene.world.cache scene.slots g h number pool key value ttl at

  puts_slot : (client : ℕ) (o : Option Slot) (number : ℕ) → slot_at number scene.slots ≡ o → SlotsIn (puts o client scene).scene
  puts_slot client None number at = h
  puts_slot client (Some slot) number at = inserted config older scene.world.cache scene.slots g h slot (slot_here number scene.slots slot at) client

  puts_new_slot : (client : ℕ) (o : Option Slot) (number : ℕ) → slot_at number scene.slots ≡ o → SlotsIn (puts_new o client scene).scene
  puts_new_slot client None number at = h
  puts_new_slot client (Some slot) number at = added config older scene.world.cache scene.slots g h slot (slot_here number scene.slots slot at) client

  discards_slot : (o : Option Slot) (number : ℕ) → slot_at number scene.slots ≡ o → SlotsIn (discards o scene).scene
  discards_slot None number at = h
  discards_slot (Some slot) number at = discarded config older scene.world.cache scene.slots g h slot (slot_here number scene.slots slot at)

  io_slots : (job : ℕ) (fails : Bool) (o : Option Order) (r : Option IoResult) → SlotsIn (in_world scene.slots (io_of scene.world job fails o r)).scene
  io_slots job fails None r = h
  io_slots job fails (Some order) None = h
  io_slots job fails (Some order) (Some result) = h

  done_slots : (job : ℕ) (r : Option IoResult) → SlotsIn (in_world scene.slots (done_of scene.world job r)).scene
  done_slots job None = h
  done_slots job (Some result) = holds_by scene.slots (workers.finish job result scene.world.cache).cache h.one_slot (finish_left config older scene.slots scene.world.cache g (opens_of config older scene.world.cache scene.slots g h) job result)

  pub does_slots : (client : ℕ) (deed : Deed) → SlotsIn (does client deed scene).scene
  does_slots client (Open slot pool key value ttl) = opens_slot (slot_at slot scene.slots) slot pool key value ttl refl
  does_slots client (Put slot) = puts_slot client (slot_at slot scene.slots) slot refl
  does_slots client (PutNew slot) = puts_new_slot client (slot_at slot scene.slots) slot refl
  does_slots client (Discard slot) = discards_slot (slot_at slot scene.slots) slot refl
  does_slots client (Find key) = found_left config older scene.world.cache scene.slots g h client key
  does_slots client (Remove key) = removed_left config older scene.world.cache scene.slots g h client key
  does_slots client (Reply call) = reply_left config older scene.world.cache scene.slots g h call
  does_slots client (Tick moment) = h
  does_slots client WriterTake = holds_by scene.slots (workers.writer_take scene.world.cache).cache h.one_slot (writer_left config older scene.slots scene.world.cache g (opens_of config older scene.world.cache scene.slots g h))
  does_slots client FillerTake = holds_by scene.slots (workers.filler_take scene.world.cache).cache h.one_slot (filler_left config older scene.slots scene.world.cache g (opens_of config older scene.world.cache scene.slots g h))
  does_slots client Reclaim = holds_by scene.slots (workers.reclaim scene.world.cache).cache h.one_slot (reclaim_left config older scene.slots scene.world.cache g (opens_of config older scene.world.cache scene.slots g h))
  does_slots client (Io job fails) = io_slots job fails (order_in scene.world.cache.nvm job) (result_at job scene.world.results)
  does_slots client (Finish job) = done_slots job (result_at job scene.world.results)

-- ---- all of them

record Ends (config : Config) (log : List Note) (scene : Scene) : Type 0 where
  holds : SceneHolds config log scene
  slots : SlotsIn scene

run_ends : (laws : Laws) (config : Config) (log : List Note) (scene : Scene) (steps : List Step) → Ends config log scene → AllStepSized steps → Ends config (log ++ all_of (run_from steps scene).parts) (run_from steps scene).scene
run_ends laws config log scene [] h sized = subst (λ (l : List Note). Ends config l scene) (sym (append-nil log)) h
run_ends laws config log scene (s ∷ steps) h sized =
    let done = step s scene in
    let first : Ends config (log ++ done.part) done.scene = record { holds = does_hold laws config log scene h.holds s.client s.deed sized.0; slots = does_slots config (past [] log) scene h.holds.holds.good.agrees h.slots s.client s.deed } in
    let rest = run_ends laws config (log ++ done.part) done.scene steps first sized.1 in
    subst (λ (l : List Note). Ends config l (run_from (s ∷ steps) scene).scene) (append_assoc log done.part (all_of (run_from steps done.scene).parts)) rest

-- ---- what it says

-- each slot's handle is known, as none of these charges is an add's
all_known : (cache : Cache) (slots : List Slot) → ((n : ℕ) → 1 ≤ count (holds n) slots → adds_in (fills_of cache.nvm) n ≡ 0) → AllOpen cache.memory.charges slots → AllKnown cache slots
all_known cache [] unkept h = tt
all_known cache (slot ∷ slots) unkept h =
    let own : ◌≡◌ {A = ℕ} (if slot.handle.number == slot.handle.number then 1 else 0) 1 = ap {B = ℕ} (λ b. if b then 1 else 0) (same_number slot.handle.number) in
    let none = not_kept slot.handle.number cache.nvm (unkept slot.handle.number (omega (arith, own))) in
    ((λ i. h.0 i && not (none i)), all_known cache slots (λ n some. unkept n (omega (arith, some))) h.1)

pub scene_between : (config : Config) (log : List Note) (scene : Scene) → SceneHolds config log scene → SlotsIn scene → BetweenScene config log scene
scene_between config log scene s h =
    let once = s.holds.good.agrees.memory.charges.one_number in
    record {
      between = runs_are_between config log scene.world s.holds;
      one_slot = h.one_slot;
      one_handle = λ n. omega (arith, h.held n, once n);
      open_slots = h.known;
      known = all_known scene.world.cache scene.slots (λ n some. omega (arith, some, h.held n, once n)) h.known;
      held = h.held;
    }

new_slots : (config : Config) → HoldIn [] (new_cache config)
new_slots config = go config.flash
  where
    go : (flash : Option FlashConfig) → SlotsHold [] [] (fills_of (option_map new_nvm flash))
    go None = record { one_slot = λ n. omega arith; known = tt; held = λ n. refl }
    go (Some flash) = record { one_slot = λ n. omega arith; known = tt; held = λ n. refl }

pub schedules_are_between : Laws → SchedulesAreBetween
schedules_are_between laws config breaks steps can sized =
    let start : Ends config [] (new_scene config breaks) = record {
      holds = record { holds = new_run config breaks can; sized = tt };
      slots = new_slots config;
    } in
    let e = run_ends laws config [] (new_scene config breaks) steps start sized in
    scene_between config (all_of (run config breaks steps).parts) (run config breaks steps).scene e.holds e.slots
