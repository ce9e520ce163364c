-- The log of every schedule is legal, and honest.
use Rattle.std.proofs.Common.{◌≡◌, ℕ, ◌+◌, ◌-◌, ◌^◌, ◌==◌, min, Bool, true, false, not, List, [], ◌∷◌, ◌++◌, length, Option, Some, None, refl, sym, subst, append_assoc}
use Rattle.std.specs.Prelude.{if◌then◌else◌, nat_lt}
use Rattle.std.proofs.lemmas.List.{append-nil}
use Rattle.hc_types.specs.Config.{Config}
use Rattle.hc_types.specs.declared.refusal.Refusal.{Refusal}
use Rattle.hc_machine.specs.items.Allocating.{refusal_of}
use Rattle.hc_machine.specs.items.Allocating.{expiry_of}
use Rattle.hc_history.specs.Note.{Note}
use Rattle.hc_history.specs.Lawful.{Lawful, past}
use Rattle.hc_history.specs.Honest.{HonestAfter}
use Rattle.hc_history.proofs.Appended.{Lawful-append, past-append}
use Rattle.hc_machine.specs.Cache.{Cache, Answer, Refused}
use Rattle.hc_machine.specs.Call.{CacheCall, Allocates, Inserts, Adds, Discards, Finds, Removes, Replies, Ticks, Writes, Fills, Reclaims, act}
use Rattle.hc_machine.specs.Evicting.{allocate_by, handle_for}
use Rattle.hc_machine.specs.World.{by_call}
use Rattle.hc_invariant.specs.Good.{Good, IsSized}
use Rattle.hc_invariant.proofs.Beginning.{new_run}
use Rattle.hc_invariant.proofs.Ends.{good_ends, run_legal}
use Rattle.hc_invariant.specs.Laws.{Laws}
use Rattle.hc_theorem.proofs.runs.SilentSteps.{act_no_io}
use Rattle.hc_theorem.proofs.runs.Honesty.{act_kept}
use Rattle.hc_theorem.proofs.runs.Running.{StepOk, by_step, io_ok, done_ok, no_part, short_value, within, second_by, silent_honest, honest-append}
use Rattle.hc_theorem.specs.runs.NoIo.{HandsInNothing}
use Rattle.hc_theorem.specs.runs.Honesty.{CallSized}
use Rattle.hc_theorem.specs.runs.Scene.{SlotsSized, SceneHolds}
use Rattle.hc_theorem.specs.runs.Schedule.{DeedSized, AllStepSized, ScheduleIsRight}
use Rattle.hc_machine.specs.Schedule.{Deed, Open, Put, PutNew, Discard, Find, Remove, Reply, Tick, WriterTake, FillerTake, Reclaim, Io, Finish, Step, Slot, Scene, new_scene, is_slot, slot_at, without_slot, with_slot, in_world, fills, opens, puts, puts_new, discards, left_after, does, step, run_from, run, Ended, given_up, all_of, ended}

-- ---- slots

abbrev SlotSized : Option Slot → Type 0
SlotSized None = Unit {0}
SlotSized (Some slot) = IsSized slot.handle.key slot.handle.value slot.handle.expiry

found : (number : ℕ) (slots : List Slot) → SlotsSized slots → SlotSized (slot_at number slots)
found number [] h = tt
found number (slot ∷ slots) h = go (is_slot number slot) (found number slots h.1)
  where
    go : (t : Bool) → SlotSized (slot_at number slots) → SlotSized (if t then Some slot else slot_at number slots)
    go true rest = h.0
    go false rest = rest

left : (number : ℕ) (slots : List Slot) → SlotsSized slots → SlotsSized (without_slot number slots)
left number [] h = tt
left number (slot ∷ slots) h = go (is_slot number slot) (left number slots h.1)
  where
    go : (t : Bool) → SlotsSized (without_slot number slots) → SlotsSized (if not t then slot ∷ without_slot number slots else without_slot number slots)
    go true rest = rest
    go false rest = (h.0, rest)

come : (slot : Slot) (slots : List Slot) → IsSized slot.handle.key slot.handle.value slot.handle.expiry → SlotsSized slots → SlotsSized (with_slot slot slots)
come slot [] s h = (s, tt)
come slot (other ∷ others) s h = go (nat_lt slot.number other.number) (come slot others s h.1)
  where
    go : (t : Bool) → SlotsSized (with_slot slot others) → SlotsSized (if t then slot ∷ other ∷ others else other ∷ with_slot slot others)
    go true rest = (s, h)
    go false rest = (h.0, rest)

left_sized : (answer : Answer) (number : ℕ) (slots : List Slot) → SlotsSized slots → SlotsSized (left_after answer number slots)
left_sized (Refused refusal) number slots h = h
left_sized answer number slots h = left number slots h

-- ---- steps

-- a call that hands in no result
call_ok : (laws : Laws) (config : Config) (older : List Note) (cache : Cache) (call : CacheCall) → HandsInNothing call → CallSized call → Good config older cache → StepOk config older cache (act call cache)
call_ok laws config older cache call none fit g =
    let no_io = act_no_io call none cache in
    record { kept = act_kept laws config older cache call fit g (silent_honest older (act call cache).part no_io.silent); no_io = no_io }

module _ (laws : Laws) (config : Config) (log : List Note) (scene : Scene) (h : SceneHolds config log scene) where
  called : (slots : List Slot) (call : CacheCall) → HandsInNothing call → CallSized call → SlotsSized slots
      → SceneHolds config (log ++ (act call scene.world.cache).part) (in_world slots (by_call scene.world (act call scene.world.cache))).scene
  called slots call none fit sized =
      record { holds = by_step laws config log scene.world (act call scene.world.cache) h.holds (call_ok laws config (past [] log) scene.world.cache call none fit h.holds.good); sized = sized }

  still : SceneHolds config (log ++ []) scene
  still = record { holds = no_part laws config log scene.world h.holds; sized = h.sized }

  open_holds : (o : Option Slot) (number pool : ℕ) (key value : List ℕ) (ttl : ℕ) → IsSized key [] 0 → SceneHolds config (log ++ (opens o number pool key value ttl scene).part) (opens o number pool key value ttl scene).scene
  open_holds (Some slot) number pool key value ttl fit = still
  open_holds None number pool key value ttl fit =
      go (refusal_of scene.world.cache.memory pool key (length value)) refl (called scene.slots (Allocates pool key value ttl) tt fit h.sized)
    where
      go : (r : Option Refusal) → refusal_of scene.world.cache.memory pool key (length value) ≡ r → SceneHolds config (log ++ (allocate_by r pool key value ttl scene.world.cache).part) (in_world scene.slots (by_call scene.world (allocate_by r pool key value ttl scene.world.cache))).scene
          → SceneHolds config (log ++ (fills number (allocate_by r pool key value ttl scene.world.cache).answer scene (allocate_by r pool key value ttl scene.world.cache)).part) (fills number (allocate_by r pool key value ttl scene.world.cache).answer scene (allocate_by r pool key value ttl scene.world.cache)).scene
      go (Some refusal) e c = c
      go None e c =
          let now = scene.world.cache.now in
          let handle = handle_for scene.world.cache pool key value (expiry_of now ttl) in
          let fits : IsSized handle.key handle.value handle.expiry = record { some_key = fit.some_key; short_key = fit.short_key; short_value = short_value scene.world.cache.memory pool key (length value) e; second = second_by (ttl == 0) (min (now + ttl) (2 ^ 64 - 1)) (within (now + ttl)) } in
          record { holds = c.holds; sized = come (record { number = number; handle = handle }) scene.slots fits h.sized }

  put_holds : (client : ℕ) (o : Option Slot) → SlotSized o → SceneHolds config (log ++ (puts o client scene).part) (puts o client scene).scene
  put_holds client None fit = still
  put_holds client (Some slot) fit = called (without_slot slot.number scene.slots) (Inserts client slot.handle) tt fit (left slot.number scene.slots h.sized)

  put_new_holds : (client : ℕ) (o : Option Slot) → SlotSized o → SceneHolds config (log ++ (puts_new o client scene).part) (puts_new o client scene).scene
  put_new_holds client None fit = still
  put_new_holds client (Some slot) fit =
      let answer = (act (Adds client slot.handle) scene.world.cache).answer in
      called (left_after answer slot.number scene.slots) (Adds client slot.handle) tt fit (left_sized answer slot.number scene.slots h.sized)

  discard_holds : (o : Option Slot) → SceneHolds config (log ++ (discards o scene).part) (discards o scene).scene
  discard_holds None = still
  discard_holds (Some slot) = called (without_slot slot.number scene.slots) (Discards slot.handle) tt tt (left slot.number scene.slots h.sized)

  pub does_hold : (client : ℕ) (deed : Deed) → DeedSized deed → SceneHolds config (log ++ (does client deed scene).part) (does client deed scene).scene
  does_hold client (Open slot pool key value ttl) fit = open_holds (slot_at slot scene.slots) slot pool key value ttl fit
  does_hold client (Put slot) fit = put_holds client (slot_at slot scene.slots) (found slot scene.slots h.sized)
  does_hold client (PutNew slot) fit = put_new_holds client (slot_at slot scene.slots) (found slot scene.slots h.sized)
  does_hold client (Discard slot) fit = discard_holds (slot_at slot scene.slots)
  does_hold client (Find key) fit = called scene.slots (Finds client key) tt tt h.sized
  does_hold client (Remove key) fit = called scene.slots (Removes client key) tt tt h.sized
  does_hold client (Reply call) fit = called scene.slots (Replies call) tt tt h.sized
  does_hold client (Tick moment) fit = called scene.slots (Ticks moment) tt tt h.sized
  does_hold client WriterTake fit = called scene.slots Writes tt tt h.sized
  does_hold client FillerTake fit = called scene.slots Fills tt tt h.sized
  does_hold client Reclaim fit = called scene.slots Reclaims tt tt h.sized
  does_hold client (Io job fails) fit = record { holds = io_ok laws config log scene.world job fails h.holds; sized = h.sized }
  does_hold client (Finish job) fit = record { holds = done_ok laws config log scene.world job h.holds; sized = h.sized }

-- ---- all of them

pub runs_hold : (laws : Laws) (config : Config) (log : List Note) (scene : Scene) (steps : List Step) → SceneHolds config log scene → AllStepSized steps → SceneHolds config (log ++ all_of (run_from steps scene).parts) (run_from steps scene).scene
runs_hold laws config log scene [] h sized = subst (λ (l : List Note). SceneHolds config l scene) (sym (append-nil log)) h
runs_hold laws config log scene (s ∷ steps) h sized =
    let done = step s scene in
    let first = does_hold laws config log scene h s.client s.deed sized.0 in
    let rest = runs_hold laws config (log ++ done.part) done.scene steps first sized.1 in
    subst (λ (l : List Note). SceneHolds config l (run_from (s ∷ steps) scene).scene) (append_assoc log done.part (all_of (run_from steps done.scene).parts)) rest

-- what is given up at the end
record EndHolds (config : Config) (older : List Note) (end : Ended) : Type 0 where
  lawful : Lawful config older end.part
  honest : HonestAfter older end.part
  good : Good config (past older end.part) end.cache

ends_hold : (laws : Laws) (config : Config) (older : List Note) (cache : Cache) (slots : List Slot) → Good config older cache → EndHolds config older (given_up slots cache)
ends_hold laws config older cache [] g = record { lawful = tt; honest = tt; good = g }
ends_hold laws config older cache (slot ∷ slots) g =
    let moved = act (Discards slot.handle) cache in
    let ok = call_ok laws config older cache (Discards slot.handle) tt tt g in
    let rest = ends_hold laws config (past older moved.part) moved.cache slots ok.kept.good in
    let end = given_up slots moved.cache in
    record {
      lawful = Lawful-append config older moved.part end.part ok.kept.lawful rest.lawful;
      honest = honest-append older moved.part end.part (silent_honest older moved.part ok.no_io.silent) rest.honest;
      good = subst (λ (log : List Note). Good config log end.cache) (sym (past-append older moved.part end.part)) rest.good;
    }

pub schedule_is_right : Laws → ScheduleIsRight
schedule_is_right laws config breaks steps can sized =
    let ran = run config breaks steps in
    let log = all_of ran.parts in
    let h = runs_hold laws config [] (new_scene config breaks) steps (record { holds = new_run config breaks can; sized = tt }) sized in
    let e = ends_hold laws config (past [] log) ran.scene.world.cache ran.scene.slots h.holds.good in
    let end = ended ran in
    let last : Good config (past [] (log ++ end.part)) end.cache = subst (λ (l : List Note). Good config l end.cache) (sym (past-append [] log end.part)) e.good in
    record {
      legal = record {
        lawful = Lawful-append config [] log end.part h.holds.lawful e.lawful;
        at_end = good_ends config (past [] (log ++ end.part)) end.cache last.agrees;
      };
      so_far = run_legal config log ran.scene.world h.holds;
      honest = honest-append [] log end.part h.holds.honest e.honest;
    }
