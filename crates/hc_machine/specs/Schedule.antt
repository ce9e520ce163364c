-- The cache over a device, moved by any list of steps of clients and workers. A client's open items stand in slots.
use Rattle.std.specs.Prelude.{ℕ, ◌==◌, nat_lt, Bool, not, List, [], ◌∷◌, ◌++◌, filter, find, Option, Some, None, if◌then◌else◌}
use Rattle.hc_types.specs.Config.{Config}
use Rattle.hc_memory.specs.Item.{Handle}
use Rattle.hc_history.specs.Note.{Note}
use Rattle.hc_machine.specs.Cache.{Cache, Moved, Answer, Refused, Opened}
use Rattle.hc_machine.specs.Call.{Allocates, Inserts, Adds, Discards, Finds, Removes, Replies, Ticks, Writes, Fills, Reclaims, act}
use Rattle.hc_machine.specs.World.{World, Said, Stepped, new_world, by_call, called, io_of, done_of, order_in, result_at}

-- What a client or a worker does. It names no other client than the step's own, no handle but by its slot, and no result
-- but by its job: so it isn't a call of the cache by itself.
pub data Deed : Type 0 where
  -- an item is allocated and written, for this slot
  Open : (slot pool : ℕ) (key value : List ℕ) (ttl : ℕ) → Deed
  -- what fills the slot is inserted, inserted where its key has no value, given up
  Put : (slot : ℕ) → Deed
  PutNew : (slot : ℕ) → Deed
  Discard : (slot : ℕ) → Deed
  Find : (key : List ℕ) → Deed
  Remove : (key : List ℕ) → Deed
  Reply : (call : ℕ) → Deed
  Tick : (moment : ℕ) → Deed
  WriterTake : Deed
  FillerTake : Deed
  Reclaim : Deed
  -- a job's operation is made, and its result handed in
  Io : (job : ℕ) (fails : Bool) → Deed
  Finish : (job : ℕ) → Deed

pub record Step : Type 0 where
  pub client : ℕ
  pub deed : Deed

-- what a step is answered
pub data Told : Type 0 where
  Tells : (said : Said) → Told
  -- the slot is in the wrong state
  NoSlot : Told
  -- the slot is filled
  Filled : Told

-- ---- slots

pub record Slot : Type 0 where
  pub number : ℕ
  pub handle : Handle

-- the cache over its device, and the slots that are filled, in order
pub record Scene : Type 0 where
  pub world : World
  pub slots : List Slot

abbrev pub new_scene : Config → List Bool → Scene
new_scene config breaks = record { world = new_world config breaks; slots = [] }

abbrev pub is_slot : ℕ → Slot → Bool
is_slot number slot = slot.number == number

abbrev pub slot_at : ℕ → List Slot → Option Slot
slot_at number slots = find (is_slot number) slots

abbrev pub without_slot : ℕ → List Slot → List Slot
without_slot number slots = filter (λ slot. not (is_slot number slot)) slots

abbrev pub with_slot : Slot → List Slot → List Slot
with_slot slot [] = slot ∷ []
with_slot slot (other ∷ others) = if nat_lt slot.number other.number then slot ∷ other ∷ others else other ∷ with_slot slot others

pub record Done : Type 0 where
  pub scene : Scene
  pub told : Told
  pub part : List Note

-- ---- steps

abbrev pub in_world : List Slot → Stepped → Done
in_world slots stepped = record { scene = record { world = stepped.world; slots = slots }; told = Tells stepped.said; part = stepped.part }

-- nothing happens
abbrev pub no_slot : Scene → Done
no_slot scene = record { scene = scene; told = NoSlot; part = [] }

-- what was opened fills the slot
abbrev pub fills : ℕ → Answer → Scene → Moved → Done
fills number (Opened handle) scene moved = record { scene = record { world = record scene.world { cache = moved.cache }; slots = with_slot (record { number = number; handle = handle }) scene.slots }; told = Filled; part = moved.part }
fills number answer scene moved = in_world scene.slots (by_call scene.world moved)

abbrev pub opens : Option Slot → ℕ → ℕ → List ℕ → List ℕ → ℕ → Scene → Done
opens (Some slot) number pool key value ttl scene = no_slot scene
opens None number pool key value ttl scene = let moved = act (Allocates pool key value ttl) scene.world.cache in fills number moved.answer scene moved

abbrev pub puts : Option Slot → ℕ → Scene → Done
puts None client scene = no_slot scene
puts (Some slot) client scene = in_world (without_slot slot.number scene.slots) (called (Inserts client slot.handle) scene.world)

-- what is refused stays in its slot
abbrev pub left_after : Answer → ℕ → List Slot → List Slot
left_after (Refused refusal) number slots = slots
left_after answer number slots = without_slot number slots

abbrev pub puts_new : Option Slot → ℕ → Scene → Done
puts_new None client scene = no_slot scene
puts_new (Some slot) client scene = let moved = act (Adds client slot.handle) scene.world.cache in in_world (left_after moved.answer slot.number scene.slots) (by_call scene.world moved)

abbrev pub discards : Option Slot → Scene → Done
discards None scene = no_slot scene
discards (Some slot) scene = in_world (without_slot slot.number scene.slots) (called (Discards slot.handle) scene.world)

abbrev pub does : ℕ → Deed → Scene → Done
does client (Open slot pool key value ttl) scene = opens (slot_at slot scene.slots) slot pool key value ttl scene
does client (Put slot) scene = puts (slot_at slot scene.slots) client scene
does client (PutNew slot) scene = puts_new (slot_at slot scene.slots) client scene
does client (Discard slot) scene = discards (slot_at slot scene.slots) scene
does client (Find key) scene = in_world scene.slots (called (Finds client key) scene.world)
does client (Remove key) scene = in_world scene.slots (called (Removes client key) scene.world)
does client (Reply call) scene = in_world scene.slots (called (Replies call) scene.world)
does client (Tick moment) scene = in_world scene.slots (called (Ticks moment) scene.world)
does client WriterTake scene = in_world scene.slots (called Writes scene.world)
does client FillerTake scene = in_world scene.slots (called Fills scene.world)
does client Reclaim scene = in_world scene.slots (called Reclaims scene.world)
does client (Io job fails) scene = in_world scene.slots (io_of scene.world job fails (order_in scene.world.cache.nvm job) (result_at job scene.world.results))
does client (Finish job) scene = in_world scene.slots (done_of scene.world job (result_at job scene.world.results))

abbrev pub step : Step → Scene → Done
step s scene = does s.client s.deed scene

-- ---- runs

pub record Ran : Type 0 where
  pub scene : Scene
  pub answers : List Told
  -- one part a step
  pub parts : List (List Note)

abbrev pub ran_on : (Scene → Ran) → Done → Ran
ran_on f done = joined done.told done.part (f done.scene)
  where
    joined : Told → List Note → Ran → Ran
    joined told part ran = record { scene = ran.scene; answers = told ∷ ran.answers; parts = part ∷ ran.parts }

abbrev pub run_from : List Step → Scene → Ran
run_from [] scene = record { scene = scene; answers = []; parts = [] }
run_from (s ∷ steps) scene = ran_on (run_from steps) (step s scene)

-- at the end what still fills a slot is given up, in order of slot
pub record Ended : Type 0 where
  pub cache : Cache
  pub part : List Note

abbrev pub ended_behind : (Cache → Ended) → Moved → Ended
ended_behind f moved = joined moved.part (f moved.cache)
  where
    joined : List Note → Ended → Ended
    joined part rest = record { cache = rest.cache; part = part ++ rest.part }

abbrev pub given_up : List Slot → Cache → Ended
given_up [] cache = record { cache = cache; part = [] }
given_up (slot ∷ slots) cache = ended_behind (given_up slots) (act (Discards slot.handle) cache)

abbrev pub all_of : List (List Note) → List Note
all_of [] = []
all_of (part ∷ parts) = part ++ all_of parts

abbrev pub ended : Ran → Ended
ended ran = given_up ran.scene.slots ran.scene.world.cache

-- the log of a schedule
abbrev pub log_of : Ran → List Note
log_of ran = all_of ran.parts ++ (ended ran).part

abbrev pub run : Config → List Bool → List Step → Ran
run config breaks steps = run_from steps (new_scene config breaks)
