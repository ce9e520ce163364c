-- The state of the cache, and what a step comes to.
use Rattle.std.specs.Prelude.{ℕ, ◌==◌, Bool, List, [], ◌∷◌, ◌++◌, map, filter, find, not, Option, Some, None, option_map, if◌then◌else◌}
use Rattle.hc_types.specs.Config.{Config}
use Rattle.hc_types.specs.declared.refusal.Refusal.{Refusal}
use Rattle.hc_memory.specs.Item.{Handle}
use Rattle.hc_memory.specs.Memory.{Memory, after_unmark}
use Rattle.hc_machine.specs.items.Allocating.{empty_memory}
use Rattle.hc_history.specs.Note.{Note, Reply, Lose}
use Rattle.hc_machine.specs.Nvm.{Nvm, new_nvm}
use Rattle.hc_machine.specs.Leaving.{Changed}
use Rattle.hc_machine.specs.Takes.{Take}

-- a call that waits or waited, and its reply, once there is one, until it is taken
pub record Owed : Type 0 where
  pub call : ℕ
  pub reply : Option Reply

-- its configuration, its pools with what is open in them, the clock (seconds), how many calls there were, the replies that
-- it owes, and what waits for flash and comes from it, where there is flash
pub record Cache : Type 0 where
  pub config : Config
  pub memory : Memory
  pub now : ℕ
  pub calls : ℕ
  pub owed : List Owed
  pub nvm : Option Nvm

abbrev pub new_cache : Config → Cache
new_cache config = record { config = config; memory = empty_memory config; now = 0; calls = 0; owed = []; nvm = option_map new_nvm config.flash }

-- what a step is answered
pub data Answer : Type 0 where
  Refused : (refusal : Refusal) → Answer
  -- an item is allocated: its handle
  Opened : (handle : Handle) → Answer
  -- a handle is spent
  Discarded : Answer
  -- the call's reply
  Replied : (reply : Reply) → Answer
  -- the call waits
  Waits : (call : ℕ) → Answer
  -- the moment that holds
  Moment : (now : ℕ) → Answer
  -- a worker's take, or what comes after its result
  Took : (take : Take) → Answer
  -- the region that was reclaimed, if any
  Reclaimed : (region : Option ℕ) → Answer

pub record Moved : Type 0 where
  pub cache : Cache
  pub answer : Answer
  -- what the step tells
  pub part : List Note

-- ---- parts of a step

pub record Told : Type 0 where
  pub cache : Cache
  pub part : List Note

abbrev pub tells : List Note → Cache → Told
tells part cache = record { cache = cache; part = part }

abbrev pub behind : List Note → Told → Told
behind part told = record told { part = part ++ told.part }

-- one part of a step, and then another
abbrev pub and_then : Told → (Cache → Told) → Told
and_then told f = behind told.part (f told.cache)

abbrev pub answers : Answer → Told → Moved
answers answer told = record { cache = told.cache; answer = answer; part = told.part }

-- nothing happens
abbrev pub stays : Answer → Cache → Moved
stays answer cache = record { cache = cache; answer = answer; part = [] }

abbrev pub with_memory : Memory → Cache → Cache
with_memory memory cache = record cache { memory = memory }

abbrev pub with_nvm : Nvm → Cache → Cache
with_nvm nvm cache = record cache { nvm = Some nvm }

-- ---- what flash tells

-- each loss takes the clean marks of the items that it covers
abbrev pub unmarked_by : List Note → Memory → Memory
unmarked_by [] memory = memory
unmarked_by (Lose scope cause ∷ notes) memory = unmarked_by notes (after_unmark memory scope)
unmarked_by (note ∷ notes) memory = unmarked_by notes memory

abbrev pub takes_in : List Note → Nvm → Cache → Told
takes_in part nvm cache = tells part (record cache { memory = unmarked_by part cache.memory; nvm = Some nvm })

abbrev pub took_in : Changed → Cache → Told
took_in change cache = takes_in change.part change.nvm cache

-- what is done where there is flash
abbrev pub on_flash_of : Option Nvm → (Nvm → Changed) → Cache → Told
on_flash_of None f cache = tells [] cache
on_flash_of (Some nvm) f cache = took_in (f nvm) cache

abbrev pub on_flash : (Nvm → Changed) → Cache → Told
on_flash f cache = on_flash_of cache.nvm f cache

-- ---- replies that are owed

abbrev pub is_owed : ℕ → Owed → Bool
is_owed call owed = owed.call == call

abbrev pub owed_at : ℕ → List Owed → Option Owed
owed_at call all = find (is_owed call) all

abbrev pub owed_anew : ℕ → List Owed → List Owed
owed_anew call all = all ++ record { call = call; reply = None } ∷ []

abbrev pub owed_with : ℕ → Reply → List Owed → List Owed
owed_with call reply all = map (λ (owed : Owed). if is_owed call owed then record owed { reply = Some reply } else owed) all

abbrev pub owed_less : ℕ → List Owed → List Owed
owed_less call all = filter (λ owed. not (is_owed call owed)) all
