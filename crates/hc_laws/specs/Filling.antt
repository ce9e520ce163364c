-- What a fill brings that isn't an orphan: its entry is linked, clean, exactly where it can be, and the calls that wait for it are
-- answered.
use Rattle.std.specs.Prelude.{◌≡◌, ℕ, ◌+◌, true, false, List, [], ◌∷◌, ◌++◌, length, Option, Some, None, option_map}
use Rattle.hc_types.specs.declared.refusal.Refusal.{Refusal}
use Rattle.hc_types.specs.FlashEntry.{FlashEntry}
use Rattle.hc_engines.specs.Engine.{IoResult, Outcome, Done}
use Rattle.hc_engines.specs.pair.Pair as pairs
use Rattle.hc_engines.specs.pair.Pair.{resume}
use Rattle.hc_memory.specs.Memory.{linked_at}
use Rattle.hc_machine.specs.items.Allocating.{refusal_of}
use Rattle.hc_history.specs.Note.{Note, Reply, Exists, Hit, Did, Freed}
use Rattle.hc_machine.specs.Nvm.{Nvm, Wish, ToFind, ToAdd, Waiter, Fill, Filling, Job, job_at, fill_by}
use Rattle.hc_machine.specs.Leaving.{is_over}
use Rattle.hc_machine.specs.Takes.{Taken, found_in, finish}
use Rattle.hc_machine.specs.Cache.{Cache, Owed, Told, tells, takes_in, owed_with}
use Rattle.hc_machine.specs.Waiting.{live}
use Rattle.hc_machine.specs.Workers.{bring, after_take}

-- ---- the calls that wait

-- what a call is answered that waits for a key with this value
abbrev pub reply_to : List ℕ → Wish → Reply
reply_to value ToFind = Hit value
reply_to value (ToAdd handle) = Exists

-- an add that finds a value gives its charge back
abbrev pub given_back : Wish → List Note
given_back ToFind = []
given_back (ToAdd handle) = Freed handle.number ∷ []

-- each is answered in turn
abbrev pub all_told : List ℕ → List Waiter → List Note
all_told value [] = []
all_told value (waiter ∷ waiters) = (given_back waiter.wish ++ Did waiter.call (reply_to value waiter.wish) ∷ []) ++ all_told value waiters

abbrev pub all_owed : List ℕ → List Waiter → List Owed → List Owed
all_owed value [] owed = owed
all_owed value (waiter ∷ waiters) owed = all_owed value waiters (owed_with waiter.call (reply_to value waiter.wish) owed)

-- ---- the fill

-- the cache once what the engine told is done, and the fill isn't yet
abbrev pub met : Taken → Cache → Told
met taken cache = takes_in taken.part taken.nvm cache

-- A job has brought this entry, which isn't expired, for a fill with these calls. (No item is linked under the key of a fill.)
pub record BringsLive (taken : Taken) (entry : FlashEntry) (waiters : List Waiter) (cache : Cache) : Type 0 where
  pub filled : taken.filled ≡ Some (record { entry = Some entry; waiters = waiters })
  pub live : is_over cache.now entry ≡ false
  pub unlinked : linked_at entry.key (met taken cache).cache.memory.pools ≡ None

pub record FillCase (taken : Taken) (entry : FlashEntry) (waiters : List Waiter) (cache : Cache) : Type 0 where
  -- where it can be charged in its pool it is linked, clean, with its value and its expiry
  pub linked : refusal_of (met taken cache).cache.memory entry.pool entry.key (length entry.value) ≡ None
      → linked_at entry.key (after_take taken cache).cache.memory.pools
      ≡ Some (record { number = (met taken cache).cache.memory.made + 1; pool = entry.pool; key = entry.key; value = entry.value; expiry = entry.expiry; clean = true })
  -- where it can't, nothing happens for it
  pub refused : (refusal : Refusal) → refusal_of (met taken cache).cache.memory entry.pool entry.key (length entry.value) ≡ Some refusal
      → (bring (Some entry) (met taken cache).cache ≡ tells [] (met taken cache).cache) × ((after_take taken cache).cache.memory.pools ≡ (met taken cache).cache.memory.pools)
  -- both ways its calls are answered: finds by a hit of this value, and adds that there is one
  pub told : (after_take taken cache).part ≡ taken.part ++ ((bring (Some entry) (met taken cache).cache).part ++ all_told entry.value waiters)
  pub owed : (after_take taken cache).cache.owed ≡ all_owed entry.value waiters cache.owed

abbrev pub FillsAreLinkedClean : Type 0
FillsAreLinkedClean = (taken : Taken) (entry : FlashEntry) (waiters : List Waiter) (cache : Cache) → BringsLive taken entry waiters cache → FillCase taken entry waiters cache

-- ---- the others

-- a get that is over ends the fill that its job was to bring, with what it found; where there is none any more it is an orphan's
abbrev pub GetsEndTheirFill : Type 0
GetsEndTheirFill = (nvm : Nvm) (number : ℕ) (result : IoResult) (job : Job) (moved : pairs.Moved) (outcome : Outcome) (taken : Taken)
    → job_at number nvm.jobs ≡ Some job → job.task ≡ Filling → resume job.number result nvm.pair ≡ Some moved → moved.next ≡ Done outcome → finish number result nvm ≡ Some taken
    → taken.filled ≡ option_map (λ (own : Fill). record { entry = found_in outcome.answer; waiters = own.waiters }) (fill_by job.number nvm.fills)

-- an orphan's bytes are nobody's: nothing is linked, and nobody is answered
abbrev pub OrphansBringNothing : Type 0
OrphansBringNothing = (taken : Taken) (cache : Cache) → taken.filled ≡ None
    → ((after_take taken cache).cache ≡ (met taken cache).cache) × ((after_take taken cache).part ≡ taken.part)

-- what wasn't found, or is expired, isn't linked
abbrev pub NothingLiveBringsNothing : Type 0
NothingLiveBringsNothing = (there : Option FlashEntry) (cache : Cache) → live cache.now there ≡ None → bring there cache ≡ tells [] cache
