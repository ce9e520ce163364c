-- What is known before a get ends of the fill that ends with it.
use Rattle.std.proofs.Common.{◌≡◌, ℕ, ◌+◌, ◌≤◌, List, [], Option, Some, None, length, refl, ap, ◌∙◌}
use Rattle.std.specs.Prelude.{option_map, IsSome}
use Rattle.std.specs.Option.{option_map_or}
use Rattle.hc_types.specs.FlashEntry.{FlashEntry}
use Rattle.hc_engines.specs.Engine.{IoResult}
use Rattle.hc_memory.specs.Memory.{linked_at}
use Rattle.hc_machine.specs.Nvm.{Nvm, Fill, fill_at}
use Rattle.hc_machine.specs.Takes.{Taken, finish, found_in}
use Rattle.hc_machine.specs.Cache.{Cache, Took}
use Rattle.hc_machine.specs.Workers.{after_finish, finish_on}
use Rattle.hc_invariant.specs.Structure.{Structured}
use Rattle.hc_nvm.specs.Endings.{Ending, EndsFill, Shows}
use Rattle.hc_nvm.specs.Filled.{over_of}
use Rattle.hc_nvm.specs.Finishing.{waiters_by}
use Rattle.hc_nvm.specs.Seen.{take_of}
use Rattle.hc_nvm.specs.declared.filler.Taken as answered
use Rattle.hc_state.specs.fill.Commit.{EndsIn, TookBy, finish_in, most_told_in}
use Rattle.hc_state.specs.wait.Commit.{waiters_at}
use Rattle.hc_state.specs.Whole.{Whole, IsStep, for_notes}
use Rattle.hc_state.proofs.fill.Keys.{fill-bare}
use Rattle.hc_state.proofs.fill.Steps.{none-step}

over_there : (found : Option FlashEntry) (fill : Option Fill) → IsSome fill → over_of found (option_map (λ (f : Fill). f.waiters) fill) ≡ Some (record { entry = found; waiters = option_map_or (λ (f : Fill). f.waiters) fill [] })
over_there found None there = absurd cc
over_there found (Some fill) there = refl

-- the fill that ended has what was found, and the calls that wait for the key
pub filled-is : (key : List ℕ) (nvm : Nvm) (taken : Taken) (ending : Ending) → Shows taken nvm.fills ending → ending.key ≡ Some key
    → taken.filled ≡ Some (record { entry = found_in ending.over.outcome.answer; waiters = waiters_at (Some nvm) key })
filled-is key nvm taken ending shows key_is =
    shows.filled
    ∙ ap (λ (k : Option (List ℕ)). over_of (found_in ending.over.outcome.answer) (waiters_by k nvm.fills)) key_is
    ∙ over_there (found_in ending.over.outcome.answer) (fill_at key nvm.fills) (shows.waits key key_is)

-- no fill ends with an orphan's get
pub filled-none : (nvm : Nvm) (taken : Taken) (ending : Ending) → Shows taken nvm.fills ending → ending.key ≡ None → taken.filled ≡ None
filled-none nvm taken ending shows key_is = shows.filled ∙ ap (λ (k : Option (List ℕ)). over_of (found_in ending.over.outcome.answer) (waiters_by k nvm.fills)) key_is

-- no item is linked under a key for which calls wait
pub waits-bare : (key : List ℕ) (cache : Cache) (nvm : Nvm) (fill : Option Fill) → cache.nvm ≡ Some nvm → fill_at key nvm.fills ≡ fill → IsSome fill → Structured cache → linked_at key cache.memory.pools ≡ None
waits-bare key cache nvm None is at there s = absurd cc
waits-bare key cache nvm (Some fill) is at there s = fill-bare key cache nvm fill is at s

-- no item is linked under the key
pub ends-bare : (number : ℕ) (came : IoResult) (ending : Ending) (key : List ℕ) (cache : Cache) → EndsIn number came cache.nvm ending → ending.key ≡ Some key → Structured cache → linked_at key cache.memory.pools ≡ None
ends-bare number came ending key cache ends key_is s = by_nvm cache.nvm refl ends
  where
    by_taken : (nvm : Nvm) (taken : Option Taken) → cache.nvm ≡ Some nvm → finish number came nvm ≡ taken → IsSome taken → EndsFill number came nvm ending → linked_at key cache.memory.pools ≡ None
    by_taken nvm None is at there e = absurd cc
    by_taken nvm (Some taken) is at there e = waits-bare key cache nvm (fill_at key nvm.fills) is refl ((e.shows taken at).waits key key_is) s

    by_nvm : (nvm : Option Nvm) → cache.nvm ≡ nvm → EndsIn number came nvm ending → linked_at key cache.memory.pools ≡ None
    by_nvm None is e = absurd e
    by_nvm (Some nvm) is e = by_taken nvm (finish number came nvm) is refl e.steps e

-- ---- an orphan

module _ {A : Type 0} (number : ℕ) (came : IoResult) (ending : Ending) (result : answered.Taken A) (old new : Whole) (key_is : ending.key ≡ None) where
  orphan_taken : (nvm : Nvm) (taken : Option Taken) (most : ℕ) → EndsFill number came nvm ending → finish number came nvm ≡ taken → TookBy taken most result old new → length old.cache.memory.charges + 1 + most ≤ old.notes
      → IsStep (after_finish taken old.cache) (Took (take_of result.take)) old new
  orphan_taken nvm None most ends is took room = absurd took
  orphan_taken nvm (Some taken) most ends is took room =
      let step = none-step taken (for_notes most) old new (filled-none nvm taken ending (ends.shows taken is) key_is) took.does room in
      record { cache = step.cache; answer_is = ap Took took.take_is; log = step.log; ready = step.ready }

  orphan_in : (nvm : Option Nvm) → EndsIn number came nvm ending → TookBy (finish_in nvm number came) (most_told_in ending.over.outcome.losses nvm) result old new
      → length old.cache.memory.charges + 1 + most_told_in ending.over.outcome.losses nvm ≤ old.notes → IsStep (finish_on nvm number came old.cache) (Took (take_of result.take)) old new
  orphan_in None ends took room = absurd ends
  orphan_in (Some nvm) ends took room = orphan_taken nvm (finish number came nvm) (most_told_in ending.over.outcome.losses (Some nvm)) ends refl took room

  -- the get of an orphan ends as the machine has it
  pub orphan-step : EndsIn number came old.cache.nvm ending → TookBy (finish_in old.cache.nvm number came) (most_told_in ending.over.outcome.losses old.cache.nvm) result old new
      → length old.cache.memory.charges + 1 + most_told_in ending.over.outcome.losses old.cache.nvm ≤ old.notes → IsStep (finish_on old.cache.nvm number came old.cache) (Took (take_of result.take)) old new
  orphan-step ends took room = orphan_in old.cache.nvm ends took room
