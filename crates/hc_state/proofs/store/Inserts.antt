-- An insert where the key has no value in memory, of a handle that is known, is an add.
use Rattle.std.proofs.Common.{◌≡◌, ℕ, Bool, true, false, if◌then◌else◌, sym, subst}
use Rattle.std.specs.Prelude.{Result, Ok, Err, IfOk, OnErr, is_some}
use Rattle.hc_types.specs.declared.refusal.Refusal.TheVariants.{ForeignHandle, Exists as AlreadyExists}
use Rattle.hc_memory.specs.Item.{Handle}
use Rattle.hc_machine.specs.Cache.{Cache, Moved, Refused, stays}
use Rattle.hc_machine.specs.Waiting.{live}
use Rattle.hc_machine.specs.Calls.{is_known, in_memory, add, insert}
use Rattle.hc_state.specs.store.Insert.{inserted_answer}
use Rattle.hc_state.specs.wait.Begin.{OwesBegun}
use Rattle.hc_state.specs.Whole.{Whole, IsStep, IsUnchanged}
use Rattle.hc_calls.specs.declared.answers.Inserted.{Inserted}
use Rattle.hc_state.proofs.Begun.{insert-begun}

-- the step, by whether the key has a value and the handle is known
abbrev insert_as : Bool → Bool → ℕ → Handle → Cache → Moved
insert_as there known client handle cache = if there then stays (Refused AlreadyExists) cache else (if known then add client handle cache else stays (Refused ForeignHandle) cache)

-- the handle's key has an unexpired value in memory
abbrev pub Lives : Cache → Handle → Bool
Lives cache handle = is_some (live cache.now (in_memory cache handle.key))

pub insert-adds : (client : ℕ) (handle : Handle) (cache : Cache) → Lives cache handle ≡ false → is_known cache handle ≡ true → add client handle cache ≡ insert client handle cache
insert-adds client handle cache there known = λ i. insert_as (sym there i) (sym known i) client handle cache

-- whatever it comes to, each reply is owed to a call that was begun
pub inserted-begun : {E : Type 0} (result : Result Inserted E) (client : ℕ) (handle : Handle) (old new : Whole) → OwesBegun old.cache
    → IfOk result (λ inserted. IsStep (insert client handle old.cache) (inserted_answer inserted) old new) → OnErr result (IsUnchanged old new) → OwesBegun new.cache
inserted-begun (Ok inserted) client handle old new begun ok err = subst OwesBegun (sym ok.cache) (insert-begun client handle old.cache begun)
inserted-begun (Err refused) client handle old new begun ok err = subst OwesBegun (sym err.cache) begun
