-- A result is handed in, or a fill is taken, with which no fill ends.
use Rattle.std.proofs.Common.{◌≡◌, ℕ, ◌≤◌, length, Option, Some, None, refl, sym, ap, ◌∙◌, subst, arith}
use Rattle.hc_engines.specs.Engine.{IoResult}
use Rattle.hc_memory.specs.Memory.{Memory}
use Rattle.hc_history.specs.Told.{told_more}
use Rattle.hc_machine.specs.Nvm.{Nvm}
use Rattle.hc_machine.specs.Takes as flash
use Rattle.hc_machine.specs.Takes.{Taken, Filled, Take, Idle}
use Rattle.hc_machine.specs.Cache.{Cache, Took}
use Rattle.hc_machine.specs.Workers.{after_take, after_finish, take_on, finish_on, finish, filler_take}
use Rattle.hc_nvm.specs.Finishing.{IsFinished}
use Rattle.hc_nvm.specs.Taking.{IsTaken}
use Rattle.hc_state.specs.Whole.{Whole, IsStep}
use Rattle.hc_state.proofs.Works.{unmarked-charges, unfilled-cache, unfilled-part}

-- ---- what was taken

-- no fill ended with it
pub unfilled-step : (taken : Taken) (after : Nvm) (memory : Memory) (take : Take) (filled : Option Filled) (old new : Whole) → taken.filled ≡ None → IsTaken taken after take filled old.log new.log old.cache.memory memory
    → new.cache ≡ record old.cache { memory = memory; nvm = Some after } → length old.cache.memory.charges ≤ new.notes → IsStep (after_take taken old.cache) (Took take) old new
unfilled-step taken after memory take filled old new none is_taken is room =
    let charges = ap (λ (m : Memory). length m.charges) is_taken.marks in
    let marked = ap length (unmarked-charges taken.part old.cache.memory) in
    record {
      cache = is ∙ (λ i. record old.cache { memory = is_taken.marks i; nvm = Some (is_taken.nvm_is i) }) ∙ sym (unfilled-cache taken old.cache (sym none));
      answer_is = ap (λ (t : Take). Took t) is_taken.take_is;
      log = is_taken.told ∙ ap (told_more old.log) (sym (unfilled-part taken old.cache (sym none)));
      ready = subst (λ (c : Cache). length c.memory.charges ≤ new.notes) (sym is) (omega (arith, charges, marked, room));
    }

-- with a result that is handed in
pub finish-step : (number : ℕ) (came : IoResult) (nvm after : Nvm) (memory : Memory) (take : Take) (filled : Option Filled) (old new : Whole) → old.cache.nvm ≡ Some nvm → ((taken : Taken) → flash.finish number came nvm ≡ Some taken → taken.filled ≡ None)
    → IsFinished (flash.finish number came nvm) after take filled old.log new.log old.cache.memory memory → new.cache ≡ record old.cache { memory = memory; nvm = Some after } → length old.cache.memory.charges ≤ new.notes
    → IsStep (finish number came old.cache) (Took take) old new
finish-step number came nvm after memory take filled old new there none finished is room =
    subst (λ (o : Option Nvm). IsStep (finish_on o number came old.cache) (Took take) old new) (sym there) (go (flash.finish number came nvm) none finished)
  where
    go : (taken : Option Taken) → ((t : Taken) → taken ≡ Some t → t.filled ≡ None) → IsFinished taken after take filled old.log new.log old.cache.memory memory → IsStep (after_finish taken old.cache) (Took take) old new
    go None none finished = absurd finished
    go (Some taken) none finished = unfilled-step taken after memory take filled old new (none taken refl) finished is room

-- as a fill is taken
pub filler-step : (nvm after : Nvm) (memory : Memory) (take : Take) (filled : Option Filled) (old new : Whole) → old.cache.nvm ≡ Some nvm → (flash.filler_take nvm).filled ≡ None
    → IsTaken (flash.filler_take nvm) after take filled old.log new.log old.cache.memory memory → new.cache ≡ record old.cache { memory = memory; nvm = Some after } → length old.cache.memory.charges ≤ new.notes
    → IsStep (filler_take old.cache) (Took take) old new
filler-step nvm after memory take filled old new there none taken is room =
    subst (λ (o : Option Nvm). IsStep (take_on o flash.filler_take old.cache) (Took take) old new) (sym there) (unfilled-step (flash.filler_take nvm) after memory take filled old new none taken is room)
