-- What a worker's take leaves where no fill ends.
use Rattle.std.proofs.Common.{◌≡◌, List, [], ◌∷◌, ◌++◌, Option, Some, None, refl, sym, ap, ◌∙◌, append-nil}
use Rattle.hc_memory.specs.Memory.{Memory, after_unmark}
use Rattle.hc_history.specs.Note.{Note, Lose}
use Rattle.hc_machine.specs.Takes.{Taken, Filled}
use Rattle.hc_machine.specs.Cache.{Cache, unmarked_by, takes_in}
use Rattle.hc_machine.specs.Workers.{fill, after_take}

-- marks don't touch what is charged
pub unmarked-charges : (notes : List Note) (memory : Memory) → (unmarked_by notes memory).charges ≡ memory.charges
unmarked-charges [] memory = refl
unmarked-charges (Lose scope cause ∷ notes) memory = unmarked-charges notes (after_unmark memory scope)
unmarked-charges (note ∷ notes) memory = unmarked-charges notes memory

pub unfilled-cache : (taken : Taken) (cache : Cache) → None ≡ taken.filled → (after_take taken cache).cache ≡ record cache { memory = unmarked_by taken.part cache.memory; nvm = Some taken.nvm }
unfilled-cache taken cache none = sym (ap (λ (filled : Option Filled). (fill filled (takes_in taken.part taken.nvm cache).cache).cache) none)

pub unfilled-part : (taken : Taken) (cache : Cache) → None ≡ taken.filled → (after_take taken cache).part ≡ taken.part
unfilled-part taken cache none = sym (ap (λ (filled : Option Filled). taken.part ++ (fill filled (takes_in taken.part taken.nvm cache).cache).part) none) ∙ append-nil taken.part
