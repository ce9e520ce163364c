-- What a worker's call comes to.
use Rattle.std.specs.Prelude.{◌≡◌, Option}
use Rattle.hc_memory.specs.Memory.{Memory}
use Rattle.hc_history.specs.Told.{Heard, told_more}
use Rattle.hc_machine.specs.Nvm.{Nvm}
use Rattle.hc_machine.specs.Takes.{Take, Filled, Taken}
use Rattle.hc_machine.specs.Cache.{unmarked_by}

-- it is the machine's: its state and answer, the fill that ended, its notes told, and the marks taken that its losses cover
pub record IsTaken (taken : Taken) (nvm : Nvm) (take : Take) (filled : Option Filled) (before after : Heard) (memory left : Memory) : Type 0 where
  pub nvm_is : nvm ≡ taken.nvm
  pub take_is : take ≡ taken.take
  pub filled_is : filled ≡ taken.filled
  pub told : after ≡ told_more before taken.part
  pub marks : left ≡ unmarked_by taken.part memory
