-- A fill ends where there is flash: what is asked first, and what flash tells.
use Rattle.std.specs.Prelude.{◌≡◌, ℕ, List, Option, Some, None, option_map}
use Rattle.hc_engines.specs.Engine.{IoResult, Loss}
use Rattle.hc_machine.specs.Nvm.{Nvm}
use Rattle.hc_machine.specs.Takes.{Taken, finish, filler_take}
use Rattle.hc_machine.specs.Cache.{takes_in}
use Rattle.hc_nvm.specs.Endings.{Ending, EndsFill, EndsAtOnce, most_told}
use Rattle.hc_nvm.specs.Filled.{filled_of}
use Rattle.hc_nvm.specs.Seen.{take_of}
use Rattle.hc_nvm.specs.declared.filler.Taken as answered
use Rattle.hc_state.specs.Whole.{Whole, Does, for_notes}

-- the get of the job with the number is over with this result, and so
abbrev pub EndsIn : ℕ → IoResult → Option Nvm → Ending → Type 0
EndsIn number came None ending = ⊥
EndsIn number came (Some nvm) ending = EndsFill number came nvm ending

-- the fill that is next is over as it is taken, and so
abbrev pub EndsAtOnceIn : Option Nvm → Ending → Type 0
EndsAtOnceIn None ending = ⊥
EndsAtOnceIn (Some nvm) ending = EndsAtOnce nvm ending

-- at most so many notes are told then
abbrev pub most_told_in : List Loss → Option Nvm → ℕ
most_told_in losses None = 0
most_told_in losses (Some nvm) = most_told losses nvm

abbrev pub finish_in : Option Nvm → ℕ → IoResult → Option Taken
finish_in None number came = None
finish_in (Some nvm) number came = finish number came nvm

abbrev pub filler_take_in : Option Nvm → Option Taken
filler_take_in None = None
filler_take_in (Some nvm) = Some (filler_take nvm)

-- flash told this, and took the marks of what it lost; the fill that ended is handed up
pub record TookIn {A : Type 0} (taken : Taken) (most : ℕ) (result : answered.Taken A) (old new : Whole) : Type 0 where
  pub does : Does (takes_in taken.part taken.nvm old.cache) (for_notes most) old new
  pub take_is : take_of result.take ≡ taken.take
  pub filled_is : option_map filled_of result.filled ≡ taken.filled

abbrev pub TookBy : {A : Type 0} → Option Taken → ℕ → answered.Taken A → Whole → Whole → Type 0
TookBy None most result old new = ⊥
TookBy (Some taken) most result old new = TookIn taken most result old new
