-- What a device may answer.
use Rattle.std.specs.Prelude.{ℕ, Result, Ok, Err}
use Rattle.hc_flash.specs.declared.flash.FlashError.{FlashError}
use Rattle.hc_flash.specs.declared.flash.FlashError.TheVariants.{Device, NoMemory}

-- the failures that an answer adds to the count
abbrev pub failures_in : {T : Type 0} → Result T FlashError → ℕ
failures_in (Ok answer) = 0
failures_in (Err Device) = 1
failures_in (Err NoMemory) = 0
