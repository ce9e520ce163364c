-- What a device with a meter is seen as.
use Rattle.std.specs.Prelude.{ℕ, Result, Ok, Err}
use Rattle.hc_flash.specs.declared.flash.FlashError.{FlashError}
use Rattle.hc_flash.specs.declared.flash.FlashError.TheVariants.{Device, NoMemory}

-- a device, and how many pages it was asked to read and to write
pub record Meter (Inner : Type 0) : Type 0 where
  pub inner : Inner
  pub reads : ℕ
  pub writes : ℕ

-- an operation counts where it was made, and where it failed; when out of memory it is neither
abbrev pub made_in : {T : Type 0} → Result T FlashError → ℕ
made_in (Ok answer) = 1
made_in (Err Device) = 1
made_in (Err NoMemory) = 0
