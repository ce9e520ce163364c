-- The numbers that C is told.
use Rattle.std.specs.Prelude.{◌≡◌, ℕ, List, Option, Some, None}
use Rattle.hc_types.specs.Refusals.{number_of}
use Rattle.hc_leased.specs.Leased.{Leased}
use Rattle.hc_c.specs.declared.cache.Cache.{Cache}
use Rattle.hc_c.specs.declared.image.Image.{Image}
use Rattle.hc_c.specs.declared.reading.Reading.{Reading}
use Rattle.hc_c.specs.declared.status.Status.{Status}
use Rattle.hc_c.specs.declared.status.Status.TheVariants.{Done, Refused, Miss, Empty, Short, Waits, Idle, Finished, Stale, NotWhole, OtherVersion, OtherConfig, OtherSeal, TooOld, ClockWentBack, Unfit}

abbrev pub status_number : Status → ℕ
status_number Done = 0
status_number (Refused refusal) = number_of refusal
status_number Miss = 100
status_number Empty = 101
status_number Short = 102
status_number Waits = 103
status_number Idle = 104
status_number Finished = 105
status_number Stale = 106
status_number NotWhole = 107
status_number OtherVersion = 108
status_number OtherConfig = 109
status_number OtherSeal = 110
status_number TooOld = 111
status_number ClockWentBack = 112
status_number Unfit = 113

-- the number is that of a status of which this holds
pub record Says (number : ℕ) (holds : Status → Type 0) : Type 0 where
  pub status : Status
  pub number_is : number ≡ status_number status
  pub held : holds status

-- a call on what C holds: where there is no cache, it says so and there is none; else there is still one, of which the table
-- of the call holds
abbrev pub OnCache : Option Cache → Option Cache → ℕ → (Status → Leased → Leased → Type 0) → Type 0
OnCache None new number table = (number ≡ status_number Empty) × (new ≡ None)
OnCache (Some old) None number table = ⊥
OnCache (Some old) (Some new) number table = Says number (λ status. table status old.leased new.leased)

-- the same of a value, which stays as it is
abbrev pub OnValue : Option Reading → Option Reading → ℕ → (Status → List ℕ → Type 0) → Type 0
OnValue None new number table = (number ≡ status_number Empty) × (new ≡ None)
OnValue (Some old) new number table = (new ≡ Some old) × Says number (λ status. table status old.bytes)

-- the same of an image, of which the table of the call holds
abbrev pub OnImage : Option Image → Option Image → ℕ → (Status → Image → Image → Type 0) → Type 0
OnImage None new number table = (number ≡ status_number Empty) × (new ≡ None)
OnImage (Some old) None number table = ⊥
OnImage (Some old) (Some new) number table = Says number (λ status. table status old new)
