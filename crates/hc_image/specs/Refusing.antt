-- What is made of what came, or why it is refused: by the first test that it doesn't pass. Want of memory is beside these.
use Rattle.std.specs.Prelude.{◌≡◌, ◌⊎◌, Bool, false, Option, Some, None, Result, Ok, Err, if◌then◌else◌}
use Rattle.hc_block.specs.declared.reason.Reason.{Reason}
use Rattle.hc_block.specs.declared.reason.Reason.TheVariants as reasons
use Rattle.hc_nvm.specs.declared.resting.Unfit.{Unfit as Misfit}
use Rattle.hc_nvm.specs.declared.resting.Unfit.TheVariants as waits
use Rattle.hc_image_text.specs.declared.head.Refused.{Refused}
use Rattle.hc_image_text.specs.declared.head.Refused.TheVariants as refused
use Rattle.hc_image.specs.declared.refusal.Refusal.{Refusal}
use Rattle.hc_image.specs.declared.refusal.Refusal.TheVariants.{NoMemory, NotWhole, OtherVersion, OtherConfig, TooOld, ClockWentBack, Unfit}

-- the records' own refusals, in this crate's words
abbrev pub refusal_by : Refused → Refusal
refusal_by refused.NoMemory = NoMemory
refusal_by refused.NotWhole = NotWhole
refusal_by refused.OtherVersion = OtherVersion
refusal_by refused.OtherConfig = OtherConfig
refusal_by refused.TooOld = TooOld
refusal_by refused.ClockWentBack = ClockWentBack

-- the reasons of the large engine's parts, and of what waits for flash
abbrev pub reason_by : Reason → Refusal
reason_by reasons.NoMemory = NoMemory
reason_by why = Unfit

abbrev pub unfit_by : Misfit → Refusal
unfit_by waits.NoMemory = NoMemory
unfit_by why = Unfit

abbrev pub made : {X Y : Type 0} → (X → Y) → Result X Refusal → Result Y Refusal
made f (Err why) = Err why
made f (Ok x) = Ok (f x)

abbrev pub follow : {X Y : Type 0} → (X → Result Y Refusal) → Result X Refusal → Result Y Refusal
follow more (Err why) = Err why
follow more (Ok x) = more x

-- of what was read, which may be none
abbrev pub read : {X Y : Type 0} → (X → Y) → Option X → Result Y Refusal
read f None = Err NotWhole
read f (Some x) = Ok (f x)

-- what can be a cache's, which else is refused
abbrev pub if_fits : {X : Type 0} → Bool → X → Result X Refusal
if_fits fits x = if fits then Ok x else Err Unfit

-- Memory lacks, or that is why.
abbrev pub IsWhy : {X : Type 0} → Result X Refusal → Refusal → Type 0
IsWhy r why = (why ≡ NoMemory) ⊎ (r ≡ Err why)

-- Memory lacks, or it can't be a cache's.
abbrev pub IsUnfit : Bool → Refusal → Type 0
IsUnfit fits why = (why ≡ NoMemory) ⊎ ((why ≡ Unfit) × (fits ≡ false))
