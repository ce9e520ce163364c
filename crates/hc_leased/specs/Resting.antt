-- Why a cache that was kept doesn't go on.
use Rattle.std.specs.Prelude.{◌≢◌, ℕ, List, length, Option}
use Rattle.hc_types.specs.declared.config.FlashConfig.{FlashConfig}
use Rattle.hc_tracked.specs.Resting.{pages_in}
use Rattle.hc_leased.specs.declared.resting_tracked.NotResumed.{NotResumed}
use Rattle.hc_leased.specs.declared.resting_tracked.NotResumed.TheVariants.{WrongDigests, NoMemory}

-- there are as many digests as pages, or else this is told where memory is enough
abbrev pub IsWhy : List ℕ → Option FlashConfig → NotResumed → Type 0
IsWhy digests flash WrongDigests = length digests ≢ pages_in flash
IsWhy digests flash NoMemory = Unit {0}
