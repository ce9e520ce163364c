-- What a core does that keeps digests of its pages.
use Rattle.std.specs.Prelude.{ℕ}
use Rattle.hc_flash.specs.Operations.{IoResult}
use Rattle.hc_machine.specs.Cache.{Took}
use Rattle.hc_machine.specs.Takes.{Take}
use Rattle.hc_tracked.specs.Reading.{IsOrFails}
use Rattle.hc_machine.specs.Call.{Finishes}
use Rattle.hc_leased.specs.Leased.{Leased}
use Rattle.hc_leased.specs.Runs.{Does, Looks}

-- a result is handed in as it came, or as a failure
abbrev pub FinishedSo : ℕ → IoResult → Take → Leased → Leased → Type 0
FinishedSo job came take old new = (told : IoResult) × (IsOrFails came told × Does (Looks (Finishes job told) (Took take)) old new)
