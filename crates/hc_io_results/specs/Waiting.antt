-- Results that wait, and for how many more there is room.
use Rattle.std.specs.Prelude.{ℕ, List, map, ⊤}
use Rattle.hc_flash.specs.declared.operation.IoResult.{IoResult}
use Rattle.hc_flash.specs.Seen.{result_of}
use Rattle.hc_flash.specs.Operations.{IoResult as Came, Page}
use Rattle.hc_machine.specs.World.{Result}

-- a result that waits, with its job
abbrev pub waits_for : {A : Type 0} → ℕ × IoResult A → Result
waits_for entry = record { job = entry.0; result = result_of entry.1 }

abbrev pub results_of : {A : Type 0} → List (ℕ × IoResult A) → List Result
results_of entries = map waits_for entries

pub record Waiting : Type 0 where
  pub results : List Result
  pub room : ℕ

-- a page was read
abbrev pub IsPage : Came → Type 0
IsPage (Page bytes) = ⊤
IsPage result = ⊥
