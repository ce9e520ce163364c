-- Whether a worker that takes finds something to do, where there is flash.
use Rattle.std.specs.Prelude.{◌≡◌, Bool, false, Option, Some, None}
use Rattle.hc_machine.specs.Nvm.{Nvm}
use Rattle.hc_machine.specs.Takes.{writer_take, filler_take}
use Rattle.hc_nvm.specs.Seen.{finds_work}

abbrev pub HasWriterWork : Option Nvm → Bool → Type 0
HasWriterWork None has = has ≡ false
HasWriterWork (Some nvm) has = has ≡ finds_work (writer_take nvm).take

abbrev pub HasFillerWork : Option Nvm → Bool → Type 0
HasFillerWork None has = has ≡ false
HasFillerWork (Some nvm) has = has ≡ finds_work (filler_take nvm).take
