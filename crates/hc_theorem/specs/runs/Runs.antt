-- What every run of lines comes to: its log is legal, and honest.
use Rattle.std.specs.Prelude.{Bool, List, [], ◌∷◌}
use Rattle.hc_types.specs.Config.{Config}
use Rattle.hc_history.specs.Lawful.{Legal}
use Rattle.hc_history.specs.Honest.{Honest}
use Rattle.hc_machine.specs.World.{Line, run}
use Rattle.hc_invariant.specs.Laws.{LineSized}

abbrev pub AllLineSized : List Line → Type 0
AllLineSized [] = Unit {0}
AllLineSized (line ∷ lines) = LineSized line × AllLineSized lines

-- the log of a run from the beginning is legal, and honest, whichever operations the device fails by itself
pub record RunRight (config : Config) (breaks : List Bool) (lines : List Line) : Type 0 where
  pub legal : Legal config (run config breaks lines).log
  pub honest : Honest (run config breaks lines).log
