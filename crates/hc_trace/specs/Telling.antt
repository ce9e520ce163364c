-- What is told of a line.
use Rattle.std.specs.Prelude.{◌≡◌, ℕ, List, [], ◌++◌}
use Rattle.hc_history.specs.Told.{Counts, counts_more}
use Rattle.hc_player.specs.Alike.{Alike}
use Rattle.hc_player.specs.Playing.{Playing, world_of}
use Rattle.hc_trace_meaning.specs.Actions.{Moved}
use Rattle.hc_trace_meaning.specs.Trace.{action_text}
use Rattle.hc_trace.specs.Places.{counts_in}

-- the line is answered, its losses are printed and taken, and its notes are counted
pub record IsTold (moved : Moved) (old new : Playing) (before after : List ℕ) : Type 0 where
  pub world : Alike (world_of new) moved.world
  pub log : new.log ≡ Counts (counts_more (counts_in old.log) moved.notes) []
  pub text : after ≡ before ++ action_text moved
