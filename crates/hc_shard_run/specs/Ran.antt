-- What a shard leaves.
use Rattle.std.specs.Prelude.{◌≡◌, ℕ, Bool, List, take, length, Option}
use Rattle.hc_types.specs.Config.{Config}
use Rattle.hc_engines.specs.Engine.{Pages}
use Rattle.hc_history.specs.Note.{Note}
use Rattle.hc_machine.specs.Schedule.{Step, Told, run, log_of}
use Rattle.hc_run.specs.Runs.{ends_from, failures_told}
use Rattle.hc_run.specs.Shows.{Window, IsWithin}
use Rattle.hc_shards.specs.Shards.{Sharded, page_in, pages_of}

-- the log, where each step's part ends in it, the answers, and, when out of memory for a step, how many were made
-- before it
pub record RanShard : Type 0 where
  pub log : List Note
  pub ends : List ℕ
  pub answers : List Told
  pub stopped : Option ℕ

-- the pages of the device that are the shard's
abbrev pub window_of : Sharded → ℕ → Window
window_of s shard = record { first = page_in (pages_of s.config.flash) shard 0; pages = pages_of s.config.flash }

-- The answers, the ends and the log are those of the machine's run of the steps by themselves, up to the one for which it
-- was out of memory, where the device fails so by itself; and of each page it is held what that run left there, where that
-- is known.
pub record RunsAlone (config : Config) (steps : List Step) (ran : RanShard) (held : Pages) : Type 0 where
  pub breaks : List Bool
  pub answered : ran.answers ≡ (run config breaks (take (length ran.answers) steps)).answers
  pub ended : ran.ends ≡ ends_from 0 (run config breaks (take (length ran.answers) steps)).parts
  pub told : ran.log ≡ log_of (run config breaks (take (length ran.answers) steps))
  pub within : IsWithin (run config breaks (take (length ran.answers) steps)).scene.world.pages held

-- how often the shard's operations failed otherwise than by their steps
abbrev pub told_failures : RanShard → ℕ
told_failures ran = failures_told 0 ran.answers
