-- Shards in the midst of a run.
use Rattle.std.specs.Prelude.{◌≡◌, ℕ, ◌*◌, ◌≤◌, List, [], ◌∷◌, take, length, Option, Some, None}
use Rattle.std.specs.List.{slice_get}
use Rattle.hc_types.specs.Config.{Config}
use Rattle.hc_types.specs.Tally.{tally}
use Rattle.hc_engines.specs.Engine.{Pages}
use Rattle.hc_history.specs.Told.{Log, told_more}
use Rattle.hc_machine.specs.Cache.{new_cache}
use Rattle.hc_machine.specs.Schedule.{Step, Told, given_up}
use Rattle.hc_follows.specs.Follows.{StopsAt}
use Rattle.hc_run.specs.Going.{IsOngoing}
use Rattle.hc_run.specs.Shows.{Window, Stage, AreOwn, seen}
use Rattle.hc_shards.specs.Shards.{Sharded, pages_of, share_of}
use Rattle.hc_shard_laws.specs.OwnKeys.{ShardStep, steps_of}
use Rattle.hc_shard_run.specs.Ran.{RanShard, window_of}

-- a shard's cache, what its steps so far were answered and where each ends in its log, and how many it made where it
-- has stopped
pub record Lane : Type 0 where
  pub stage : Stage
  pub answers : List Told
  pub ends : List ℕ
  pub stopped : Option ℕ

-- one that made no step yet
pub record IsNew (config : Config) (own : Window) (lane : Lane) : Type 0 where
  pub cache : lane.stage.cache ≡ new_cache config
  pub log : lane.stage.log ≡ Log []
  pub results : lane.stage.results ≡ []
  pub slots : lane.stage.slots ≡ []
  pub window : lane.stage.window ≡ own
  pub failures : lane.stage.failures ≡ 0
  pub answers : lane.answers ≡ []
  pub ends : lane.ends ≡ []
  pub stopped : lane.stopped ≡ None

-- The shard's steps so far are a run of its own, up to the one for which it was out of memory, over a device that holds its
-- pages so.
pub record IsLane (held : Pages) (config : Config) (steps : List Step) (lane : Lane) : Type 0 where
  pub ongoing : IsOngoing held config (take (length lane.answers) steps) lane.answers lane.ends lane.stage
  pub stops : StopsAt lane.stopped (length lane.answers) (length steps)

-- so are the steps of the list that are this shard's, over its own pages
pub record IsLaneOf (s : Sharded) (held : Pages) (steps : List ShardStep) (shard : ℕ) (lane : Lane) : Type 0 where
  pub window : lane.stage.window ≡ window_of s shard
  pub run : IsLane (seen (window_of s shard) held) (share_of s) (steps_of s.shards shard steps) lane

-- and those of each shard
abbrev pub AreLanes : Sharded → Pages → List ShardStep → List Lane → Type 0
AreLanes s held steps lanes = (shard : ℕ) (lane : Lane) → slice_get lanes shard ≡ Some lane → IsLaneOf s held steps shard lane

-- what fills each shard's slots is its cache's own
abbrev pub AreOwnLanes : List Lane → Type 0
AreOwnLanes [] = Unit {0}
AreOwnLanes (lane ∷ lanes) = AreOwn lane.stage.slots lane.stage.cache × AreOwnLanes lanes

-- how often operations of all shards failed otherwise than by their steps
abbrev pub failures_of : List Lane → ℕ
failures_of lanes = tally (λ (lane : Lane). lane.stage.failures) lanes

-- the pages behind those of all shards are held as they were
abbrev pub Others : Sharded → Pages → Pages → Type 0
Others s before after = (place : ℕ) → s.shards * pages_of s.config.flash ≤ place → after place ≡ before place

-- ---- the end

-- what a shard leaves, once what still fills its slots is given up
pub record IsEnd (lane : Lane) (ran : RanShard) : Type 0 where
  pub log : Log ran.log ≡ told_more lane.stage.log (given_up lane.stage.slots lane.stage.cache).part
  pub ends : ran.ends ≡ lane.ends
  pub answers : ran.answers ≡ lane.answers
  pub stopped : ran.stopped ≡ lane.stopped

-- and what each leaves
abbrev pub AreEnds : List Lane → List RanShard → Type 0
AreEnds [] [] = Unit {0}
AreEnds (lane ∷ lanes) (ran ∷ rans) = IsEnd lane ran × AreEnds lanes rans
AreEnds lanes rans = ⊥
