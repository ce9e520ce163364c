-- Of a list of steps of all shards, those of one, and whose keys a log speaks of.
use Rattle.std.specs.Prelude.{◌≡◌, ℕ, ◌==◌, ◌&&◌, Bool, true, List, [], ◌∷◌, ◌++◌, if◌then◌else◌}
use Rattle.hc_types.specs.Config.{Config}
use Rattle.hc_history.specs.Note.{Note, Begin}
use Rattle.hc_history.specs.Regions.{key_of}
use Rattle.hc_machine.specs.Schedule.{Deed, Open, Find, Remove, Step, Told, all_of}
use Rattle.hc_follows.specs.Desk.{new_desk}
use Rattle.hc_follows.specs.Follows.{FollowsFrom}
use Rattle.hc_shards.specs.Shards.{shard_of}

-- a call that begins is of a key that has the property
abbrev pub IsOf : (List ℕ → Type 0) → Note → Type 0
IsOf P (Begin call client op) = P (key_of op)
IsOf P note = Unit {0}

abbrev pub BeginsOf : (List ℕ → Type 0) → List Note → Type 0
BeginsOf P [] = Unit {0}
BeginsOf P (note ∷ notes) = IsOf P note × BeginsOf P notes

-- ---- shards

-- a step of the list, and the shard that it is for
pub record ShardStep : Type 0 where
  pub shard : ℕ
  pub step : Step

-- the key is the shard's, of so many shards
abbrev pub IsKeyOf : ℕ → ℕ → List ℕ → Type 0
IsKeyOf shards shard key = shard_of shards key ≡ shard

-- the step names no key, or one of the shard's
abbrev pub is_own : ℕ → ℕ → Deed → Bool
is_own shards shard (Open slot pool key value ttl) = shard_of shards key == shard
is_own shards shard (Find key) = shard_of shards key == shard
is_own shards shard (Remove key) = shard_of shards key == shard
is_own shards shard deed = true

-- the steps of one shard: those for it that name no key of another
abbrev pub steps_of : ℕ → ℕ → List ShardStep → List Step
steps_of shards shard [] = []
steps_of shards shard (s ∷ all) = if (s.shard == shard) && is_own shards shard s.step.deed then s.step ∷ steps_of shards shard all else steps_of shards shard all

-- each call of the log is of one of the shard's keys
abbrev pub OwnKeys : ℕ → ℕ → List Note → Type 0
OwnKeys shards shard log = BeginsOf (IsKeyOf shards shard) log

-- a shard that follows its own steps has calls of its own keys alone
abbrev pub ShardsKeepKeys : Type 0
ShardsKeepKeys = (shards shard : ℕ) (config : Config) (all : List ShardStep) (answers : List Told) (parts : List (List Note)) (last : List Note) → FollowsFrom config new_desk (steps_of shards shard all) answers parts last → OwnKeys shards shard (all_of parts ++ last)
