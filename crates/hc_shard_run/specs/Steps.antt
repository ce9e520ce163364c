-- Which steps of a list are refused.
use Rattle.std.specs.Prelude.{◌≡◌, ℕ, ◌<◌, ◌&&◌, nat_lt, Bool, List, ◌∷◌, ◌++◌, Option, Some, None, if◌then◌else◌}
use Rattle.hc_types.specs.declared.refusal.Refusal.{Refusal}
use Rattle.hc_types.specs.declared.refusal.Refusal.TheVariants.{WrongShard}
use Rattle.hc_shard_laws.specs.OwnKeys.{ShardStep, is_own, steps_of}

-- there is the shard, and the step names no key of another
abbrev pub is_for : ℕ → ShardStep → Bool
is_for shards s = nat_lt s.shard shards && is_own shards s.shard s.step.deed

-- what the step is answered in place of its shard's answer
abbrev pub refusal_of : ℕ → ShardStep → Option Refusal
refusal_of shards s = if is_for shards s then None else Some WrongShard

-- with a step that is refused, each shard has the steps that it has without it
abbrev pub RefusedStepsChangeNothing : Type 0
RefusedStepsChangeNothing = (shards shard : ℕ) (before : List ShardStep) (s : ShardStep) (after : List ShardStep) → shard < shards → refusal_of shards s ≡ Some WrongShard → steps_of shards shard (before ++ s ∷ after) ≡ steps_of shards shard (before ++ after)
