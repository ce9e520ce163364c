-- One shard of many: a cache that knows which keys are its own.
use Rattle.std.specs.Prelude.{◌≡◌, ◌⊎◌, ℕ, ◌==◌, ◌<◌, Bool, true, false, List, Some, None}
use Rattle.hc_types.specs.Limits.{key_refusal}
use Rattle.hc_types.specs.declared.refusal.Refusal.{Refusal}
use Rattle.hc_types.specs.declared.refusal.Refusal.TheVariants.{NoMemory, ForeignHandle, WrongShard}
use Rattle.hc_machine.specs.Cache.{Moved, Answer}
use Rattle.hc_shards.specs.Shards.{shard_of}
use Rattle.hc_core.specs.Logged.{Logged, IsCall}

-- the cache, its number among the shards, and how many they are
pub record Shard : Type 0 where
  pub core : Logged
  pub shard : ℕ
  pub shards : ℕ

-- the key is one of the shard's own
abbrev pub is_own : Shard → List ℕ → Bool
is_own s key = shard_of s.shards key == s.shard

-- the call is the machine's step on the shard's cache, and the shard stays what it is among the others
pub record Does (moved : Moved) (answer : Answer) (old new : Shard) : Type 0 where
  pub call : IsCall moved answer old.core new.core
  pub shard : new.shard ≡ old.shard
  pub shards : new.shards ≡ old.shards

-- why a call of a key is refused: with this refusal where the key is another shard's, and else for one of these reasons
abbrev pub IsWhy : Bool → Refusal → (Refusal → Type 0) → Refusal → Type 0
IsWhy true other IsReason refusal = IsReason refusal
IsWhy false other IsReason refusal = refusal ≡ other

-- a call is refused only when out of memory
abbrev pub IsMemory : Refusal → Type 0
IsMemory refusal = refusal ≡ NoMemory

-- a call of a key's bytes is refused for them, or else for one of these reasons
abbrev pub IsWhyOf : List ℕ → (Refusal → Type 0) → Refusal → Type 0
IsWhyOf key IsReason refusal = (key_refusal key ≡ Some refusal) ⊎ ((key_refusal key ≡ None) × IsReason refusal)
