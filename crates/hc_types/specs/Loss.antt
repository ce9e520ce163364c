-- What is forgotten, and why: what contracts see, and how the code's types are seen as it.
use Rattle.std.specs.Prelude.{ℕ, ◌==◌, Bool, false, not, ◌&&◌, List, Option, Some, None}
use Rattle.std.specs.Str.{bytes_eq}
use Rattle.hc_types.specs.declared.config.FlashConfig.{FlashConfig}
use Rattle.hc_types.specs.declared.loss.Scope.{Scope as Scopes}
use Rattle.hc_types.specs.declared.loss.Scope.TheVariants as scopes
use Rattle.hc_types.specs.declared.loss.Cause.{Cause as Causes}
use Rattle.hc_types.specs.declared.loss.Cause.TheVariants as causes
use Rattle.hc_types.specs.declared.loss.Why.{Why}
use Rattle.hc_types.specs.Places.{kept_of, bucket_at, is_small_by}

-- the keys that a loss covers
pub data Scope : Type 0 where
  Key : (key : List ℕ) → Scope
  Bucket : (bucket : ℕ) → Scope
  Hash : (kept : ℕ) (but : Option (List ℕ)) → Scope

abbrev pub scope_of : {A : Type 0} → Scopes A → Scope
scope_of (scopes.Key key) = Key key
scope_of (scopes.Bucket bucket) = Bucket bucket
scope_of (scopes.Hash kept but) = Hash kept but

-- the key is the one that is named
abbrev pub is_but : Option (List ℕ) → List ℕ → Bool
is_but None key = false
is_but (Some named) key = bytes_eq named key

-- The scope covers a key whose value has this length: the named key, the keys of a bucket with small items, or those of a
-- kept hash with large ones. Without flash there are no buckets and no kept hashes.
abbrev pub covers : Option FlashConfig → Scope → List ℕ → ℕ → Bool
covers flash (Key named) key len = bytes_eq named key
covers None (Bucket bucket) key len = false
covers (Some flash) (Bucket bucket) key len = is_small_by flash key len && (bucket_at flash key == bucket)
covers None (Hash kept but) key len = false
covers (Some flash) (Hash kept but) key len = not (is_small_by flash key len) && (kept_of flash.bits key == kept) && not (is_but but key)

-- why something is forgotten
pub data Cause : Type 0 where
  Evicted : (pool want : ℕ) (why : Why) → Cause
  BucketFull : Cause
  Reclaimed : (region : ℕ) → Cause
  NoCleanRegion : Cause
  Collision : (by : List ℕ) → Cause
  Expired : Cause
  Fault : Cause

abbrev pub cause_of : {A : Type 0} → Causes A → Cause
cause_of (causes.Evicted pool want why) = Evicted pool want why
cause_of causes.BucketFull = BucketFull
cause_of (causes.Reclaimed region) = Reclaimed region
cause_of causes.NoCleanRegion = NoCleanRegion
cause_of (causes.Collision by) = Collision by
cause_of causes.Expired = Expired
cause_of causes.Fault = Fault
