-- The texts of what is forgotten, and why.
use Rattle.std.specs.Prelude.{ℕ, List, [], ◌++◌, Option, Some, None, option_map, codes, if◌then◌else◌}
use Rattle.std.specs.Fmt.{decimal}
use Rattle.std.specs.Str.{is_utf8}
use Rattle.hc_types.specs.declared.loss.Why.{Why}
use Rattle.hc_types.specs.declared.loss.Why.TheVariants.{NoFlash, Tombstone, NotAdmitted, TooLarge, QueueFull}
use Rattle.hc_types.specs.Loss.{Scope, Key, Bucket, Hash, Cause, Evicted, BucketFull, Reclaimed, NoCleanRegion, Collision, Expired, Fault}

-- the key that a scope leaves out
abbrev pub but_text : Option (List ℕ) → List ℕ
but_text None = []
but_text (Some key) = codes " but " ++ key

-- what is forgotten, with the bytes of the keys
abbrev pub scope_text : Scope → List ℕ
scope_text (Key key) = codes "key " ++ key
scope_text (Bucket bucket) = codes "bucket " ++ decimal bucket
scope_text (Hash kept but) = codes "hash " ++ decimal kept ++ but_text but

-- why an evicted item isn't kept elsewhere
abbrev pub why_text : Why → List ℕ
why_text NoFlash = codes "evicted noflash"
why_text Tombstone = codes "evicted tombstone"
why_text NotAdmitted = codes "evicted notadmitted"
why_text TooLarge = codes "evicted toolarge"
why_text QueueFull = codes "evicted queuefull"

-- why it is forgotten
abbrev pub cause_text : Cause → List ℕ
cause_text (Evicted pool want why) = why_text why
cause_text BucketFull = codes "bucketfull"
cause_text (Reclaimed region) = codes "reclaimed " ++ decimal region
cause_text NoCleanRegion = codes "nocleanregion"
cause_text (Collision by) = codes "collision"
cause_text Expired = codes "expired"
cause_text Fault = codes "fault"

-- as what bytes are shown that are to be text: where they are none, this leaves it open
abbrev pub shown : List ℕ → Option (List ℕ)
shown bytes = if is_utf8 bytes then Some bytes else None

-- the same of what is forgotten
abbrev pub scope_shown : Scope → Option (List ℕ)
scope_shown (Key key) = option_map (λ text. scope_text (Key text)) (shown key)
scope_shown (Bucket bucket) = Some (scope_text (Bucket bucket))
scope_shown (Hash kept None) = Some (scope_text (Hash kept None))
scope_shown (Hash kept (Some but)) = option_map (λ text. scope_text (Hash kept (Some text))) (shown but)
