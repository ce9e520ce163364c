-- The keys of the large clean items, listed by where their copies stand on flash.
use Rattle.std.specs.Prelude.{◌≡◌, ℕ, ◌*◌, ◌-◌, ◌%◌, ◌^◌, ◌==◌, nat_le, ◌&&◌, not, max, min, Bool, true, false, List, [], ◌∷◌, ◌++◌, Option, Some, None, map, length, if◌then◌else◌}
use Rattle.std.specs.List.{list_any}
use Rattle.std.specs.Str.{bytes_eq}
use Rattle.std.specs.declared.vec.Vec.{Vec}
use Rattle.hc_types.specs.Tally.{tally, count}
use Rattle.hc_types.specs.Loss.{Scope, Key, Bucket, Hash, is_but}
use Rattle.hc_types.specs.Places.{kept_of, is_small_by}
use Rattle.hc_types.specs.declared.config.FlashConfig.{FlashConfig}
use Rattle.hc_memory.specs.Item.{Item}
use Rattle.hc_memory.specs.Pool.{Pool}

-- ---- keys by places

-- the keys of each place
abbrev pub groups_of : {A : Type 0} → List (ℕ × Vec (List ℕ) A) → List (ℕ × List (List ℕ))
groups_of entries = map (λ (e : ℕ × Vec (List ℕ) _). (e.0, e.1.items)) entries

-- the keys of a place
abbrev pub keys_at : ℕ → List (ℕ × List (List ℕ)) → List (List ℕ)
keys_at place [] = []
keys_at place (group ∷ groups) = if place == group.0 then group.1 else keys_at place groups

-- the key is one of these
abbrev pub has_key : List ℕ → List (List ℕ) → Bool
has_key key keys = list_any (bytes_eq key) keys

-- the keys, and this one among them
abbrev pub with_key : List ℕ → List (List ℕ) → List (List ℕ)
with_key key keys = if has_key key keys then keys else keys ++ key ∷ []

-- the key's hash, kept by so many bits, is this one, and another key is named
abbrev pub is_under : ℕ → ℕ → Option (List ℕ) → List ℕ → Bool
is_under bits hash but key = (kept_of bits key == hash) && not (is_but but key)

-- ---- the index

-- how many places large items have: as many as pages in all regions
abbrev pub large_places : FlashConfig → ℕ
large_places flash = max (min (flash.regions * flash.region_pages) (2 ^ 64 - 1)) 1

-- the place of a large item of this key
abbrev pub large_at : FlashConfig → List ℕ → ℕ
large_at flash key = kept_of flash.bits key % large_places flash

-- the scope is a kept hash
abbrev pub is_hash : Scope → Bool
is_hash (Key key) = false
is_hash (Bucket bucket) = false
is_hash (Hash kept but) = true

-- The keys of large items, by a place that their kept hash says, and the greatest number of an item that was listed.
pub record Listing : Type 0 where
  pub newest : ℕ
  pub large : List (ℕ × List (List ℕ))

-- An item of this key and a value of this length is listed where a copy of it would stand, if it is a large one. Small ones
-- need no list, and without flash there is no such place.
abbrev pub is_listed : Option FlashConfig → Listing → List ℕ → ℕ → Bool
is_listed None listing key len = true
is_listed (Some flash) listing key len = if is_small_by flash key len then true else has_key key (keys_at (large_at flash key) listing.large)

-- the item is no newer than the newest that was listed, and is listed
abbrev pub is_told : Option FlashConfig → Listing → Item → Bool
is_told flash listing item = nat_le item.number listing.newest && is_listed flash listing item.key (length item.value)

-- the item is clean, and newer than that, or isn't listed
abbrev pub is_missed : Option FlashConfig → Listing → Item → Bool
is_missed flash listing item = item.clean && not (is_told flash listing item)

-- each clean item is listed; more may be
abbrev pub Listed : Option FlashConfig → Listing → List Pool → Type 0
Listed flash listing pools = tally (λ (pool : Pool). count (is_missed flash listing) pool.items) pools ≡ 0
