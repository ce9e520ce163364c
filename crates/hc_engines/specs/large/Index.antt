-- The index: which place a kept hash leads to. It is seen as the list of its pairs in order of the hash.
use Rattle.std.specs.Prelude.{ℕ, ◌==◌, nat_lt, Bool, false, ◌&&◌, List, [], ◌∷◌, Option, Some, None, if◌then◌else◌}
use Rattle.hc_engines.specs.large.Region.{Appended}

-- a place on flash
pub record Place : Type 0 where
  pub region : ℕ
  pub offset : ℕ
  pub length : ℕ

pub record Indexed : Type 0 where
  pub hash : ℕ
  pub place : Place

-- where the hash leads
abbrev pub place_at : ℕ → List Indexed → Option Place
place_at hash [] = None
place_at hash (x ∷ xs) = if x.hash == hash then Some x.place else place_at hash xs

-- the region of the place that was looked up
abbrev pub region_in : Option Place → Option ℕ
region_in None = None
region_in (Some place) = Some place.region

-- the hash leads nowhere
abbrev pub without : ℕ → List Indexed → List Indexed
without hash [] = []
without hash (x ∷ xs) = if x.hash == hash then without hash xs else x ∷ without hash xs

-- the hash leads to this place, and to no other
abbrev pub leading : ℕ → Place → List Indexed → List Indexed
leading hash place [] = record { hash = hash; place = place } ∷ []
leading hash place (x ∷ xs) =
    if nat_lt x.hash hash then x ∷ leading hash place xs
    else (if x.hash == hash then record { hash = hash; place = place } ∷ xs
    else record { hash = hash; place = place } ∷ x ∷ xs)

abbrev pub same_place : Place → Place → Bool
same_place a b = (a.region == b.region) && (a.offset == b.offset) && (a.length == b.length)

-- the place that was looked up is this one
abbrev pub is_place : Option Place → Place → Bool
is_place None place = false
is_place (Some found) place = same_place found place

-- the place that was looked up is that of the entry at this offset of the region
abbrev pub is_at : Option Place → ℕ → ℕ → Bool
is_at None r offset = false
is_at (Some place) r offset = (place.region == r) && (place.offset == offset)

-- the hashes that still lead into this region, of these that were appended to it
abbrev pub leading_into : ℕ → List Appended → List Indexed → List ℕ
leading_into r [] index = []
leading_into r (x ∷ xs) index =
    if is_at (place_at x.hash index) r x.offset then x.hash ∷ leading_into r xs (without x.hash index)
    else leading_into r xs index

abbrev pub without_all : List ℕ → List Indexed → List Indexed
without_all [] index = index
without_all (hash ∷ hashes) index = without_all hashes (without hash index)
