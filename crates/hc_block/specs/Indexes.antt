-- How contracts see the index and its segments.
use Rattle.std.specs.Prelude.{◌≡◌, ℕ, ◌+◌, ◌<◌, ◌≤◌, ◌/◌, ◌^◌, nat_lt, List, [], ◌∷◌, ◌++◌, length, map, if◌then◌else◌}
use Rattle.hc_engines.specs.large.Index.{Place, Indexed}

abbrev pub indexed_of : ℕ × Place → Indexed
indexed_of p = record { hash = p.0; place = p.1 }

-- the pairs in order of the hash
abbrev pub pairs_of : List (ℕ × Place) → List Indexed
pairs_of entries = map indexed_of entries

-- ---- segments

-- the number of the hash's segment: the hash without so many of its lowest bits
abbrev pub segment_of : ℕ → ℕ → ℕ
segment_of shift hash = if nat_lt (hash / (2 ^ shift)) 256 then hash / (2 ^ shift) else 255

-- the segments' pairs, one after the other
abbrev pub joined : List (List Indexed) → List Indexed
joined [] = []
joined (xs ∷ segments) = xs ++ joined segments

-- the hashes of all these pairs are of this segment
abbrev pub AllOf : ℕ → ℕ → List Indexed → Type 0
AllOf shift n [] = Unit {0}
AllOf shift n (x ∷ xs) = (segment_of shift x.hash ≡ n) × AllOf shift n xs

-- the first of these segments has the number n
abbrev pub AreApart : ℕ → ℕ → List (List Indexed) → Type 0
AreApart shift n [] = Unit {0}
AreApart shift n (xs ∷ segments) = AllOf shift n xs × AreApart shift (n + 1) segments

-- all these hashes are above this one
abbrev pub AllAbove : ℕ → List Indexed → Type 0
AllAbove hash [] = Unit {0}
AllAbove hash (x ∷ xs) = (hash < x.hash) × AllAbove hash xs

-- the hashes rise
abbrev pub Rises : List Indexed → Type 0
Rises [] = Unit {0}
Rises (x ∷ xs) = AllAbove x.hash xs × Rises xs

-- each pair is in its own segment
abbrev pub IsCut : ℕ → List (List Indexed) → Type 0
IsCut shift segments = (shift ≤ 56) × (length segments ≡ 256) × AreApart shift 0 segments
