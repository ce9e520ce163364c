-- A line: pieces in order, each under a key of its own.
use Rattle.std.specs.Prelude.{◌≡◌, ℕ, Bool, true, not, List, [], ◌∷◌, Option, Some, None, find, filter, map, nat_eq, ⊤, if◌then◌else◌}
use Rattle.std.specs.Cmp.Lexicographic.{pointwise}
use Rattle.hc_queue.specs.declared.queue.Piece.{Piece}
use Rattle.hc_queue.specs.declared.keyed.Named.{Named}
use Rattle.hc_queue.specs.Queue.{is_in}
use Rattle.hc_queue.specs.Keys.{named}

abbrev pub has_key : {V A : Type 0} → List ℕ → Piece (Named V A) → Bool
has_key key piece = pointwise nat_eq piece.value.key key

-- the piece with the key
abbrev pub piece_of : {V A : Type 0} → List ℕ → List (Piece (Named V A)) → Option (Piece (Named V A))
piece_of key pieces = find (has_key key) pieces

-- that with the key, where there is one
abbrev pub piece_by : {V A : Type 0} → Option (List ℕ) → List (Piece (Named V A)) → Option (Piece (Named V A))
piece_by None pieces = None
piece_by (Some key) pieces = piece_of key pieces

-- no two pieces have the same key
abbrev pub AreApart : {V A : Type 0} → List (Piece (Named V A)) → Type 0
AreApart [] = ⊤
AreApart (piece ∷ pieces) = (piece_of piece.value.key pieces ≡ None) × AreApart pieces

abbrev pub without_key : {V A : Type 0} → List ℕ → List (Piece (Named V A)) → List (Piece (Named V A))
without_key key pieces = filter (λ piece. not (has_key key piece)) pieces

-- the piece with the key is taken from here on
abbrev pub taken_key : {V A : Type 0} → List ℕ → List (Piece (Named V A)) → List (Piece (Named V A))
taken_key key pieces = map (λ (piece : Piece (Named _ _)). if has_key key piece then record piece { taken = true } else piece) pieces

-- the piece stands in the lane
abbrev pub in_lane : {V : Type 0} → ℕ → Piece V → Bool
in_lane lane piece = is_in lane piece.lane

-- its turn doesn't come again
abbrev pub is_taken : {V : Type 0} → Piece V → Bool
is_taken piece = piece.taken

-- the list without the first that passes
abbrev pub without_first : {X : Type 0} → (X → Bool) → List X → List X
without_first test [] = []
without_first test (x ∷ xs) = if test x then xs else x ∷ without_first test xs

-- the piece with the key has this value from here on
abbrev pub with_value : {V A : Type 0} → List ℕ → V → List (Piece (Named V A)) → List (Piece (Named V A))
with_value key value pieces = map (λ (piece : Piece (Named _ _)). if has_key key piece then named value piece else piece) pieces

-- the pieces in order, and how many more there is room for
pub record Lined (V : Type 0) : Type 0 where
  pub pieces : List (Piece V)
  pub room : ℕ
