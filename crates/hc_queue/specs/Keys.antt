-- A queue whose pieces have keys.
use Rattle.std.specs.Prelude.{◌≡◌, ℕ, ◌==◌, ◌≤◌, Bool, not, List, [], ◌∷◌, Option, Some, None, filter, map, nat_eq, slice_set, if◌then◌else◌}
use Rattle.std.specs.Cmp.Lexicographic.{pointwise}
use Rattle.indexmap.specs.IndexMap.{IndexMap, get, spare}
use Rattle.hc_queue.specs.declared.queue.Piece.{Piece}
use Rattle.hc_queue.specs.declared.keyed.Named.{Named}
use Rattle.hc_queue.specs.Queue.{piece_in}

abbrev pub same_key : List ℕ → List ℕ → Bool
same_key = pointwise nat_eq

-- the number of the first piece with the key
abbrev pub number_of : {V A : Type 0} → List ℕ → List (ℕ × Piece (Named V A)) → Option ℕ
number_of key [] = None
number_of key (e ∷ es) = if same_key key e.1.value.key then Some e.0 else number_of key es

abbrev pub without_key : {V A : Type 0} → List ℕ → List (ℕ × Piece (Named V A)) → List (ℕ × Piece (Named V A))
without_key key es = filter (λ (e : ℕ × Piece (Named _ _)). not (same_key key e.1.value.key)) es

-- the value beside a piece's key
abbrev pub value_of : {V A : Type 0} → Piece (Named V A) → V
value_of piece = piece.value.value

-- the piece has this value, under the same key
abbrev pub named : {V A : Type 0} → V → Piece (Named V A) → Piece (Named V A)
named v piece = record piece { value = record piece.value { value = v } }

-- the piece with the number has this value from here on
abbrev pub named_at : {V A : Type 0} → ℕ → V → List (ℕ × Piece (Named V A)) → List (ℕ × Piece (Named V A))
named_at number v es = map (λ (e : ℕ × Piece (Named _ _)). if e.0 == number then (e.0, named v e.1) else e) es

abbrev pub named_slot : {V A : Type 0} → V → Option (Piece (Named V A)) → Option (Piece (Named V A))
named_slot v None = None
named_slot v (Some piece) = Some (named v piece)

-- the piece at a place has this value from here on
abbrev pub named_place : {V A : Type 0} → ℕ → V → List (Option (Piece (Named V A))) → List (Option (Piece (Named V A)))
named_place place v xs = slice_set xs place (named_slot v (piece_in place xs))

-- no two pieces have the same key
abbrev pub AreApart : {V A : Type 0} → List (ℕ × Piece (Named V A)) → Type 0
AreApart [] = Unit {0}
AreApart (e ∷ es) = (number_of e.1.value.key es ≡ None) × AreApart es

-- the map leads from each key to the number of its piece, and has as much room as the queue
pub record IsIndexed {V A S : Type 0} (es : List (ℕ × Piece (Named V A))) (most : ℕ) (numbers : IndexMap (List ℕ) ℕ S) : Type 0 where
  pub found : (key : List ℕ) → get same_key numbers key ≡ number_of key es
  pub apart : AreApart es
  pub room : most ≤ spare numbers
