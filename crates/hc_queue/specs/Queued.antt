-- How contracts see a queue.
use Rattle.std.specs.Prelude.{ℕ, List}
use Rattle.hc_queue.specs.declared.queue.Piece.{Piece}

-- the pieces with their numbers, which rise, and how many more can be pushed
pub record Queued (V : Type 0) : Type 0 where
  pub entries : List (ℕ × Piece V)
  pub room : ℕ

-- the pieces that stand in order, the lanes whose next piece isn't ready yet, and how many more of these can be noted
pub record Ordered (V : Type 0) : Type 0 where
  pub entries : List (ℕ × Piece V)
  pub stale : List ℕ
  pub spare : ℕ
