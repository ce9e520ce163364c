-- What a call of both engines does to their lists of operations, whatever comes of it.
use Rattle.std.specs.Prelude.{◌≡◌, ℕ, ◌≤◌, List}
use Rattle.hc_types.specs.Tally.{tally}
use Rattle.hc_engines.specs.Engine.{Op, Get, Answer, Found, Next, Busy, Io, Done}
use Rattle.hc_engines.specs.small.BigHash as bighash
use Rattle.hc_engines.specs.small.BigHash.{Phase, make_job}
use Rattle.hc_engines.specs.large.Block as block
use Rattle.hc_engines.specs.large.Block.{Work, Writing, Getting}
use Rattle.hc_engines.specs.pair.Pair.{Pair, Moved}
use Rattle.hc_invariant.specs.Structure.{operations}

-- a work that such an operation may be in the large engine
abbrev pub IsWorkOf : Op → Work → Type 0
IsWorkOf (Get key) (Getting reading) = reading.key ≡ key
IsWorkOf (Get key) (Writing region bytes) = ⊥
IsWorkOf op work = Unit {0}

-- what a get finds is of its key
abbrev pub AnswerIsOf : Op → Answer → Type 0
AnswerIsOf (Get key) (Found entry) = entry.key ≡ key
AnswerIsOf op answer = Unit {0}

abbrev pub NextIsOf : Op → Next → Type 0
NextIsOf op Busy = Unit {0}
NextIsOf op (Io order outcome) = Unit {0}
NextIsOf op (Done outcome) = AnswerIsOf op outcome.answer

-- no operation comes but this one: each sum in which it counts nothing doesn't grow
abbrev pub OnlySmall : ℕ → Op → List bighash.Job → List bighash.Job → Type 0
OnlySmall number op old new = (f : bighash.Job → ℕ) → ((bucket : ℕ) (phase : Phase) → f (make_job number bucket op phase) ≡ 0) → tally f new ≤ tally f old

abbrev pub OnlyLarge : ℕ → Op → List block.Job → List block.Job → Type 0
OnlyLarge number op old new = (f : block.Job → ℕ) → ((work : Work) → IsWorkOf op work → f (record { number = number; work = work }) ≡ 0) → tally f new ≤ tally f old

-- nor does it, where it doesn't wait for an order
abbrev pub Rests : Pair → Pair → Next → Type 0
Rests old new (Io order outcome) = Unit {0}
Rests old new next = (n : ℕ) → operations new n ≤ operations old n

pub record Does (number : ℕ) (op : Op) (old : Pair) (moved : Moved) : Type 0 where
  pub small : OnlySmall number op old.small.jobs moved.pair.small.jobs
  pub large : OnlyLarge number op old.large.jobs moved.pair.large.jobs
  pub answer : NextIsOf op moved.next
  pub rests : Rests old moved.pair moved.next
