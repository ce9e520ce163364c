-- How a get is over, as it can be known before anything changes, and what its end leaves.
use Rattle.std.specs.Prelude.{◌≡◌, ℕ, Bool, true, false, List, Option, Some, None, option_map}
use Rattle.hc_engines.specs.Engine.{Op, Put, Get, Delete, Flush, Reclaim, IoResult, Loss, Outcome, Next, Done}
use Rattle.hc_engines.specs.small.BigHash as bighash
use Rattle.hc_engines.specs.small.BigHash.{BigHash, carried}
use Rattle.hc_engines.specs.pair.Pair.{Pair, Moved, after_losses, start, resume}
use Rattle.hc_engines.specs.pair.Held.{under_way}
use Rattle.hc_bighash.specs.Endings.{is_over}
use Rattle.hc_bighash.specs.Found.{answer_next}
use Rattle.hc_bighash.specs.Handed.{absent_plan, op_in}
use Rattle.hc_block.specs.Endings as block
use Rattle.hc_block.specs.Endings.{Rest, CanEndRead, read_left, without_lost}

pub record Ending : Type 0 where
  pub outcome : Outcome
  -- whether the key's bucket is given up
  pub gives_up : Bool
  -- what is left to do in the large engine
  pub rest : Rest

-- of a get that the large engine ends, after the small one lost this
abbrev pub behind_losses : List Loss → Bool → block.Ending → Ending
behind_losses before gives_up ending = record { outcome = after_losses before ending.outcome; gives_up = gives_up; rest = ending.rest }

abbrev pub of_large : block.Ending → Ending
of_large ending = record { outcome = ending.outcome; gives_up = false; rest = ending.rest }

-- ---- what the end of a get leaves

abbrev pub state_or : BigHash → Option bighash.Moved → BigHash
state_or s None = s
state_or s (Some moved) = moved.state

-- the get's job is over, and its bucket is fresh where that is given up
abbrev pub small_left : ℕ → Bool → BigHash → BigHash
small_left number gives_up s = state_or s (carried s number (absent_plan gives_up))

-- a get of the small engine is over
abbrev pub small_end : ℕ → Bool → Rest → Pair → Pair
small_end number gives_up rest pair = record { small = small_left number gives_up pair.small; large = without_lost rest.lost pair.large }

-- a read of the large engine is over
abbrev pub large_end : ℕ → Rest → Pair → Pair
large_end number rest pair = record pair { large = read_left number rest pair.large }

abbrev pub left_in : ℕ → Bool → Rest → Pair → Option Op → Pair
left_in number gives_up rest pair None = large_end number rest pair
left_in number gives_up rest pair (Some op) = small_end number gives_up rest pair

abbrev pub left_by : ℕ → Bool → Rest → Pair → Pair
left_by number gives_up rest pair = left_in number gives_up rest pair (op_in number pair.small.jobs)

-- ---- how a get is over with a result

-- the operation that is under way with this number
abbrev pub op_under : ℕ → Pair → Option Op
op_under number pair = option_map (λ w. w.op) (under_way pair number)

-- a get is under way with the number
abbrev pub IsGet : ℕ → Pair → Type 0
IsGet number pair = (key : List ℕ) × (op_under number pair ≡ Some (Get key))

-- a get is over that moved so, and found an entry or that there is none
abbrev pub ends : Option Op → Option Moved → Bool
ends op None = false
ends None (Some moved) = false
ends (Some (Get key)) (Some moved) = is_over (answer_next moved.next)
ends (Some (Put e)) (Some moved) = false
ends (Some (Delete key)) (Some moved) = false
ends (Some Flush) (Some moved) = false
ends (Some Reclaim) (Some moved) = false

abbrev pub CanEndIn : ℕ → Rest → Pair → Option Op → Type 0
CanEndIn number rest pair None = CanEndRead number rest pair.large
CanEndIn number rest pair (Some op) = (key : List ℕ) × (op ≡ Get key)

-- a result of what the operation with the number waits for brings the pair there
abbrev pub IsStep : ℕ → Pair → Pair → Type 0
IsStep number old new = (came : IoResult) × ((next : Next) × (resume number came old ≡ Some (record { pair = new; next = next })))

-- the get with the number can end so
pub record CanLeave (number : ℕ) (gives_up : Bool) (rest : Rest) (pair : Pair) : Type 0 where
  pub can : CanEndIn number rest pair (op_in number pair.small.jobs)
  pub step : IsStep number pair (left_by number gives_up rest pair)

-- the get with the number is over with this result, and so
pub record Ends (number : ℕ) (came : IoResult) (pair : Pair) (ending : Ending) : Type 0 where
  pub gets : IsGet number pair
  pub can : CanEndIn number ending.rest pair (op_in number pair.small.jobs)
  pub step : resume number came pair ≡ Some (record { pair = left_by number ending.gives_up ending.rest pair; next = Done ending.outcome })

-- the step with a result, where it is the end of a get; else it is none
abbrev pub IsEnding : ℕ → IoResult → Pair → Option Ending → Type 0
IsEnding number came pair None = ends (op_under number pair) (resume number came pair) ≡ false
IsEnding number came pair (Some ending) = Ends number came pair ending

-- ---- a get that is over as it starts

abbrev pub is_done : Next → Bool
is_done (Done outcome) = true
is_done next = false

-- under whatever number it is started: it takes none
abbrev pub EndsAtOnce : List ℕ → Pair → Ending → Type 0
EndsAtOnce key pair ending = (number : ℕ) → under_way pair number ≡ None → start number (Get key) pair ≡ record { pair = record pair { large = without_lost ending.rest.lost pair.large }; next = Done ending.outcome }

abbrev pub IsEndingAtOnce : List ℕ → Pair → Option Ending → Type 0
IsEndingAtOnce key pair None = (number : ℕ) → is_done (start number (Get key) pair).next ≡ false
IsEndingAtOnce key pair (Some ending) = EndsAtOnce key pair ending
