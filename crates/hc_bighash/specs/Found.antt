-- What a result will come to, as it can be known before it is handed in.
use Rattle.std.specs.Prelude.{ℕ, Bool, true, false, List, [], length, max, Option, Some, None}
use Rattle.hc_engines.specs.Engine.{Op, Put, Get, Delete, Flush, Reclaim, Answer, Over, Absent, Loss, Next, Busy, Io, Done}
use Rattle.hc_engines.specs.small.BigHash.{Phase, Reading, Writing, Plan, ToRead, ToWrite, ToEnd, ToKeep, ToGiveUp, Moved}

-- ---- what a get finds

-- the answer of what is over
abbrev pub answer_next : Next → Option Answer
answer_next Busy = None
answer_next (Io order outcome) = None
answer_next (Done outcome) = Some outcome.answer

abbrev pub is_get : Op → Bool
is_get (Get key) = true
is_get (Put e) = false
is_get (Delete key) = false
is_get Flush = false
is_get Reclaim = false

abbrev pub answer_moved : Option Moved → Option Answer
answer_moved None = None
answer_moved (Some moved) = answer_next moved.next

-- what a get answers that moved so; none of what isn't a get
abbrev pub get_answer : Option Op → Option Moved → Option Answer
get_answer None moved = None
get_answer (Some (Get key)) moved = answer_moved moved
get_answer (Some (Put e)) moved = None
get_answer (Some (Delete key)) moved = None
get_answer (Some Flush) moved = None
get_answer (Some Reclaim) moved = None

-- what a get answers by a plan; none where it goes on
abbrev pub plan_answer : Plan → Option Answer
plan_answer ToRead = None
plan_answer (ToWrite es losses) = None
plan_answer (ToEnd answer) = Some answer
plan_answer (ToKeep word losses) = Some Over
plan_answer ToGiveUp = Some Absent

abbrev pub planned_answer : Option Plan → Option Answer
planned_answer None = None
planned_answer (Some plan) = plan_answer plan

-- ---- how much is lost

abbrev pub losses_of : Next → List Loss
losses_of Busy = []
losses_of (Io order outcome) = outcome.losses
losses_of (Done outcome) = outcome.losses

-- the most that is lost with a result of what a job waits for
abbrev pub most_lost : Phase → ℕ
most_lost Reading = 1
most_lost (Writing es losses) = max 1 (length losses)
