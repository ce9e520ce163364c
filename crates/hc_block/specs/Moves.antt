-- What the calls of the large engine are asked and answer.
use Rattle.std.specs.Prelude.{ℕ, ◌≤◌, length, Option, Some, None, ⊤, if◌then◌else◌}
use Rattle.hc_types.specs.declared.config.FlashConfig.{FlashConfig}
use Rattle.hc_engines.specs.Engine.{Op, Put, IoResult, Next, Io, Done, nothing}
use Rattle.hc_engines.specs.large.Entries.{entry_bytes}
use Rattle.hc_engines.specs.large.Region.{region_len}
use Rattle.hc_engines.specs.large.Block.{Work, Block, Moved, finished, work_of}
use Rattle.hc_engines.specs.large.Steps.{resume}
use Rattle.hc_engines.specs.pair.Pair.{next_of, waits_for}
use Rattle.hc_engines.specs.Seen.{order_of}
use Rattle.hc_block.specs.declared.steps.Step.{Step}
use Rattle.hc_block.specs.declared.steps.Step.TheVariants as steps

-- the new state, and what comes next
pub record Stepped : Type 0 where
  pub state : Block
  pub next : Next

abbrev pub stepped : Moved → Stepped
stepped moved = record { state = moved.state; next = next_of moved.outcome moved.order }

-- the entry of a put fits a region
abbrev pub CanStart : FlashConfig → Op → Type 0
CanStart flash (Put entry) = (length entry.value ≤ 1048576) × (length (entry_bytes entry) ≤ region_len flash)
CanStart flash op = ⊤

-- a result is handed in for this work; none where it isn't waited for
abbrev pub resume_work : FlashConfig → ℕ → IoResult → Block → Option Work → Option Moved
resume_work flash number result s None = None
resume_work flash number result s (Some work) = if waits_for work result then Some (resume flash number work result s) else None

-- the same for the operation with this number
abbrev pub resume_by : FlashConfig → ℕ → IoResult → Block → Option Moved
resume_by flash number result s = resume_work flash number result s (work_of number s.jobs)

-- ---- what the code's steps are

abbrev pub moved_with : {A : Type 0} → Block → Step A → Moved
moved_with s (steps.Io order) = record { state = s; outcome = nothing; order = Some (order_of order) }
moved_with s (steps.Done outcome) = finished s outcome

abbrev pub next_in : {A : Type 0} → Step A → Next
next_in (steps.Io order) = Io (order_of order) nothing
next_in (steps.Done outcome) = Done outcome
