-- Operations that are numbered one behind the other: each number from the next one on is free, whatever the pages have.
use Rattle.std.specs.Prelude.{◌≡◌, ℕ, ◌+◌, ◌≤◌, Some, None}
use Rattle.hc_types.specs.declared.config.FlashConfig.{FlashConfig}
use Rattle.hc_engines.specs.Engine.{Op, IoResult}
use Rattle.hc_engines.specs.small.BigHash.{job_at}
use Rattle.hc_engines.specs.large.Block.{Block, Work, work_of}
use Rattle.hc_engines.specs.large.Sound.{Sound}
use Rattle.hc_engines.specs.large.Steps as steps
use Rattle.hc_engines.specs.pair.Pair.{Pair, Moved, start, resume}
use Rattle.hc_engines.specs.pair.Apart.{IsApart}

-- nothing is under way in the large engine with this number or one behind it
abbrev pub LargeBelow : ℕ → Block → Type 0
LargeBelow next s = (n : ℕ) → next ≤ n → work_of n s.jobs ≡ None

-- nor in either engine
abbrev pub IsBelow : ℕ → Pair → Type 0
IsBelow next pair = (n : ℕ) → next ≤ n → (job_at n pair.small.jobs ≡ None) × (work_of n pair.large.jobs ≡ None)

-- ---- the laws

abbrev pub LargeStartStaysBelow : Type 0
LargeStartStaysBelow = (flash : FlashConfig) (next : ℕ) (op : Op) (s : Block) → Sound flash s → LargeBelow next s → LargeBelow (next + 1) (steps.start flash next op s).state

abbrev pub LargeResumeStaysBelow : Type 0
LargeResumeStaysBelow = (flash : FlashConfig) (next number : ℕ) (work : Work) (result : IoResult) (s : Block) → Sound flash s → LargeBelow next s → work_of number s.jobs ≡ Some work → LargeBelow next (steps.resume flash number work result s).state

abbrev pub StartStaysBelow : Type 0
StartStaysBelow = (pair : Pair) (next : ℕ) (op : Op) → IsApart pair → Sound pair.small.flash pair.large → IsBelow next pair → IsBelow (next + 1) (start next op pair).pair

abbrev pub ResumeStaysBelow : Type 0
ResumeStaysBelow = (pair : Pair) (next number : ℕ) (result : IoResult) (moved : Moved) → IsApart pair → Sound pair.small.flash pair.large → IsBelow next pair → resume number result pair ≡ Some moved → IsBelow next moved.pair
