-- A cache as contracts see it, and what a part of a step does to it.
use Rattle.std.specs.Prelude.{◌≡◌, ◌⊎◌, ℕ, ◌+◌, ◌^◌, ◌≤◌, Option, Some, None, IsSome, option_map, length}
use Rattle.hc_history.specs.Told.{Heard, Hears, told_more}
use Rattle.hc_machine.specs.Nvm.{Nvm}
use Rattle.hc_machine.specs.Cache.{Cache, Told, Moved, Answer}
use Rattle.hc_nvm.specs.Stock.{Stock}

-- for how many more puts, tombstones and fills there is room
pub record Spare : Type 0 where
  pub puts : ℕ
  pub stones : ℕ
  pub fills : ℕ

-- the machine's cache, what is heard of its log, and for how many notes, puts, tombstones and fills there is room
pub record Whole : Type 0 where
  pub cache : Cache
  pub log : Heard
  pub notes : ℕ
  pub spare : Spare

-- without flash nothing needs room
abbrev pub spare_of : Option Stock → Spare
spare_of None = record { puts = 2 ^ 64; stones = 2 ^ 64; fills = 2 ^ 64 }
spare_of (Some stock) = record { puts = stock.puts; stones = stock.stones; fills = stock.fills }

abbrev pub nvm_of : Option Stock → Option Nvm
nvm_of stock = option_map (λ (s : Stock). s.nvm) stock

-- what something takes of the room that was made
pub record Costs : Type 0 where
  pub notes : ℕ
  pub puts : ℕ
  pub stones : ℕ
  pub fills : ℕ

abbrev pub costs : ℕ → ℕ → ℕ → ℕ → Costs
costs notes puts stones fills = record { notes = notes; puts = puts; stones = stones; fills = fills }

-- notes alone
abbrev pub for_notes : ℕ → Costs
for_notes notes = costs notes 0 0 0

abbrev pub both : Costs → Costs → Costs
both a b = costs (a.notes + b.notes) (a.puts + b.puts) (a.stones + b.stones) (a.fills + b.fills)

-- there is room for so much
pub record HasRoom (cost : Costs) (whole : Whole) : Type 0 where
  pub notes : cost.notes ≤ whole.notes
  pub puts : cost.puts ≤ whole.spare.puts
  pub stones : cost.stones ≤ whole.spare.stones
  pub fills : cost.fills ≤ whole.spare.fills

-- no more room than this was taken
pub record Takes (cost : Costs) (old new : Whole) : Type 0 where
  pub notes : old.notes ≤ new.notes + cost.notes
  pub puts : old.spare.puts ≤ new.spare.puts + cost.puts
  pub stones : old.spare.stones ≤ new.spare.stones + cost.stones
  pub fills : old.spare.fills ≤ new.spare.fills + cost.fills

-- a part of a step, as the machine has it
pub record Does (told : Told) (cost : Costs) (old new : Whole) : Type 0 where
  pub cache : new.cache ≡ told.cache
  pub log : new.log ≡ told_more old.log told.part
  pub room : Takes cost old new

-- nothing changed, and there is as much room
pub record Stays (old new : Whole) : Type 0 where
  pub cache : new.cache ≡ old.cache
  pub log : new.log ≡ old.log
  pub room : Takes (for_notes 0) old new

-- ---- calls

-- what may want memory: who hears of the log, or flash
abbrev pub MayWant : Heard → Cache → Type 0
MayWant log cache = Hears log ⊎ IsSome cache.nvm

-- and a call also where the numbers ran out
abbrev pub MayLack : Heard → Cache → Type 0
MayLack log cache = MayWant log cache ⊎ (cache.calls + 1 ≡ 2 ^ 64)

-- there is room for the note that gives up each open charge
abbrev pub IsReady : Whole → Type 0
IsReady whole = length whole.cache.memory.charges ≤ whole.notes

-- a call is the machine's step: the cache that it leaves, what it is answered, and what it tells
pub record IsStep (moved : Moved) (answer : Answer) (old new : Whole) : Type 0 where
  pub cache : new.cache ≡ moved.cache
  pub answer_is : answer ≡ moved.answer
  pub log : new.log ≡ told_more old.log moved.part
  pub ready : IsReady new

-- nothing of the cache or its log changed, and there is room for as many notes
pub record IsUnchanged (old new : Whole) : Type 0 where
  pub cache : new.cache ≡ old.cache
  pub log : new.log ≡ old.log
  pub notes : old.notes ≤ new.notes
