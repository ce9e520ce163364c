-- No region is filled beyond its bytes. This is of the engine alone, whatever the device answers.
use Rattle.std.specs.Prelude.{◌≡◌, ℕ, ◌≤◌, List, length, Some}
use Rattle.hc_types.specs.declared.config.FlashConfig.{FlashConfig}
use Rattle.hc_types.specs.FlashEntry.{FlashEntry}
use Rattle.hc_engines.specs.Engine.{IoResult}
use Rattle.hc_engines.specs.large.Entries.{entry_bytes}
use Rattle.hc_engines.specs.large.Region.{region_at, region_len, filled_to}
use Rattle.hc_engines.specs.large.Block.{Work, Block, work_of}
use Rattle.hc_engines.specs.large.Steps.{put, flush, reclaim, get, resume, take_index}
use Rattle.hc_engines.specs.large.Sound.{Sound}
use Rattle.hc_engines.specs.large.Laws.{new_block}

abbrev pub AllWithin : FlashConfig → Block → Type 0
AllWithin flash s = (r : ℕ) → filled_to flash (region_at r s.regions) ≤ region_len flash

-- it is true at first, and after each step
pub record StaysWithin (flash : FlashConfig) : Type 0 where
  pub at_first : AllWithin flash (new_block flash)
  -- of an entry that fits an empty region
  pub after_put : (entry : FlashEntry) (s : Block) → length (entry_bytes entry) ≤ region_len flash → AllWithin flash s → AllWithin flash (put flash entry s).state
  pub after_flush : (number : ℕ) (s : Block) → AllWithin flash s → AllWithin flash (flush flash number s).state
  pub after_reclaim : (s : Block) → AllWithin flash s → AllWithin flash (reclaim flash s).state
  pub after_get : (number : ℕ) (key : List ℕ) (s : Block) → AllWithin flash s → AllWithin flash (get flash number key s).state
  -- any result at all of an operation under way
  pub after_resume : (number : ℕ) (work : Work) (result : IoResult) (s : Block) → Sound flash s → work_of number s.jobs ≡ Some work → AllWithin flash s → AllWithin flash (resume flash number work result s).state
  pub after_take : (hash : ℕ) (s : Block) → AllWithin flash s → AllWithin flash (take_index hash s)

abbrev pub RegionsStayWithin : Type 0
RegionsStayWithin = (flash : FlashConfig) → StaysWithin flash
