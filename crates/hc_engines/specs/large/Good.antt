-- The invariant: what is true of the engine and the device's pages between two steps.
use Rattle.std.specs.Prelude.{ℕ, List, Option}
use Rattle.hc_types.specs.declared.config.FlashConfig.{FlashConfig}
use Rattle.hc_engines.specs.large.Block.{Block}
use Rattle.hc_engines.specs.large.Sound.{Sound}
use Rattle.hc_engines.specs.large.Fits.{Fits, ReadsHold}

pub record Good (flash : FlashConfig) (pages : ℕ → Option (List ℕ)) (s : Block) : Type 0 where
  -- the engine is sound by itself
  pub sound : Sound flash s
  -- the index leads to entries, in the buffer and on the pages
  pub fits : Fits flash pages s
  -- the reads under way have what the pages have
  pub reads : ReadsHold flash pages s s.jobs
