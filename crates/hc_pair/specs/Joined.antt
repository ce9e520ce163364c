-- Both engines as one: what is true of them together, and what stands in front of what.
use Rattle.std.specs.Prelude.{◌≡◌, Bool, true, false, List}
use Rattle.hc_types.specs.declared.config.FlashConfig.{FlashConfig}
use Rattle.hc_engines.specs.Engine.{Op, Get, Loss, Next, Busy, Io, Done}
use Rattle.hc_engines.specs.small.BigHash.{BigHash, is_ours}
use Rattle.hc_engines.specs.pair.Pair.{after_losses}
use Rattle.hc_engines.specs.pair.Apart.{IsApart}
use Rattle.hc_block.specs.Large.{Large}
use Rattle.hc_block.specs.Moves as block
pub use Rattle.hc_bighash.specs.Found.{losses_of}

-- both go by one configuration, and no number is that of two operations
pub record IsJoined (small : BigHash) (large : Large) : Type 0 where
  pub flash : large.flash ≡ small.flash
  pub apart : IsApart (record { small = small; large = large.block })

-- a large entry that is put fits a region
abbrev pub CanStart : FlashConfig → Op → Type 0
CanStart flash op = is_ours flash op ≡ false → block.CanStart flash op

-- a get is over that was started
abbrev pub is_miss : Op → Next → Bool
is_miss (Get key) (Done outcome) = true
is_miss op next = false

-- ---- losses in front

abbrev pub after : List Loss → Next → Next
after before Busy = Busy
after before (Io order outcome) = Io order (after_losses before outcome)
after before (Done outcome) = Done (after_losses before outcome)
