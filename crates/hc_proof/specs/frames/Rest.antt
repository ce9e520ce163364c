-- A state in the midst of a step, but for its calls. A call that runs (an insert, an add, a remove between its
-- Begin and its End) is neither a waiter's nor owed, so `CallsTell` of the cache's own calls is false while it runs.
-- What tells no Begin, Did or End leaves the calls as they are (`SameCalls`).
use Rattle.std.specs.Prelude.{◌≡◌, ℕ, Bool, false, List, map}
use Rattle.hc_types.specs.Config.{Config}
use Rattle.hc_memory.specs.Item.{Item}
use Rattle.hc_memory.specs.Pool.{Pool}
use Rattle.hc_memory.specs.Sound.{Sound}
use Rattle.hc_history.specs.Note.{Note}
use Rattle.hc_history.specs.Books.{begun, open_calls, owed, entry_at, now_at}
use Rattle.hc_machine.specs.Cache.{Cache}
use Rattle.hc_invariant.specs.Standing.{PlacedAt}
use Rattle.hc_invariant.specs.Tells.{ChargesTell}
use Rattle.hc_invariant.specs.Good.{EntrySized}
use Rattle.hc_proof.specs.frames.Midst.{FlashMidst}

-- the cache after a part of a step, but for its calls
pub record Rest (config : Config) (older : List Note) (cache : Cache) (items : List Item) (moves : List ℕ → Bool) : Type 0 where
  pub own : cache.config ≡ config
  pub sizes : map (λ (pool : Pool). pool.size) cache.memory.pools ≡ config.pools
  pub flash_is : cache.memory.flash ≡ config.flash
  pub sound : Sound cache.memory.pools cache.memory.charges cache.memory.made
  pub charges : ChargesTell older items cache.memory.charges cache.memory.made
  pub placed : (key : List ℕ) → moves key ≡ false → PlacedAt config.flash older cache key
  pub sized : (key : List ℕ) → EntrySized key (entry_at config.flash older key)
  pub clock : now_at older ≡ cache.now
  pub flash : FlashMidst config.flash older cache.memory cache.nvm moves

-- a part of a step that tells of no call, in the books and in the cache
pub record SameCalls (older newer : List Note) (before after : Cache) : Type 0 where
  pub begun : begun newer ≡ begun older
  pub open_ones : open_calls newer ≡ open_calls older
  pub owed : owed newer ≡ owed older
  pub calls : after.calls ≡ before.calls
  pub owes : after.owed ≡ before.owed
