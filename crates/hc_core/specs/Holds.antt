-- What holds of a cache between two calls, whatever the device answers.
use Rattle.std.specs.Prelude.{◌≡◌, nat_lt, Bool, List}
use Rattle.hc_types.specs.Tally.{count}
use Rattle.hc_memory.specs.Item.{Open}
use Rattle.hc_history.specs.Told.{IfLog}
use Rattle.hc_invariant.specs.Structure.{Structured}
use Rattle.hc_theorem.specs.runs.Lock.{Guarded}
use Rattle.hc_state.specs.wait.Begin.{OwesBegun}
use Rattle.hc_state.specs.Whole.{Whole, IsReady}

-- the charge is for an item that is longer than an item may be
abbrev pub is_long : Open → Bool
is_long charge = nat_lt 1048576 charge.size

abbrev pub AreShort : List Open → Type 0
AreShort charges = count is_long charges ≡ 0

pub record Holds (whole : Whole) : Type 0 where
  -- its own lists fit together
  pub structured : Structured whole.cache
  -- each reply is owed to a call that was begun
  pub begun : OwesBegun whole.cache
  -- there is room for the note that gives up each open charge
  pub ready : IsReady whole
  pub short : AreShort whole.cache.memory.charges
  -- a log that is kept is legal where it is honest, and its books are those of the cache
  pub guarded : IfLog whole.log (λ log. Guarded whole.cache.config log whole.cache)
