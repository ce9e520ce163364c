-- A call that is refused leaves the cache as it was.
use Rattle.std.proofs.Common.{arith}
use Rattle.hc_state.specs.Whole.{Whole, Stays, IsUnchanged}

pub stays-unchanged : (old new : Whole) → Stays old new → IsUnchanged old new
stays-unchanged old new stays = record { cache = stays.cache; log = stays.log; notes = omega (arith, stays.room.notes) }
