-- What the plain calls do: a value is stored under the bytes of a key, by client 0.
use Rattle.std.specs.Prelude.{◌≡◌, ℕ, ◌⊎◌, List, Some}
use Rattle.hc_types.specs.declared.refusal.Refusal.{Refusal}
use Rattle.hc_types.specs.declared.refusal.Refusal.TheVariants.{Exists, NoMemory}
use Rattle.hc_machine.specs.Cache.{Cache, Moved, Answer}
use Rattle.hc_machine.specs.World.{inserted, put_new}
use Rattle.hc_machine.specs.Evicting.{allocate}
use Rattle.hc_state.specs.Answers.{refusal_in}
pub use Rattle.hc_state.specs.set.Short.{set_step, give_up_step, MayRefuse}

-- an item is allocated that begins as the value, and inserted, where no unexpired value is replaced: where the key has one in
-- memory, the item is given up
abbrev pub add_step : ℕ → List ℕ → List ℕ → ℕ → Cache → Moved
add_step pool key value ttl cache = inserted put_new (allocate pool key value ttl cache)

-- why a call is refused that replaces nothing: as one that may, and also where the key has a value
abbrev pub MayRefuseNew : Answer → Refusal → Type 0
MayRefuseNew answer refusal = (refusal_in answer ≡ Some refusal) ⊎ ((refusal ≡ Exists) ⊎ (refusal ≡ NoMemory))
