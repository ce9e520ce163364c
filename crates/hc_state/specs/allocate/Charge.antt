-- An item is allocated: what that needs first, and what it leaves.
use Rattle.std.specs.Prelude.{◌≡◌, ℕ, ◌+◌, ◌*◌, true, List, length}
use Rattle.hc_types.specs.Charge.{charge_of}
use Rattle.hc_memory.specs.Item.{Handle, charge_by}
use Rattle.hc_memory.specs.Charges.{is_open}
use Rattle.hc_memory.specs.Memory.{victims_of}
use Rattle.hc_history.specs.Told.{where_kept, told_more}
use Rattle.hc_machine.specs.Cache.{Told}
use Rattle.hc_state.specs.Whole.{Whole, HasRoom, costs, IsReady}
use Rattle.hc_state.specs.allocate.Evict.{AreFor, keys_of}
use Rattle.hc_state.specs.declared.allocate.charge.Room.{Room}

-- there is all that it takes to charge an item of this key and size to a pool, and to give up what is open then
pub record Affords {A : Type 0} (pool : ℕ) (key : List ℕ) (size : ℕ) (whole : Whole) (plan : Room A) : Type 0 where
  pub count : plan.count ≡ length (victims_of whole.cache.memory pool (charge_of key size))
  pub leaves : AreFor whole (keys_of (victims_of whole.cache.memory pool (charge_of key size))) plan.leaves.items
  pub copy : plan.copy ≡ where_kept whole.log key
  pub room : HasRoom (costs (2 * plan.count + 2 + length whole.cache.memory.charges) plan.count 0 0) whole

-- this part of a step opened the handle's charge
pub record Opens (told : Told) (handle : Handle) (old new : Whole) : Type 0 where
  pub cache : new.cache ≡ told.cache
  pub log : new.log ≡ told_more old.log told.part
  pub is_open : is_open (charge_by handle) new.cache.memory.charges ≡ true
  pub ready : IsReady new
