-- A charge that can't fail any more.
use Rattle.std.specs.Prelude.{◌≡◌, ℕ, ◌≤◌, List, [], vec_len, vec_capacity}
use Rattle.hc_memory.specs.declared.pools.Plan.{Plan}

-- planned for an item of this key that begins as these bytes, under the next number, with room for so many victims
pub record IsPlanned {A : Type 0} (next victims : ℕ) (key : List ℕ) (value : List ℕ) (plan : Plan A) : Type 0 where
  pub number : plan.number ≡ next
  pub bytes : plan.bytes.items ≡ value
  pub copy : plan.copy ≡ key
  pub empty : plan.victims.items ≡ []
  pub len : vec_len plan.victims ≡ 0
  pub room : victims ≤ vec_capacity plan.victims
