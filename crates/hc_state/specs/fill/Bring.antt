-- An entry that comes from flash, and the item of it that the pools have linked.
use Rattle.std.specs.Prelude.{◌≡◌, ℕ, ◌+◌, List, Option, length}
use Rattle.hc_types.specs.Charge.{charge_of}
use Rattle.hc_types.specs.FlashEntry.{FlashEntry}
use Rattle.hc_types.specs.declared.config.FlashConfig.{FlashConfig}
use Rattle.hc_engines.specs.Engine.{Loss}
use Rattle.hc_memory.specs.Memory.{Memory, victims_of}
use Rattle.hc_state.specs.fill.Link.{all_marked_by}
use Rattle.hc_state.specs.declared.fill.bring.Coming.{Coming}
use Rattle.hc_state.specs.declared.fill.bring.Arrived.{Arrived}

abbrev pub entry_coming : {A : Type 0} → Coming A → FlashEntry
entry_coming coming = record { key = coming.key; value = coming.value; pool = coming.pool; expiry = coming.expiry }

-- how many bytes it is charged
abbrev pub want_coming : {A : Type 0} → Coming A → ℕ
want_coming coming = charge_of coming.key (length coming.value)

-- it was linked in this memory, and these losses take marks of the items that went for it
pub record Arrives {A : Type 0} (flash : Option FlashConfig) (losses : List Loss) (memory : Memory) (coming : Coming A) (arrived : Arrived A) : Type 0 where
  pub number : arrived.number ≡ memory.made + 1
  pub pool : arrived.pool ≡ coming.pool
  pub want : arrived.want ≡ want_coming coming
  pub copy : arrived.copy ≡ coming.copy
  pub victims : arrived.victims.items ≡ all_marked_by flash losses (victims_of memory coming.pool (want_coming coming))
  pub leaves : arrived.leaves ≡ coming.leaves
