-- What is asked before an item is allocated, and what a memory begins with.
use Rattle.std.specs.Prelude.{ℕ, ◌+◌, ◌-◌, ◌^◌, ◌==◌, nat_lt, min, not, List, [], length, map, Option, Some, None, if◌then◌else◌}
use Rattle.hc_types.specs.Charge.{charge_of}
use Rattle.hc_types.specs.Config.{Config}
use Rattle.hc_types.specs.Loss.{Cause, Evicted, Expired}
use Rattle.hc_types.specs.declared.loss.Why.TheVariants.{NoFlash}
use Rattle.hc_types.specs.declared.refusal.Refusal.{Refusal}
use Rattle.hc_types.specs.declared.refusal.Refusal.TheVariants.{NoPool, ValueTooLong, NoRoom}
use Rattle.hc_memory.specs.Item.{Item}
use Rattle.hc_memory.specs.Pool.{is_expired}
use Rattle.hc_memory.specs.Memory.{Memory, empty_pool, is_hopeless}

-- the pools of a configuration, without items
abbrev pub empty_memory : Config → Memory
empty_memory config = record { flash = config.flash; pools = map empty_pool config.pools; charges = []; made = 0 }

-- why an item of this key and a value of this length isn't allocated in these pools: the first reason that holds
abbrev pub refusal_of : Memory → ℕ → List ℕ → ℕ → Option Refusal
refusal_of memory pool key size =
    if not (nat_lt pool (length memory.pools)) then Some NoPool
    else (if nat_lt 1048576 size then Some ValueTooLong
    else (if is_hopeless memory pool (charge_of key size) then Some NoRoom else None))

-- when an item expires that is to live for so many seconds: never where they are 0, and at the last second at the latest
abbrev pub expiry_of : ℕ → ℕ → ℕ
expiry_of now ttl = if ttl == 0 then 0 else min (now + ttl) (2 ^ 64 - 1)

-- why the key of an item is forgotten that is evicted where there is no flash
abbrev pub cause_for : ℕ → ℕ → ℕ → Item → Cause
cause_for now pool want item = if is_expired now item then Expired else Evicted pool want NoFlash
