-- The writer's take by its parts.
use Rattle.std.specs.Prelude.{◌≡◌, Bool, List, length, Some}
use Rattle.hc_types.specs.Places.{is_small_by}
use Rattle.hc_types.specs.declared.config.PoolSize.{PoolSize}
use Rattle.hc_types.specs.declared.config.FlashConfig.{FlashConfig}
use Rattle.hc_types.specs.Config.{Config}
use Rattle.hc_types.specs.FlashEntry.{FlashEntry}
use Rattle.hc_history.specs.Note.{Note}
use Rattle.hc_machine.specs.Nvm.{Nvm, Tombstone, without_put, next_put, next_delete}
use Rattle.hc_machine.specs.Takes.{take_sized, take_delete}
use Rattle.hc_machine.specs.Cache.{Cache, with_nvm}
use Rattle.hc_machine.specs.Workers.{after_take}
use Rattle.hc_invariant.specs.Good.{Orderly}
use Rattle.hc_invariant.specs.Laws.{KeptBy}

abbrev pub conf : List PoolSize → FlashConfig → Config
conf pools flash = record { pools = pools; flash = Some flash }

-- ---- the take

-- a delete is taken, a put is taken, small or large
abbrev pub DeleteKeeps : Type 0
DeleteKeeps = (pools : List PoolSize) (flash : FlashConfig) (older : List Note) (cache : Cache) (nvm : Nvm) (stone : Tombstone) → Orderly (conf pools flash) older (with_nvm nvm cache) → next_delete nvm ≡ Some stone
    → KeptBy Orderly (conf pools flash) older (after_take (take_delete (Some stone) nvm) (with_nvm nvm cache))

abbrev pub PutKeeps : Bool → Type 0
PutKeeps small = (pools : List PoolSize) (flash : FlashConfig) (older : List Note) (cache : Cache) (nvm : Nvm) (put : FlashEntry) → Orderly (conf pools flash) older (with_nvm nvm cache) → next_put nvm ≡ Some put
    → is_small_by nvm.pair.small.flash put.key (length put.value) ≡ small
    → KeptBy Orderly (conf pools flash) older (after_take (take_sized small put (record nvm { queue = without_put put.key nvm.queue })) (with_nvm nvm cache))
