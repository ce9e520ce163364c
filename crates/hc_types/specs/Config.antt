-- What contracts see of a configuration.
use Rattle.std.specs.Prelude.{List, Option}
use Rattle.hc_types.specs.declared.config.PoolSize.{PoolSize}
use Rattle.hc_types.specs.declared.config.FlashConfig.{FlashConfig}

-- its pools, the one with the number 0 first, and its flash, where there is any
pub record Config : Type 0 where
  pub pools : List PoolSize
  pub flash : Option FlashConfig
