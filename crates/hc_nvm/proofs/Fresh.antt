-- What holds at every time holds where nothing waits yet.
use Rattle.std.proofs.Common.{refl, arith}
use Rattle.hc_types.specs.declared.config.FlashConfig.{FlashConfig}
use Rattle.hc_machine.specs.Nvm.{new_nvm}
use Rattle.hc_nvm.specs.Stock.{Kept}

pub kept_new : (flash : FlashConfig) → Kept (new_nvm flash)
kept_new flash = record {
  below = λ n from. (refl, refl);
  starts = tt;
  short = omega arith;
  numbered = omega arith;
  brought = tt;
  served = tt;
}
