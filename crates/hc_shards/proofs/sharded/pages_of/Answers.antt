use Rattle.std.proofs.Common.{◌≡◌, None, subst, sym}
use Rattle.std.specs.Prelude.{IfSome}
use Rattle.hc_types.specs.Config.{Config}
use Rattle.hc_types.specs.Limits.{flash_wrong}
use Rattle.hc_shards.proofs.Sharing.{flash-right}
use Rattle.hc_shards.proofs.sharded.pages_of.Goals as goal

pub pages_behind-requires : goal.pages_behind-requires
pages_behind-requires g c = subst (λ (k : Config). IfSome k.flash (λ f. flash_wrong f ≡ None)) (sym c.config.view_is) (flash-right c.args.config.now c.requires)
