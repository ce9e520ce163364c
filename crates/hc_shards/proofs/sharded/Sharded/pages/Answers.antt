use Rattle.std.proofs.Common.{◌≡◌, None, subst, sym}
use Rattle.hc_types.specs.Limits.{first_wrong}
use Rattle.hc_shards.specs.Shards.{Sharded}
use Rattle.hc_shards.proofs.Sharing.{sharded-right}
use Rattle.hc_shards.proofs.sharded.Sharded.pages.Goals as goal

pub pages_of-requires : goal.pages_of-requires
pages_of-requires g c = subst (λ (s : Sharded). first_wrong s.config ≡ None) (sym c.self.view_is) (sharded-right c.args.self.now c.requires).whole
