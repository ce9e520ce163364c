use Rattle.std.proofs.Common.{◌+◌, ◌*◌, ◌≤◌, subst, sym, arith}
use Rattle.hc_shards.specs.Shards.{pages_of}
use Rattle.hc_shards.proofs.Sharing.{shard-fits}
use Rattle.hc_shards.proofs.sharded.Sharded.first_page.Goals as goal

pub returns-clause-within : goal.returns-clause-within
returns-clause-within g c =
    let pages = pages_of c.args.self.now.config.flash in
    subst (λ n. n ≤ 4294967295) (λ i. sym c.from.ensures i * sym c.pages.ensures i + pages) (shard-fits c.args.self.now c.args.shard c.requires.right c.requires.shard)

pub overflow_mul-result : goal.overflow_mul-result
overflow_mul-result g c = omega (arith, returns-clause-within g c)
