use Rattle.std.proofs.Common.{◌≡◌, true, length, sym, ◌∙◌, ap, arith}
use Rattle.std.specs.Option.{option_map_or}
use Rattle.hc_memory.specs.declared.usage.Usage.{Usage}
use Rattle.hc_types.specs.Charge.{charge_of}
use Rattle.hc_memory.specs.Item.{Item, cost}
use Rattle.hc_memory.specs.Pool.{Pool, is_full}
use Rattle.hc_memory.specs.Charges.{usage_of}
use Rattle.hc_memory.proofs.Built.{full-seen}
use Rattle.hc_memory.proofs.Making.{there-at, size-bound}
use Rattle.hc_memory.proofs.Marking.{within-marked}
use Rattle.hc_memory.proofs.builder.PoolsBuilder.is_full_for.Goals as goal

pub index-pool-requires : goal.index-pool-requires
index-pool-requires g c =
    let own = ap (λ (x : Item). x.pool) c.item.view_is in
    let lt = within-marked c.self.inside.flash c.self.inside.marks c.self.inside.pools.items c.args.item.now.pool (rw (← c.self.view_is) at c.requires) in
    omega (arith, lt, own, c.from.ensures)

pub is_full-requires-clause-bytes : goal.is_full-requires-clause-bytes
is_full-requires-clause-bytes g c =
    let own = ap (λ (x : Item). x.pool) c.item.view_is in
    let lt = within-marked c.self.inside.flash c.self.inside.marks c.self.inside.pools.items c.args.item.now.pool (rw (← c.self.view_is) at c.requires) in
    let at = there-at c.self.inside.pools.items c.item.inside.pool c.from.result c.index-pool.result.now (omega (arith, lt, own)) c.from.ensures c.index-pool.ensures in
    let w = c.self.invariant.0.within c.item.inside.pool c.index-pool.result.now at in
    omega (arith, w.bytes, ap (λ (u : Usage). u.bytes) c.usage-usage.ensures, size-bound c.index-pool.result.now.size w.size, c.charge-want.ensures, c.len-key_len.ensures.value, c.len-key_len.ensures.most, c.len.ensures.value, c.item.invariant)

pub is_full-requires-clause-number : goal.is_full-requires-clause-number
is_full-requires-clause-number g c =
    let own = ap (λ (x : Item). x.pool) c.item.view_is in
    let lt = within-marked c.self.inside.flash c.self.inside.marks c.self.inside.pools.items c.args.item.now.pool (rw (← c.self.view_is) at c.requires) in
    let at = there-at c.self.inside.pools.items c.item.inside.pool c.from.result c.index-pool.result.now (omega (arith, lt, own)) c.from.ensures c.index-pool.ensures in
    let w = c.self.invariant.0.within c.item.inside.pool c.index-pool.result.now at in
    omega (arith, w.number, ap (λ (u : Usage). u.number) c.usage-usage.ensures)

pub returns : goal.returns
returns g c =
    let own = ap (λ (x : Item). x.pool) c.item.view_is in
    let lt = within-marked c.self.inside.flash c.self.inside.marks c.self.inside.pools.items c.args.item.now.pool (rw (← c.self.view_is) at c.requires) in
    let at = there-at c.self.inside.pools.items c.args.item.now.pool c.from.result c.index-pool.result.now lt (c.from.ensures ∙ own) c.index-pool.ensures in
    let there = c.index-pool.result.now in
    let want : c.charge-want.result ≡ cost c.args.item.now = c.charge-want.ensures ∙ (λ i. charge_of (ap (λ (x : Item). x.key) c.item.view_is i) (c.len.ensures.value i)) ∙ ap (λ (x : Item). charge_of c.args.item.now.key (length x.value)) c.item.view_is in
    let full = c.is_full.ensures ∙ (λ i. is_full there.size ((c.usage-usage.ensures ∙ ap (λ n. usage_of n c.self.inside.charges.charges) own) i) (want i) there.items) in
    let raw = ap (λ o. option_map_or (λ (p : Pool). is_full p.size (usage_of c.args.item.now.pool c.self.inside.charges.charges) (cost c.args.item.now) p.items) o true) at in
    rw (← c.self.view_is) (full ∙ sym raw ∙ sym (full-seen c.self.inside.flash c.self.inside.marks c.self.inside.pools.items c.self.inside.charges.charges c.self.inside.made c.args.item.now (cost c.args.item.now)))
