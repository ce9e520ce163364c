use Rattle.std.proofs.Common.{◌+◌, ◌<◌, ◌^◌, sym, ◌∙◌, ap, arith, subst}
use Rattle.hc_memory.specs.Item.{Item, cost}
use Rattle.hc_memory.specs.Pool.{bytes_of}
use Rattle.hc_memory.specs.Seen.{item_of}
use Rattle.hc_memory.proofs.Built.{put-in}
use Rattle.hc_memory.proofs.Handing.{untouched}
use Rattle.hc_memory.proofs.Making.{there-at}
use Rattle.hc_memory.proofs.builder.link_in.Goals as goal

pub index_mut-requires : goal.index_mut-requires
index_mut-requires g c = omega (arith, c.requires.place, c.from-number.ensures, ap (λ (x : Item). x.pool) c.item.view_is)

pub link-requires : goal.link-requires
link-requires g c =
    let own = c.from-number.ensures ∙ ap (λ (x : Item). x.pool) c.item.view_is in
    let there = c.index_mut.result.now in
    let at = there-at c.args.pools.now.items c.args.item.pool c.from-number.result there c.requires.place own c.index_mut.ensures.value in
    subst (λ (x : Item). bytes_of c.index_mut.result.now.items + cost x < 2 ^ 64) (sym c.into_held-key.ensures) (c.requires.bytes there at)

pub returns-in-Ok-clause-pools : goal.returns-in-Ok-clause-pools
returns-in-Ok-clause-pools g c =
    let own = c.from-number.ensures ∙ ap (λ (x : Item). x.pool) c.item.view_is in
    let there = c.index_mut.result.now in
    let at = there-at c.args.pools.now.items c.args.item.pool c.from-number.result there c.requires.place own c.index_mut.ensures.value in
    put-in c.args.pools.now.items c.from-number.result there c.link.new.self c.args.item (item_of c.into_held-key.result) c.into_held-key.result.0 c.into_held-key.ensures (ap (λ (x : Item). x.key) c.into_held-key.ensures) own at (c.requires.absent there at) c.in-Ok.ensures.items

pub returns-in-Err-clause-item_returned : goal.returns-in-Err-clause-item_returned
returns-in-Err-clause-item_returned g c = c.into_item.ensures ∙ ap item_of c.in-Err.ensures.value_returned ∙ c.into_held-key.ensures

pub returns-in-Err-clause-err : goal.returns-in-Err-clause-err
returns-in-Err-clause-err g c =
    let own = c.from-number.ensures ∙ ap (λ (x : Item). x.pool) c.item.view_is in
    untouched c.args.pools.now.items c.from-number.result c.index_mut.result.now c.link.new.self (omega (arith, c.requires.place, own)) c.index_mut.ensures.value c.in-Err.ensures.err
