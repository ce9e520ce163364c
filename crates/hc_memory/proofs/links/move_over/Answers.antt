use Rattle.std.proofs.Common.{◌∙◌, ap, arith}
use Rattle.std.specs.Prelude.{option_map}
use Rattle.hc_memory.specs.Item.{Item}
use Rattle.hc_memory.specs.Seen.{item_of}
use Rattle.hc_memory.proofs.Making.{home-within}
use Rattle.hc_memory.proofs.Looking.{read-there}
use Rattle.hc_memory.proofs.Handing.{moved, untouched}
use Rattle.hc_memory.proofs.links.move_over.Goals as goal

pub index_mut-requires-in-Ok-link : goal.index_mut-requires-in-Ok-link
index_mut-requires-in-Ok-link g c =
    let lt = home-within c.args.key c.args.pools.now.items c.args.at c.requires.home in
    omega (arith, lt, c.requires)

pub returns-in-Ok-link-clause-old : goal.returns-in-Ok-link-clause-old
returns-in-Ok-link-clause-old g c =
    let item : Item = item_of (c.args.key, c.args.held) in
    let h = moved c.args.key c.in-Ok.copy c.args.pools.now.items c.args.own c.args.at c.index_mut.result.now c.link.new.self c.index_mut-in-Ok-link.result.now c.unlink.new.self item c.requires.single c.requires.home c.requires.other c.requires.place c.index_mut.ensures.value c.in-Ok-link.ensures.items c.index_mut-in-Ok-link.ensures.value c.in-Ok.ensures.cases c.unlink.ensures.items in
    c.unlink.ensures.value ∙ ap (option_map (λ (i : Item). i.number)) h.old

pub returns-in-Ok-link-clause-pools : goal.returns-in-Ok-link-clause-pools
returns-in-Ok-link-clause-pools g c =
    let item : Item = item_of (c.args.key, c.args.held) in
    let h = moved c.args.key c.in-Ok.copy c.args.pools.now.items c.args.own c.args.at c.index_mut.result.now c.link.new.self c.index_mut-in-Ok-link.result.now c.unlink.new.self item c.requires.single c.requires.home c.requires.other c.requires.place c.index_mut.ensures.value c.in-Ok-link.ensures.items c.index_mut-in-Ok-link.ensures.value c.in-Ok.ensures.cases c.unlink.ensures.items in
    h.set

pub link-requires : goal.link-requires
link-requires g c = c.requires.bytes c.index_mut.result.now (read-there c.args.pools.now.items c.args.own c.index_mut.result.now c.requires.place c.index_mut.ensures.value)

pub returns-clause-err : goal.returns-clause-err
returns-clause-err g c = untouched c.args.pools.now.items c.args.own c.index_mut.result.now c.link.new.self c.requires.place c.index_mut.ensures.value c.in-Err-link.ensures.err

pub returns-clause-value_returned : goal.returns-clause-value_returned
returns-clause-value_returned g c = c.in-Err-link.ensures.value_returned
