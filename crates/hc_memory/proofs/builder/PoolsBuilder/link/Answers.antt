use Rattle.std.proofs.Common.{◌≡◌, sym, ◌∙◌}
use Rattle.std.proofs.lemmas.Result.{on_ok_weaker, on_err_weaker}
use Rattle.hc_memory.specs.Marks.{marked}
use Rattle.hc_memory.proofs.Bringing.{absent-there}
use Rattle.hc_memory.proofs.Built.{can, small, linked, seen-after, more-numbered}
use Rattle.hc_memory.proofs.Listing.{listed-more}
use Rattle.hc_memory.proofs.Unmarking.{bits-fit}
use Rattle.hc_memory.proofs.builder.PoolsBuilder.link.Goals as goal

pub list_item-requires : goal.list_item-requires
list_item-requires g c = bits-fit c.self.inside.flash c.self.invariant.2

pub link_in-requires-clause-place : goal.link_in-requires-clause-place
link_in-requires-clause-place g c =
    (can c.self.inside.flash c.self.inside.marks c.self.inside.pools.items c.self.inside.charges.charges c.self.inside.made c.args.item c.self.invariant.5 (rw (← c.self.view_is) at c.requires)).there

pub link_in-requires-clause-absent : goal.link_in-requires-clause-absent
link_in-requires-clause-absent g c = λ pool at.
    let fits = can c.self.inside.flash c.self.inside.marks c.self.inside.pools.items c.self.inside.charges.charges c.self.inside.made c.args.item c.self.invariant.5 (rw (← c.self.view_is) at c.requires) in
    absent-there c.args.item.key c.self.inside.pools.items c.args.item.pool pool fits.none at

pub link_in-requires-clause-bytes : goal.link_in-requires-clause-bytes
link_in-requires-clause-bytes g c = λ pool at.
    let fits = can c.self.inside.flash c.self.inside.marks c.self.inside.pools.items c.self.inside.charges.charges c.self.inside.made c.args.item c.self.invariant.5 (rw (← c.self.view_is) at c.requires) in
    small c.self.inside.flash c.self.inside.marks c.self.inside.pools.items c.self.inside.charges.charges c.self.inside.made c.args.item fits c.self.invariant.0 pool at

pub invariant_of-self : goal.invariant_of-self
invariant_of-self g c =
    let i = c.self.invariant in
    let pools = c.self.inside.pools.items in
    let fits = can c.self.inside.flash c.self.inside.marks pools c.self.inside.charges.charges c.self.inside.made c.args.item i.5 (rw (← c.self.view_is) at c.requires) in
    let more = listed-more c.self.inside.flash c.self.inside.clean c.list_item.new.self pools i.3 c.list_item.ensures.least c.list_item.ensures.stay in
    let h = linked c.self.inside.flash c.self.inside.marks pools c.self.inside.charges.charges c.self.inside.made c.args.item c.link_in.result c.link_in.new.pools.items c.list_item.new.self fits i.0 more c.in-Ok.ensures.told c.link_in.ensures.pools c.link_in.ensures.err in
    (h.sound, i.1 ∙ sym h.long, i.2, h.listed, more-numbered c.self.inside.flash c.self.inside.marks c.self.inside.clean.newest c.list_item.new.self.newest c.args.item.number c.self.inside.made i.4 c.list_item.ensures.least c.list_item.ensures.most fits.numbered, i.5)

pub invariant_of-self-in-Err : goal.invariant_of-self-in-Err
invariant_of-self-in-Err g c =
    let i = c.self.invariant in
    let pools = c.self.inside.pools.items in
    let fits = can c.self.inside.flash c.self.inside.marks pools c.self.inside.charges.charges c.self.inside.made c.args.item i.5 (rw (← c.self.view_is) at c.requires) in
    let more = listed-more c.self.inside.flash c.self.inside.clean c.list_item.new.self pools i.3 c.list_item.ensures.least c.list_item.ensures.stay in
    (i.0, i.1, i.2, more, more-numbered c.self.inside.flash c.self.inside.marks c.self.inside.clean.newest c.list_item.new.self.newest c.args.item.number c.self.inside.made i.4 c.list_item.ensures.least c.list_item.ensures.most fits.numbered, i.5)

pub returns-in-Ok-clause-pools : goal.returns-in-Ok-clause-pools
returns-in-Ok-clause-pools g c =
    let fits = can c.self.inside.flash c.self.inside.marks c.self.inside.pools.items c.self.inside.charges.charges c.self.inside.made c.args.item c.self.invariant.5 (rw (← c.self.view_is) at c.requires) in
    rw (← c.self.view_is) (on_ok_weaker c.link_in.result (λ is. seen-after c.self.inside.flash c.self.inside.marks c.self.inside.pools.items c.self.inside.charges.charges c.self.inside.made c.args.item c.link_in.new.pools.items fits is) c.link_in.ensures.pools)

pub returns-in-Ok-clause-err : goal.returns-in-Ok-clause-err
returns-in-Ok-clause-err g c =
    rw (← c.self.view_is) (on_err_weaker c.link_in.result (λ (same : c.link_in.new.pools.items ≡ c.self.inside.pools.items). λ i. record { flash = c.self.inside.flash; pools = marked c.self.inside.flash c.self.inside.marks (same i); charges = c.self.inside.charges.charges; made = c.self.inside.made }) c.link_in.ensures.err)
