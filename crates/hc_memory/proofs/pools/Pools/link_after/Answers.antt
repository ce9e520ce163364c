use Rattle.std.specs.Prelude.{option_map}
use Rattle.std.proofs.Common.{◌≡◌, false, List, refl, sym, ◌∙◌, ap, arith, subst}
use Rattle.hc_memory.specs.Item.{Item}
use Rattle.hc_memory.specs.Seen.{item_of}
use Rattle.hc_memory.specs.Pool.{Pool}
use Rattle.hc_memory.specs.Charges.{closed, all_closed}
use Rattle.hc_memory.specs.Clean.{Listed, is_missed}
use Rattle.hc_memory.specs.Marks.{is_stale, marked}
use Rattle.hc_memory.specs.Memory.{Memory, linked_at}
use Rattle.hc_memory.proofs.Unmarked.{pools-found, link-off}
use Rattle.hc_memory.proofs.Handing.{known-place, link-small, length-linked, linked-is}
use Rattle.hc_memory.proofs.Ending.{linked-behind}
use Rattle.hc_memory.proofs.Listing.{listed-linked}
use Rattle.hc_memory.proofs.pools.Pools.link_after.Goals as goal

pub link_over-requires-clause-place : goal.link_over-requires-clause-place
link_over-requires-clause-place g c =
    let mine = rw (← c.self.view_is) at c.requires in
    let lt = known-place c.self.inside.pools.items c.self.inside.charges.charges c.self.inside.made c.args.sealed c.self.invariant.0 mine in
    omega (arith, lt, c.from-own.ensures, c.pool.ensures)

pub link_over-requires-clause-bytes : goal.link_over-requires-clause-bytes
link_over-requires-clause-bytes g c =
    let mine = rw (← c.self.view_is) at c.requires in
    let item : Item = item_of c.into_parts-key.result in
    link-small c.self.inside.pools.items c.self.inside.charges.charges c.self.inside.made c.from-own.result c.args.sealed false item c.self.invariant.0 mine (c.from-own.ensures ∙ c.pool.ensures) c.into_parts-key.ensures.item

pub invariant_of-self : goal.invariant_of-self
invariant_of-self g c =
    let mine = rw (← c.self.view_is) at c.requires in
    let item : Item = item_of c.into_parts-key.result in
    let i = c.self.invariant in
    let is = linked-is c.self.inside.pools.items c.link_over.new.pools.items c.from-own.result c.into_parts-key.result.0 item c.args.sealed false c.in-Ok.ensures.pools (c.from-own.ensures ∙ c.pool.ensures) c.into_parts-key.ensures.key c.into_parts-key.ensures.item in
    let sound = linked-behind c.self.inside.pools.items c.self.inside.charges.charges c.self.inside.made c.args.earlier.now c.args.sealed false i.0 mine in
    let ended : c.end.new.self ≡ record { charges = closed c.args.sealed.number (all_closed c.args.earlier.now c.self.inside.charges.charges); pools = c.self.inside.charges.pools } =
    c.end.ensures ∙ (λ j. record { charges = closed (c.number-number.ensures j) (c.end_each.ensures j).charges; pools = (c.end_each.ensures j).pools }) in
    let unmissed : is_missed c.self.inside.flash c.self.inside.clean item ≡ false = ap (is_missed c.self.inside.flash c.self.inside.clean) c.into_parts-key.ensures.item in
    let listed : Listed c.self.inside.flash c.self.inside.clean c.link_over.new.pools.items = rw c.in-Ok.ensures.pools (listed-linked c.self.inside.flash c.self.inside.clean c.from-own.result c.into_parts-key.result.0 item c.self.inside.pools.items i.3 unmissed) in
    rw (ended, is) (sound, i.1 ∙ sym (length-linked c.args.sealed.key c.args.sealed.pool _ c.self.inside.pools.items), i.2, subst (λ (ps : List Pool). Listed c.self.inside.flash c.self.inside.clean ps) is listed, i.4)

pub returns-in-Ok-clause-old : goal.returns-in-Ok-clause-old
returns-in-Ok-clause-old g c =
    let same = pools-found (is_stale c.self.inside.flash c.self.inside.marks) (λ (x : Item). x.number) (λ x. refl) c.args.sealed.key c.self.inside.pools.items in
    rw (← c.self.view_is) (c.in-Ok.ensures.old ∙ ap (λ key. option_map (λ (i : Item). i.number) (linked_at key c.self.inside.pools.items)) c.into_parts-key.ensures.key ∙ sym same)

pub returns-in-Ok-clause-pools : goal.returns-in-Ok-clause-pools
returns-in-Ok-clause-pools g c =
    let item : Item = item_of c.into_parts-key.result in
    let is = linked-is c.self.inside.pools.items c.link_over.new.pools.items c.from-own.result c.into_parts-key.result.0 item c.args.sealed false c.in-Ok.ensures.pools (c.from-own.ensures ∙ c.pool.ensures) c.into_parts-key.ensures.key c.into_parts-key.ensures.item in
    let m : Memory = record { flash = c.self.inside.flash; pools = c.self.inside.pools.items; charges = all_closed c.args.earlier.now c.self.inside.charges.charges; made = c.self.inside.made } in
    let ended : c.end.new.self ≡ record { charges = closed c.args.sealed.number (all_closed c.args.earlier.now c.self.inside.charges.charges); pools = c.self.inside.charges.pools } =
    c.end.ensures ∙ (λ j. record { charges = closed (c.number-number.ensures j) (c.end_each.ensures j).charges; pools = (c.end_each.ensures j).pools }) in
    rw (← c.self.view_is) ((λ i. record { flash = c.self.inside.flash; pools = marked c.self.inside.flash c.self.inside.marks (is i); charges = (ended i).charges; made = c.self.inside.made }) ∙ link-off (is_stale c.self.inside.flash c.self.inside.marks) m c.args.sealed)
