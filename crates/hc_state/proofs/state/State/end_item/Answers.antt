use Rattle.std.proofs.Common.{refl, sym, subst}
use Rattle.std.specs.Prelude.{IsSome}
use Rattle.hc_state.proofs.fill.ItemEnds.{item-ends, item-told, item-copy, item-leaves, item-absent, item-fit, item-free, item-room, item-end}
use Rattle.hc_state.proofs.state.State.end_item.Goals as goal

pub end_fill-take-requires : goal.end_fill-take-requires
end_fill-take-requires g c =
    let r = c.requires.ready in
    record {
      ends = item-ends c.args.way c.args.key.now c.args.ending c.args.arrived c.args.courses.items r.0 c.args.self.now r.1 r.2;
      of_key = subst (λ k. IsSome k) (sym r.1.key_is) refl;
      room = item-told c.args.way c.args.key.now c.args.ending c.args.arrived c.args.courses.items r.0 c.args.self.now r.1 r.2;
    }

pub end_brought-requires : goal.end_brought-requires
end_brought-requires g c =
    let r = c.requires.ready in
    let way = c.args.way in
    let key = c.args.key.now in
    let ending = c.args.ending in
    let arrived = c.args.arrived in
    let courses = c.args.courses.items in
    let linked = c.args.self.now in
    let take = c.end_fill-take.result.0 in
    let waiters = c.end_fill-take.result.1.items in
    let told = c.end_fill-take.new.self in
    let over = c.end_fill-take.ensures key r.1.key_is in
    record {
      copy = item-copy way key ending arrived courses r.0 linked r.1 r.2 take waiters told over;
      leaves = item-leaves way key ending arrived courses r.0 linked r.1 r.2 take waiters told over;
      absent = item-absent way key ending arrived courses r.0 linked r.1 r.2 take waiters told over;
      fit = item-fit way key ending arrived courses r.0 linked r.1 r.2 take waiters told over;
      may_free = item-free way key ending arrived courses r.0 linked r.1 r.2 take waiters told over;
      room = item-room way key ending arrived courses r.0 linked r.1 r.2 take waiters told over;
    }

pub returns : goal.returns
returns g c old can brought =
    let over = c.end_fill-take.ensures c.args.key.now can.key_is in
    item-end c.args.way c.args.key.now c.args.ending c.args.arrived c.args.courses.items old c.args.self.now can brought c.end_fill-take.result.0 c.end_fill-take.result.1.items c.end_fill-take.new.self c.end_brought.new.self c.end_brought.ensures over
