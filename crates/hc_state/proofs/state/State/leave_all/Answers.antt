use Rattle.std.proofs.Common.{List, [], length, refl, subst, ap, ◌∙◌, arith}
use Rattle.std.specs.Prelude.{is_some}
use Rattle.std.proofs.lemmas.List.{nil_from_length}
use Rattle.std.specs.Vec.Iter.{into_iter_items, into_iter_len}
use Rattle.hc_machine.specs.Cache.{Cache}
use Rattle.hc_memory.specs.Item.{Item}
use Rattle.hc_state.specs.allocate.Evict.{AreFor, keys_of, one_leaves}
use Rattle.hc_state.proofs.allocate.Evicts.{Left, all-left, one-left, room-left, first-leave, rest-leave, rest-counted, leaves-flash}
use Rattle.hc_state.proofs.state.State.leave_all.Goals as goal

pub leave-requires : goal.leave-requires
leave-requires g c =
    let kept = c.loop-item.invariant in
    let now = c.loop-item.self in
    let item = c.in-Some.item in
    let rest = into_iter_items c.next.new.self in
    let steps = c.in-Some.ensures.steps in
    let left = subst (λ (xs : List Item). Left c.args.pool c.args.want c.args.victims.items xs c.args.self.now now) steps.0 kept.left in
    let prepared = subst (λ (xs : List Item). AreFor now (keys_of xs) (into_iter_items c.loop-item.prepared)) steps.0 kept.prepared in
    record {
      absent = left.absent [] rest item refl;
      leave = first-leave now item rest (into_iter_items c.loop-item.prepared) (into_iter_items c.next-leave.new.self) (into_iter_len c.loop-item.prepared) (into_iter_len c.next-leave.new.self) c.next-leave.result kept.prepared_counted c.next-leave.ensures.cases prepared;
      room = room-left c.args.pool c.args.want c.args.victims.items rest item c.args.self.now now left c.requires.room;
    }

pub loop-item-preserved : goal.loop-item-preserved
loop-item-preserved g c =
    let kept = c.loop-item.invariant in
    let was = c.loop-item.self in
    let now = c.leave.new.self in
    let item = c.in-Some.item in
    let rest = into_iter_items c.next.new.self in
    let steps = c.in-Some.ensures.steps in
    let does = c.leave.ensures in
    let all = into_iter_items c.loop-item.prepared in
    let others = into_iter_items c.next-leave.new.self in
    let left = subst (λ (xs : List Item). Left c.args.pool c.args.want c.args.victims.items xs c.args.self.now was) steps.0 kept.left in
    let prepared = subst (λ (xs : List Item). AreFor was (keys_of xs) all) steps.0 kept.prepared in
    let flash = ap (λ (cache : Cache). is_some cache.nvm) does.cache ∙ leaves-flash c.args.pool c.args.want item was.cache in
    record {
      left = one-left c.args.pool c.args.want c.args.victims.items rest item c.args.self.now was now left does;
      counted = omega (arith, ap length steps.0, kept.counted, steps.1);
      prepared = rest-leave was now item rest all others (into_iter_len c.loop-item.prepared) (into_iter_len c.next-leave.new.self) c.next-leave.result (one_leaves c.args.pool c.args.want item was.cache).part kept.prepared_counted c.next-leave.ensures.cases prepared flash does.log;
      prepared_counted = rest-counted all others (into_iter_len c.loop-item.prepared) (into_iter_len c.next-leave.new.self) c.next-leave.result c.next-leave.ensures.items c.next-leave.ensures.len kept.prepared_counted;
    }

pub returns : goal.returns
returns g c =
    let kept = c.loop-item.invariant in
    all-left c.args.pool c.args.want c.args.victims.items (into_iter_items c.loop-item.item-iterator) c.args.self.now c.loop-item.self (nil_from_length _ (kept.counted ∙ c.in-None.ensures.steps.0)) kept.left
