use Rattle.std.proofs.Common.{take, arith}
use Rattle.hc_state.specs.wait.Plan.{there_past}
use Rattle.hc_state.proofs.wait.Plans.{courses-next, there-next, courses-whole}
use Rattle.hc_state.proofs.wait.plan.plan_courses.Goals as goal

pub loop-waiter-preserved : goal.loop-waiter-preserved
loop-waiter-preserved g c =
    let kept = c.loop-waiter.invariant in
    let waiters = c.args.waiters.now in
    let i = c.loop-waiter.waiter-index in
    let w = c.waiter-item.result in
    record {
      planned = λ entry is. courses-next c.args.keeps c.args.key.now c.args.now waiters i w entry c.loop-waiter.courses.items c.push_reserved.new.self.items _ _ c.loop-waiter-test.true c.waiter-item.is c.push_reserved.ensures.items (kept.planned entry is) (c.in-Ok.ensures (there_past c.args.now (take i waiters) entry) (kept.stands entry is));
      stands = λ entry is. there-next c.args.keeps c.args.key.now c.args.now waiters i w entry _ _ c.loop-waiter-test.true c.waiter-item.is (c.in-Ok.ensures (there_past c.args.now (take i waiters) entry) (kept.stands entry is));
      counted = omega (arith, kept.counted, c.push_reserved.ensures.len);
      room = omega (arith, kept.room, c.push_reserved.ensures.capacity);
    }

pub returns : goal.returns
returns g c = λ entry is. courses-whole c.args.keeps c.args.key.now c.args.now c.args.waiters.now c.loop-waiter.waiter-index entry c.loop-waiter.courses.items c.loop-waiter-test.false (c.loop-waiter.invariant.planned entry is)
