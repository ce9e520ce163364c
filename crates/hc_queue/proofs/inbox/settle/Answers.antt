use Rattle.std.proofs.Common.{arith}
use Rattle.hc_queue.proofs.Settling.{settles-none, settles-more}
use Rattle.hc_queue.proofs.inbox.settle.Goals as goal

pub loop-init : goal.loop-init
loop-init g c = record {
  settles = settles-none c.args.order.now c.catch_up.new.self c.args.inbox.now c.args.from.now c.requires.rises c.catch_up.ensures.entries c.catch_up.ensures.grows;
  ready = c.in_ok-catch_up.ensures.ok;
  left = omega arith;
  end = c.len-end.ensures;
}

pub loop-preserved : goal.loop-preserved
loop-preserved g c =
    let was = c.loop.invariant.left in
    let less = c.in_ok-settle_one.ensures.shorter in
    record {
      settles = settles-more c.args.order.now c.loop.order c.settle_one.new.order c.args.inbox.now c.loop.inbox c.settle_one.new.inbox c.args.from.now c.loop.from c.settle_one.new.from c.loop.invariant.settles c.settle_one.ensures.settles;
      ready = c.in_ok-settle_one.ensures.ready;
      left = omega (arith, was, less);
      end = c.loop.invariant.end;
    }

pub returns-in_err-settle_one-clause-settles : goal.returns-in_err-settle_one-clause-settles
returns-in_err-settle_one-clause-settles g c =
    settles-more c.args.order.now c.loop.order c.settle_one.new.order c.args.inbox.now c.loop.inbox c.settle_one.new.inbox c.args.from.now c.loop.from c.settle_one.new.from c.loop.invariant.settles c.settle_one.ensures.settles
