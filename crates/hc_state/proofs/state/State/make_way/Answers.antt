use Rattle.std.proofs.Common.{arith}
use Rattle.hc_state.proofs.set.Sets.{none-gone, next-ready, one-gone, all-gone}
use Rattle.hc_state.proofs.state.State.make_way.Goals as goal

pub loop-init : goal.loop-init
loop-init g c = none-gone c.args.pool c.args.want c.args.count c.args.self.now c.requires.flash c.requires.pool c.requires.count

pub forget_oldest-requires : goal.forget_oldest-requires
forget_oldest-requires g c =
    let going = c.loop.invariant in
    let ready = next-ready c.args.pool c.args.want c.args.count c.loop.counter c.args.self.now c.loop.self going (omega (arith, c.loop-test.true)) c.requires.room in
    record { flash = going.flash; pool = going.within; some = ready.some; room = ready.room }

pub loop-preserved : goal.loop-preserved
loop-preserved g c = one-gone c.args.pool c.args.want c.args.count c.loop.counter c.args.self.now c.loop.self c.forget_oldest.new.self c.loop.invariant (omega (arith, c.loop-test.true)) c.forget_oldest.ensures

pub returns : goal.returns
returns g c = all-gone c.args.pool c.args.want c.args.count c.loop.counter c.args.self.now c.loop.self c.loop.invariant (omega (arith, c.loop-test.false, c.loop.auto))
