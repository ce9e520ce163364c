use Rattle.std.proofs.Common.{arith}
use Rattle.hc_state.proofs.fill.Brings.{arrived}
use Rattle.hc_state.proofs.state.State.tell_arrived.Goals as goal

pub tell_linked-requires : goal.tell_linked-requires
tell_linked-requires g c = record { room = omega (arith, c.requires.room.notes, c.leave_all.ensures.room.notes, c.tell_charged.ensures.room) }

pub returns : goal.returns
returns g c key is =
    let a = c.args.arrived in
    arrived a.number a.pool a.want key a.victims.items a.copy c.args.self.now c.leave_all.new.self c.tell_charged.new.self c.tell_linked.new.self is c.leave_all.ensures c.tell_charged.ensures.told c.tell_linked.ensures
