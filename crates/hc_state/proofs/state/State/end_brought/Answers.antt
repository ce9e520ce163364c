use Rattle.std.proofs.Common.{arith}
use Rattle.hc_state.proofs.fill.Brings.{arrived-fit, arrived-may-free, arrived-served}
use Rattle.hc_state.proofs.state.State.end_brought.Goals as goal

pub tell_arrived-requires : goal.tell_arrived-requires
tell_arrived-requires g c = record {
  leaves = c.requires.leaves;
  absent = c.requires.absent;
  room = record { notes = omega (arith, c.requires.room.notes); puts = omega (arith, c.requires.room.puts); stones = omega arith; fills = omega arith };
}

pub serve_all-requires : goal.serve_all-requires
serve_all-requires g c =
    let a = c.args.arrived in
    let key = c.args.key.now in
    let ws = c.args.waiters.items in
    let courses = c.args.courses.items in
    let does = c.tell_arrived.ensures key c.requires.copy in
    record {
      fit = arrived-fit a.number a.pool a.want key a.victims.items ws courses c.args.self.now c.tell_arrived.new.self does c.requires.fit;
      may_free = arrived-may-free a.number a.pool a.want key a.victims.items ws courses c.args.self.now c.tell_arrived.new.self does c.requires.may_free;
      stones = omega (arith, does.room.stones, c.requires.room.stones);
      room = omega (arith, does.room.notes, c.requires.room.notes);
    }

pub returns : goal.returns
returns g c =
    let a = c.args.arrived in
    let key = c.args.key.now in
    arrived-served a.number a.pool a.want key a.victims.items c.args.waiters.items c.args.courses.items c.args.self.now c.tell_arrived.new.self (c.tell_arrived.ensures key c.requires.copy) c.serve_all.new.self c.serve_all.ensures.does
