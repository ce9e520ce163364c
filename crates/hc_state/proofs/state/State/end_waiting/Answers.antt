use Rattle.hc_state.proofs.wait.Ends.{some-wait, none-waits, taken-fit, taken-may-free, taken-stones, taken-notes, taken-served, none-served}
use Rattle.hc_state.proofs.state.State.end_waiting.Goals as goal

pub serve_all-requires : goal.serve_all-requires
serve_all-requires g c =
    let key = c.args.key.now in
    let old = c.args.self.now in
    let mid = c.take_waiters.new.self in
    let waiters = c.in-Some.waiters.items in
    let does = c.take_waiters.ensures.does in
    let is = some-wait old.cache.nvm key waiters c.in-Some.ensures.waiters in
    record {
      fit = taken-fit key c.args.courses.items old mid waiters does is c.requires.can;
      may_free = taken-may-free key c.args.courses.items old mid waiters does is c.requires.can;
      stones = taken-stones key c.args.courses.items old mid waiters does is c.requires.stones;
      room = taken-notes key c.args.courses.items old mid waiters does is c.requires.room;
    }

pub returns-in-Some : goal.returns-in-Some
returns-in-Some g c =
    let key = c.args.key.now in
    let old = c.args.self.now in
    let waiters = c.in-Some.waiters.items in
    let is = some-wait old.cache.nvm key waiters c.in-Some.ensures.waiters in
    taken-served key c.args.courses.items old c.take_waiters.new.self waiters c.take_waiters.ensures.does is c.args.standing c.serve_all.new.self c.serve_all.ensures.does

pub returns-in-None : goal.returns-in-None
returns-in-None g c =
    let key = c.args.key.now in
    let old = c.args.self.now in
    none-served key c.args.courses.items c.args.standing old c.take_waiters.new.self c.take_waiters.ensures.does (none-waits old.cache.nvm key c.in-None.ensures.waiters)
