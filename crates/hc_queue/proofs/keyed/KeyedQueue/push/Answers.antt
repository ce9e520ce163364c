use Rattle.std.proofs.Common.{false, refl}
use Rattle.hc_queue.proofs.ByKey.{indexed-push}
use Rattle.hc_queue.proofs.keyed.KeyedQueue.push.Goals as goal

pub invariant_of-self : goal.invariant_of-self
invariant_of-self g c =
    let s = c.self.inside in
    indexed-push s.numbers c.note.new.numbers c.args.key c.args.copy c.push-number.result s.queue.room c.push-number.new.self.room
    (record { lane = c.args.lane; taken = false; value = record { key = c.args.key; value = c.args.value } }) s.queue.entries c.push-number.new.self.entries
    c.requires.same refl (rw (← c.self.view_is) at c.requires.apart) c.self.invariant c.push-number.ensures.entries c.push-number.ensures.room c.note.ensures.room c.note.ensures.leads
