use Rattle.hc_queue.proofs.Valued.{indexed-named}
use Rattle.hc_queue.proofs.keyed.KeyedQueue.replace.Goals as goal

pub invariant_of-self : goal.invariant_of-self
invariant_of-self g c = let s = c.self.inside in indexed-named c.args.value s.numbers c.args.number s.queue.room c.replace.new.self.room s.queue.entries c.replace.new.self.entries c.replace.ensures.entries c.replace.ensures.room c.self.invariant
