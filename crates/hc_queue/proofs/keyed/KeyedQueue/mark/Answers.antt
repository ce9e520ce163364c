use Rattle.hc_queue.proofs.ByKey.{indexed-taken}
use Rattle.hc_queue.proofs.keyed.KeyedQueue.mark.Goals as goal

pub invariant_of-self : goal.invariant_of-self
invariant_of-self g c = let s = c.self.inside in indexed-taken s.numbers c.args.number s.queue.room c.mark.new.self.room s.queue.entries c.mark.new.self.entries c.mark.ensures.entries c.mark.ensures.room c.self.invariant
