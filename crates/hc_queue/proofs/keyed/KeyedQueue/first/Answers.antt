use Rattle.hc_queue.proofs.keyed.KeyedQueue.first.Goals as goal

pub returns-clause-number : goal.returns-clause-number
returns-clause-number g c = λ busy answers. rw (← c.self.view_is) (c.first.ensures.number busy answers)
