use Rattle.std.proofs.Common.{◌∙◌}
use Rattle.hc_queue.proofs.ByKey.{at-key, none-at, indexed-as, indexed-remove}
use Rattle.hc_queue.proofs.keyed.KeyedQueue.remove_at.Goals as goal

pub invariant_of-self : goal.invariant_of-self
invariant_of-self g c =
    let s = c.self.inside in
    indexed-as s.numbers s.queue.room c.remove.new.self.room s.queue.entries c.remove.new.self.entries
    (c.remove.ensures.entries ∙ none-at c.args.number c.remove.result s.queue.entries c.remove.ensures.piece c.in_default.is) c.remove.ensures.room c.self.invariant

pub invariant_of-self-2 : goal.invariant_of-self-2
invariant_of-self-2 g c =
    let s = c.self.inside in
    indexed-remove s.numbers c.forget.new.numbers c.in-Some.piece.value.key s.queue.room c.remove.new.self.room s.queue.entries c.remove.new.self.entries
    (c.remove.ensures.entries ∙ at-key c.args.number c.len-len.ensures.rising.0 c.in-Some.piece c.remove.result s.queue.entries c.len-len.ensures.rising.1 c.self.invariant.apart c.remove.ensures.piece c.in-Some.is)
    c.self.invariant c.remove.ensures.room c.forget.ensures.room c.forget.ensures.leads
