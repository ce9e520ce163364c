use Rattle.std.proofs.Common.{◌≡◌, Some, sym, ◌∙◌}
use Rattle.hc_queue.specs.Keys.{number_of}
use Rattle.hc_queue.proofs.ByKey.{by-key, none-without, indexed-remove}
use Rattle.hc_queue.proofs.keyed.KeyedQueue.remove.Goals as goal

pub returns-in_default-clause-entries : goal.returns-in_default-clause-entries
returns-in_default-clause-entries g c =
    let s = c.self.inside in
    rw (← c.self.view_is) (sym (none-without c.args.key.now s.queue.entries (sym (c.self.invariant.found c.args.key.now) ∙ (sym c.get.ensures.value ∙ (sym c.copied.ensures ∙ c.in_default.is)))))

pub invariant_of-self : goal.invariant_of-self
invariant_of-self g c =
    let s = c.self.inside in
    let at : number_of c.args.key.now s.queue.entries ≡ Some c.in-Some.number = sym (c.self.invariant.found c.args.key.now) ∙ (sym c.get.ensures.value ∙ (sym c.copied.ensures ∙ c.in-Some.is)) in
    indexed-remove s.numbers c.forget.new.numbers c.args.key.now s.queue.room c.remove.new.self.room s.queue.entries c.remove.new.self.entries
    (c.remove.ensures.entries ∙ by-key c.args.key.now c.in-Some.number 0 c.len-len.ensures.rising.0 s.queue.entries c.len-len.ensures.rising.1 c.self.invariant.apart at)
    c.self.invariant c.remove.ensures.room c.forget.ensures.room c.forget.ensures.leads

pub returns-clause-entries : goal.returns-clause-entries
returns-clause-entries g c =
    let s = c.self.inside in
    let at : number_of c.args.key.now s.queue.entries ≡ Some c.in-Some.number = sym (c.self.invariant.found c.args.key.now) ∙ (sym c.get.ensures.value ∙ (sym c.copied.ensures ∙ c.in-Some.is)) in
    rw (← c.self.view_is) (c.remove.ensures.entries ∙ by-key c.args.key.now c.in-Some.number 0 c.len-len.ensures.rising.0 s.queue.entries c.len-len.ensures.rising.1 c.self.invariant.apart at)
