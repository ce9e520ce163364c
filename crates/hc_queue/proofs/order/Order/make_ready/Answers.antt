use Rattle.std.proofs.Common.{◌≡◌, ◌∷◌, ◌++◌, [], ap, ◌∙◌}
use Rattle.std.specs.Option.{option_to_list}
use Rattle.hc_queue.specs.Queue.{with, first_of, beside}
use Rattle.hc_queue.proofs.Keeping.{kept-caught}
use Rattle.hc_queue.proofs.order.Order.make_ready.Goals as goal

pub invariant_of-self-in-Ok : goal.invariant_of-self-in-Ok
invariant_of-self-in-Ok g c =
    let s = c.self.inside in
    let at : c.add.new.numbers.keys ≡ with (first_of (beside c.in-Some.lane s.waits.keys)) s.ready.keys = c.in-Ok.ensures.ok ∙ ap (λ o. with o s.ready.keys) c.first_in.ensures in
    let was : s.stale.items ≡ c.pop.new.self.items ++ c.in-Some.lane ∷ [] = c.pop.ensures.items ∙ ap (λ o. c.pop.new.self.items ++ option_to_list o) c.in-Some.is in
    rw (at, c.pop.ensures.capacity) (kept-caught c.in-Some.lane s.pieces.entries s.lanes.keys s.waits.keys s.ready.keys c.pop.new.self.items s.stale.items _ was c.self.invariant)
