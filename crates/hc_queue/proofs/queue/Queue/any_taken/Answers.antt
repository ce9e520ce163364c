use Rattle.std.proofs.Common.{sym, ◌∙◌}
use Rattle.hc_queue.specs.Queue.{numbered}
use Rattle.hc_queue.proofs.Oldest.{taken-there, taken-behind}
use Rattle.hc_queue.proofs.queue.Queue.any_taken.Goals as goal

pub returns-then-any_taken : goal.returns-then-any_taken
returns-then-any_taken g c =
    let s = c.self.inside in
    rw (← c.self.view_is) (taken-there s.order.entries (numbered s.from s.inbox.items) (sym c.any_taken.ensures ∙ c.if-any_taken.true))

pub returns : goal.returns
returns g c =
    let s = c.self.inside in
    rw (← c.self.view_is) (c.any_taken_in.ensures ∙ taken-behind s.from s.order.entries s.inbox.items (sym c.any_taken.ensures ∙ c.if-any_taken.false))
