use Rattle.std.proofs.Common.{sym, ◌∙◌}
use Rattle.hc_queue.specs.Queue.{numbered}
use Rattle.hc_queue.proofs.Oldest.{oldest-there, oldest-behind}
use Rattle.hc_queue.proofs.queue.Queue.oldest.Goals as goal

pub returns-in-Some : goal.returns-in-Some
returns-in-Some g c =
    let s = c.self.inside in
    rw (← c.self.view_is) (oldest-there c.in-Some.number s.order.entries (numbered s.from s.inbox.items) (sym c.oldest.ensures ∙ c.in-Some.is))

pub returns-in-None : goal.returns-in-None
returns-in-None g c =
    let s = c.self.inside in
    rw (← c.self.view_is) (c.oldest_in.ensures ∙ oldest-behind s.order.entries (numbered s.from s.inbox.items) (sym c.oldest.ensures ∙ c.in-None.is))
