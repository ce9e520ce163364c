use Rattle.std.proofs.Common.{sym, ◌∙◌}
use Rattle.hc_queue.specs.Queue.{numbered}
use Rattle.hc_queue.proofs.FirstOf.{first-there, first-behind}
use Rattle.hc_queue.proofs.queue.Queue.first_of.Goals as goal

pub returns-in-Some : goal.returns-in-Some
returns-in-Some g c =
    let s = c.self.inside in
    rw (← c.self.view_is) (first-there c.args.lane c.in-Some.number s.order.entries (numbered s.from s.inbox.items) (sym c.first_of.ensures ∙ c.in-Some.is))

pub returns-in-None : goal.returns-in-None
returns-in-None g c =
    let s = c.self.inside in
    rw (← c.self.view_is) (c.first_in.ensures ∙ first-behind c.args.lane s.order.entries (numbered s.from s.inbox.items) (sym c.first_of.ensures ∙ c.in-None.is))
