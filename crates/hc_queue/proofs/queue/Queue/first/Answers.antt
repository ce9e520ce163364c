use Rattle.std.proofs.Common.{◌+◌, ◌++◌, find, ap, ◌∙◌}
use Rattle.std.specs.Prelude.{option_map}
use Rattle.std.specs.VecDeque.{deque_len}
use Rattle.hc_queue.specs.Queue.{can_go, numbered, piece_by}
use Rattle.hc_queue.proofs.Firsts.{found-piece}
use Rattle.hc_queue.proofs.Places.{rises-whole}
use Rattle.hc_queue.proofs.Settling.{settles-all}
use Rattle.hc_queue.proofs.queue.Queue.first.Goals as goal

pub returns-clause-number : goal.returns-clause-number
returns-clause-number g c = λ busy answers.
    let s = c.self.inside in
    let all = settles-all s.order c.settle.new.order s.inbox c.settle.new.inbox s.from c.settle.new.from c.settle.ensures.settles c.in_ok-settle.ensures.empty in
    rw (← c.self.view_is) (c.first_open.ensures.number busy answers ∙ ap (λ es. option_map (λ e. e.0) (find (λ e. can_go busy e.1) es)) all)

pub returns-clause-piece : goal.returns-clause-piece
returns-clause-piece g c = λ busy answers.
    let s = c.self.inside in
    let all = settles-all s.order c.settle.new.order s.inbox c.settle.new.inbox s.from c.settle.new.from c.settle.ensures.settles c.in_ok-settle.ensures.empty in
    rw (← c.self.view_is)
    (ap (λ o. piece_by o (s.order.entries ++ numbered s.from s.inbox.items)) (c.first_open.ensures.number busy answers ∙ ap (λ es. option_map (λ e. e.0) (find (λ e. can_go busy e.1) es)) all)
    ∙ found-piece busy 0 (s.from + deque_len s.inbox) (s.order.entries ++ numbered s.from s.inbox.items) (rises-whole s.from s.order.entries s.inbox.items _ c.self.invariant.rises s.inbox.ok.0))
