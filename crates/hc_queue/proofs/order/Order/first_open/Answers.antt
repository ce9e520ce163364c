use Rattle.std.proofs.Common.{ap, refl, ◌∙◌, List, [], ℕ}
use Rattle.std.specs.Prelude.{find}
use Rattle.hc_queue.specs.Queue.{firsts, is_among, is_free}
use Rattle.hc_queue.proofs.Free.{free-first}
use Rattle.hc_queue.proofs.order.Order.first_open.Goals as goal

pub returns : goal.returns
returns g c =
    let s = c.self.inside in
    record {
      number = λ busy answers.
          rw (← c.self.view_is)
          (c.first_free.ensures busy answers
          ∙ (ap (find (is_free busy s.pieces.entries)) (c.self.invariant.serves ∙ ap (λ (ls : List ℕ). firsts (is_among ls) s.pieces.entries) (rw (← c.self.view_is) at c.requires.ready))
          ∙ free-first busy (is_among []) 0 c.self.invariant.rises.0 s.pieces.entries s.pieces.entries c.self.invariant.rises.1 (λ n le. refl) (λ l h. absurd (cc))));
    }
