use Rattle.std.proofs.Common.{ℕ, ◌<◌, [], length, get_or, subst, List}
use Rattle.hc_engines.specs.large.Index.{Indexed}
use Rattle.hc_block.specs.Indexes.{Rises}
use Rattle.hc_block.proofs.Segments.{all_in_order}
use Rattle.hc_block.proofs.index.Index.in_order.Goals as goal

pub returns : goal.returns
returns g c = rw (← c.self.view_is)
    (all_in_order c.self.inside.shift c.self.inside.segments.items c.self.invariant.2
    (subst (λ (segments : List (List Indexed)). (i : ℕ) → i < length segments → Rises (get_or segments i [])) c.deref.ensures.value c.in_order.ensures))
