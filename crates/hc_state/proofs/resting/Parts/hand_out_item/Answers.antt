use Rattle.std.proofs.Common.{drop, sym, ap, ◌∙◌}
use Rattle.hc_memory.specs.Memory.{Memory}
use Rattle.hc_memory.specs.Resting.{without_first}
use Rattle.hc_machine.specs.items.Items.{items_of}
use Rattle.hc_state.specs.Whole.{nvm_of}
use Rattle.hc_state.specs.Resting.{of_parts, is_at_rest}
use Rattle.hc_state.proofs.ComingBack.{flat}
use Rattle.hc_state.proofs.resting.Parts.hand_out_item.Goals as goal

-- the charges that are open stay, and none is
pub invariant_of-self : goal.invariant_of-self
invariant_of-self g c =
    let f = c.self.inside in
    ap (λ memory. is_at_rest (of_parts f.config memory f.clock f.calls (nvm_of f.nvm))) c.hand_out.ensures.pools ∙ c.self.invariant

pub returns-clause-rest : goal.returns-clause-rest
returns-clause-rest g c =
    let pools = c.self.inside.pools.pools in
    rw (← c.self.view_is) (ap (λ (m : Memory). items_of m.pools) c.hand_out.ensures.pools ∙ sym (flat (without_first pools)) ∙ c.hand_out.ensures.rest ∙ ap (drop 1) (flat pools))
