use Rattle.std.proofs.Common.{refl, arith}
use Rattle.hc_state.proofs.fill.Plans.{stays-by}
use Rattle.hc_state.proofs.state.State.next_fill.Goals as goal

pub returns-clause-stays : goal.returns-clause-stays
returns-clause-stays g c =
    let f = c.self.inside in
    let e = c.next_fill_in.ensures in
    rw (← c.self.view_is) (stays-by _ _ (λ i. record { config = f.config; memory = f.pools; now = f.clock; calls = f.calls; owed = f.replies; nvm = e.same i }) refl (omega arith) e.more_puts e.more_stones e.more_fills)

pub returns-clause-ok : goal.returns-clause-ok
returns-clause-ok g c = rw (← c.self.view_is) c.next_fill_in.ensures.ok
