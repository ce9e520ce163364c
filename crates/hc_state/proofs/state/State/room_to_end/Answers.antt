use Rattle.std.proofs.Common.{refl, arith}
use Rattle.hc_machine.specs.Cache.{Cache}
use Rattle.hc_state.specs.Whole.{nvm_of}
use Rattle.hc_state.proofs.fill.Plans.{stays-by, has-room}
use Rattle.hc_state.proofs.state.State.room_to_end.Goals as goal

pub returns-in_err-reserve_flash-clause-stays : goal.returns-in_err-reserve_flash-clause-stays
returns-in_err-reserve_flash-clause-stays g c =
    let f = c.self.inside in
    let e = c.in_err-reserve_flash.ensures in
    rw (← c.self.view_is) (stays-by _ _ (λ i. record { config = f.config; memory = f.pools; now = f.clock; calls = f.calls; owed = f.replies; nvm = e.same i }) refl (omega arith) e.more_puts e.more_stones e.more_fills)

pub returns-clause-stays : goal.returns-clause-stays
returns-clause-stays g c =
    let f = c.self.inside in
    let e = c.in_ok-reserve_flash.ensures in
    rw (← c.self.view_is) (stays-by _ _ (λ i. record { config = f.config; memory = f.pools; now = f.clock; calls = f.calls; owed = f.replies; nvm = e.same i }) c.reserve.ensures.same c.reserve.ensures.more e.more_puts e.more_stones e.more_fills)

pub returns-clause-room : goal.returns-clause-room
returns-clause-room g c =
    let f = c.self.inside in
    let e = c.in_ok-reserve_flash.ensures in
    let cache : Cache = record { config = f.config; memory = f.pools; now = f.clock; calls = f.calls; owed = f.replies; nvm = nvm_of f.nvm } in
    rw (← c.self.view_is) (has-room c.reserve.result c.args.ending.now c.args.victims c.args.waiting c.in-Some-notes_to_end.notes c.in-Some.most cache _ c.reserve.ensures.room
    (omega (arith, c.in-Some-notes_to_end.ensures, c.open_charges.ensures.value)) c.in-Some.ensures e.puts e.stones)
