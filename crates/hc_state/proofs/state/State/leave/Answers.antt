use Rattle.std.proofs.Common.{[], ◌∷◌, refl, sym, ap, ◌∙◌, arith}
use Rattle.hc_memory.specs.Item.{Item}
use Rattle.hc_history.specs.Note.{Freed}
use Rattle.hc_history.specs.Told.{told_more}
use Rattle.hc_state.specs.Whole.{Whole, spare_of, nvm_of}
use Rattle.hc_state.proofs.allocate.Evicts.{unclean-left}
use Rattle.hc_state.proofs.state.State.leave.Goals as goal

pub returns-else-item : goal.returns-else-item
returns-else-item g c =
    let f = c.self.inside in
    let old : Whole = record { cache = record { config = f.config; memory = f.pools; now = f.clock; calls = f.calls; owed = f.replies; nvm = nvm_of f.nvm }; log = g.N.Listener.told f.notes; notes = g.N.Listener.room f.notes; spare = spare_of f.nvm } in
    let mid : Whole = record old { log = g.N.Listener.told c.freed.new.notes; notes = g.N.Listener.room c.freed.new.notes } in
    let log = c.freed.ensures.told ∙ ap (λ (x : Item). told_more old.log (Freed x.number ∷ [])) c.item.view_is in
    let clean = ap (λ (x : Item). x.clean) (sym c.item.view_is) ∙ c.if-item.false in
    rw (← c.self.view_is) (unclean-left c.args.pool c.args.want c.args.item old mid c.leave_unclean.new.self clean
    (record {
      cache = refl;
      log = log;
      room = record { notes = c.freed.ensures.room; puts = omega arith; stones = omega arith; fills = omega arith };
    })
    c.leave_unclean.ensures)
