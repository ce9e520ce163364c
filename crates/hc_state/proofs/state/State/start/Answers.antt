use Rattle.std.proofs.Common.{[], ◌∷◌, ◌∙◌, arith}
use Rattle.hc_history.specs.Note.{Begin}
use Rattle.hc_history.specs.Told.{told_more}
use Rattle.hc_state.specs.Whole.{nvm_of}
use Rattle.hc_state.proofs.store.Planted.{begun-log}
use Rattle.hc_state.proofs.state.State.start.Goals as goal

pub returns : goal.returns
returns g c client op is =
    let f = c.self.inside in
    let call = rw (← c.self.view_is) at c.requires.call in
    let note = rw (← c.self.view_is) at is in
    rw (← c.self.view_is) (record {
      cache = λ i. record { config = f.config; memory = f.pools; now = f.clock; calls = call i; owed = f.replies; nvm = nvm_of f.nvm };
      log = begun-log (g.N.Listener.told f.notes) (g.N.Listener.told c.tell.new.notes) c.args.begin c.args.call client op note c.tell.ensures.told ∙ (λ i. told_more (g.N.Listener.told f.notes) (Begin (call i) client op ∷ []));
      room = record { notes = omega (arith, c.tell.ensures.room); puts = omega arith; stones = omega arith; fills = omega arith };
    })
