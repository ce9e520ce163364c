use Rattle.std.proofs.Common.{[], refl, ◌∙◌}
use Rattle.std.proofs.lemmas.Result.{on_ok_weaker}
use Rattle.hc_state.specs.Whole.{nvm_of, spare_of}
use Rattle.hc_state.proofs.store.Links.{link-alone}
use Rattle.hc_state.proofs.state.State.link_alone.Goals as goal

pub returns-clause-ok : goal.returns-clause-ok
returns-clause-ok g c =
    let f = c.self.inside in
    let old = c.args.self.now in
    let linked = link-alone c.args.sealed [] old.cache.memory refl in
    let same = rw (← c.self.view_is) at linked in
    rw (← c.self.view_is) (on_ok_weaker c.link_after.result
    (λ pools. λ i. record {
      cache = record { config = f.config; memory = (pools ∙ same) i; now = f.clock; calls = f.calls; owed = f.replies; nvm = nvm_of f.nvm };
      log = g.N.Listener.told f.notes;
      notes = g.N.Listener.room f.notes;
      spare = spare_of f.nvm;
    })
    c.link_after.ensures.pools)
