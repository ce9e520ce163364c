use Rattle.std.proofs.Common.{None, sym, ap, ◌∙◌}
use Rattle.hc_state.specs.store.Chosen.{all_stored_as, before_last}
use Rattle.hc_state.specs.store.Link.{number_at}
use Rattle.hc_state.specs.wait.Commit.{waiters_at}
use Rattle.hc_state.specs.Whole.{nvm_of, spare_of}
use Rattle.hc_state.proofs.store.Links.{last-waits, unlink-alone, unlink-last}
use Rattle.hc_state.proofs.state.State.unlink_stored.Goals as goal
use Rattle.hc_state.proofs.state.State.unlink_stored.Goals.{in-Ok, in-Err}

pub link_after-requires : goal.link_after-requires
link_after-requires g c =
    let old = c.args.self.now in
    let key = c.args.key.now in
    let is = sym c.in-Some.is ∙ c.in_ok-twin_of_last.ensures.last in
    let waits = (last-waits old.cache.memory key (waiters_at old.cache.nvm key) c.args.courses.now c.in-Some.twin c.requires.wishes is).1 in
    rw (← c.self.view_is) at waits

pub returns-in-None-clause-ok : goal.returns-in-None-clause-ok
returns-in-None-clause-ok g c =
    let f = c.self.inside in
    let old = c.args.self.now in
    let key = c.args.key.now in
    let is = sym c.in-None.is ∙ c.in_ok-twin_of_last.ensures.last in
    let linked = unlink-alone key (all_stored_as (waiters_at old.cache.nvm key) c.args.courses.now) old.cache.memory is in
    let same = rw (← c.self.view_is) at linked in
    rw (← c.self.view_is) (λ i. record {
      cache = record { config = f.config; memory = (c.unlink.ensures.pools ∙ same) i; now = f.clock; calls = f.calls; owed = f.replies; nvm = nvm_of f.nvm };
      log = g.N.Listener.told f.notes;
      notes = g.N.Listener.room f.notes;
      spare = spare_of f.nvm;
    })

pub returns-after-link_after-clause-ok : goal.returns-after-link_after-clause-ok
returns-after-link_after-clause-ok g c =
    let f = c.self.inside in
    let old = c.args.self.now in
    let key = c.args.key.now in
    let stored = all_stored_as (waiters_at old.cache.nvm key) c.args.courses.now in
    let is = sym c.in-Some.is ∙ c.in_ok-twin_of_last.ensures.last in
    let ends = c.as_slice.ensures.value ∙ c.in_ok-twin_of_last.ensures.earlier ∙ ap (λ ns. before_last ns None stored) c.requires.first in
    let linked = unlink-last key stored c.in-Some.twin c.as_slice.result.now old.cache.memory is ends in
    let same = rw (← c.self.view_is) at linked in
    rw (← c.self.view_is) (elim c.match-link_after.branch [
      | in-Ok w ↦ rw w.result-is (λ i. record {
        cache = record { config = f.config; memory = (w.in-Ok.ensures.pools ∙ same) i; now = f.clock; calls = f.calls; owed = f.replies; nvm = nvm_of f.nvm };
        log = g.N.Listener.told f.notes;
        notes = g.N.Listener.room f.notes;
        spare = spare_of f.nvm;
      })
      | in-Err w ↦ rw w.result-is tt
    ])

pub returns-after-link_after-clause-standing : goal.returns-after-link_after-clause-standing
returns-after-link_after-clause-standing g c =
    let f = c.self.inside in
    let old = c.args.self.now in
    let key = c.args.key.now in
    let is = sym c.in-Some.is ∙ c.in_ok-twin_of_last.ensures.last in
    let own = (last-waits old.cache.memory key (waiters_at old.cache.nvm key) c.args.courses.now c.in-Some.twin c.requires.wishes is).0 in
    rw (← c.self.view_is) (elim c.match-link_after.branch [ in-Ok w ↦ rw w.result-is (w.in-Ok.ensures.old ∙ ap (λ k. number_at k f.pools) own) | in-Err w ↦ rw w.result-is tt ])
