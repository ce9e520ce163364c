use Rattle.std.proofs.Common.{None, sym, ap, ◌∙◌}
use Rattle.std.proofs.lemmas.Result.{on_ok_weaker}
use Rattle.hc_state.specs.store.Chosen.{all_stored_as, last_of, before_last}
use Rattle.hc_state.specs.store.Link.{number_at}
use Rattle.hc_state.specs.wait.Commit.{waiters_at}
use Rattle.hc_state.specs.Whole.{nvm_of, spare_of}
use Rattle.hc_state.proofs.store.Links.{last-waits, link-alone, link-last}
use Rattle.hc_state.proofs.state.State.link_stored.Goals as goal
use Rattle.hc_state.proofs.state.State.link_stored.Goals.{in-Ok, in-Err-link_after}

pub link_after-requires-in-Ok-Some : goal.link_after-requires-in-Ok-Some
link_after-requires-in-Ok-Some g c =
    let old = c.args.self.now in
    let key = c.args.sealed.key in
    let is = sym c.in-Ok-Some.field-0-is ∙ c.in-Ok-Some.ensures.last ∙ ap (λ k. last_of None (all_stored_as (waiters_at old.cache.nvm k) c.args.courses.now)) c.key.ensures in
    let waits = (last-waits old.cache.memory key (waiters_at old.cache.nvm key) c.args.courses.now c.in-Ok-Some.twin c.requires.wishes is).1 in
    rw (← c.self.view_is) at waits

pub returns-in-Ok-None-clause-ok : goal.returns-in-Ok-None-clause-ok
returns-in-Ok-None-clause-ok g c =
    let f = c.self.inside in
    let old = c.args.self.now in
    let sealed = c.args.sealed in
    let is = sym c.in-Ok-None.field-0-is ∙ c.in-Ok-None.ensures.last ∙ ap (λ k. last_of None (all_stored_as (waiters_at old.cache.nvm k) c.args.courses.now)) c.key.ensures in
    let linked = link-alone sealed (all_stored_as (waiters_at old.cache.nvm sealed.key) c.args.courses.now) old.cache.memory is in
    let same = rw (← c.self.view_is) at linked in
    rw (← c.self.view_is) (on_ok_weaker c.link_after.result
    (λ pools. λ i. record {
      cache = record { config = f.config; memory = (pools ∙ same) i; now = f.clock; calls = f.calls; owed = f.replies; nvm = nvm_of f.nvm };
      log = g.N.Listener.told f.notes;
      notes = g.N.Listener.room f.notes;
      spare = spare_of f.nvm;
    })
    c.link_after.ensures.pools)

pub returns-after-link_after-clause-ok : goal.returns-after-link_after-clause-ok
returns-after-link_after-clause-ok g c =
    let f = c.self.inside in
    let old = c.args.self.now in
    let sealed = c.args.sealed in
    let stored = all_stored_as (waiters_at old.cache.nvm sealed.key) c.args.courses.now in
    let is = sym c.in-Ok-Some.field-0-is ∙ c.in-Ok-Some.ensures.last ∙ ap (λ k. last_of None (all_stored_as (waiters_at old.cache.nvm k) c.args.courses.now)) c.key.ensures in
    let ends = c.as_slice.ensures.value ∙ c.in-Ok-Some.ensures.earlier ∙ (λ i. before_last (c.requires.first i) None (all_stored_as (waiters_at old.cache.nvm (c.key.ensures i)) c.args.courses.now)) in
    let linked = link-last sealed stored c.in-Ok-Some.twin c.as_slice.result.now old.cache.memory is ends in
    let same = rw (← c.self.view_is) at linked in
    rw (← c.self.view_is) (elim c.match-link_after.branch [
      | in-Ok w ↦ rw w.result-is (λ i. record {
        cache = record { config = f.config; memory = (w.in-Ok.ensures.pools ∙ same) i; now = f.clock; calls = f.calls; owed = f.replies; nvm = nvm_of f.nvm };
        log = g.N.Listener.told f.notes;
        notes = g.N.Listener.room f.notes;
        spare = spare_of f.nvm;
      })
      | in-Err-link_after w ↦ rw w.result-is tt
    ])

pub returns-after-link_after-clause-standing : goal.returns-after-link_after-clause-standing
returns-after-link_after-clause-standing g c =
    let f = c.self.inside in
    let old = c.args.self.now in
    let key = c.args.sealed.key in
    let is = sym c.in-Ok-Some.field-0-is ∙ c.in-Ok-Some.ensures.last ∙ ap (λ k. last_of None (all_stored_as (waiters_at old.cache.nvm k) c.args.courses.now)) c.key.ensures in
    let own = (last-waits old.cache.memory key (waiters_at old.cache.nvm key) c.args.courses.now c.in-Ok-Some.twin c.requires.wishes is).0 in
    rw (← c.self.view_is) (elim c.match-link_after.branch [ in-Ok w ↦ rw w.result-is (w.in-Ok.ensures.old ∙ ap (λ k. number_at k f.pools) own) | in-Err-link_after w ↦ rw w.result-is tt ])
