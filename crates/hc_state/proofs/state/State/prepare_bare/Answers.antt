use Rattle.std.proofs.Common.{length, ap, ◌∙◌, subst}
use Rattle.hc_history.specs.Told.{is_log}
use Rattle.hc_state.specs.fill.Plan.{HasRoomToEnd, found_by}
use Rattle.hc_state.specs.store.Link.{linked_without}
use Rattle.hc_state.specs.wait.Plan.{IsThere}
use Rattle.hc_state.specs.wait.Commit.{waiters_at}
use Rattle.hc_state.proofs.store.Links.{courses-long}
use Rattle.hc_state.proofs.state.State.prepare_bare.Goals as goal

pub link_last-requires : goal.link_last-requires
link_last-requires g c =
    let key = c.args.key.now in
    let old = c.args.self.now in
    let found = found_by c.args.ending.now in
    let there = subst (λ e. IsThere e c.in_ok-there.there) c.found.ensures c.in_ok-there.ensures in
    record {
      structured = c.requires.structured;
      courses = ap (λ cs. length cs) c.as_slice.ensures.value ∙ courses-long (is_log old.log) key old.cache.now (waiters_at old.cache.nvm key) found c.in_ok-courses.courses.items (c.in_ok-courses.ensures.serves found there);
    }

pub returns-in-Ok-clause-ok : goal.returns-in-Ok-clause-ok
returns-in-Ok-clause-ok g c =
    let key = c.args.key.now in
    let old = c.args.self.now in
    let found = found_by c.args.ending.now in
    let there = subst (λ e. IsThere e c.in_ok-there.there) c.found.ensures c.in_ok-there.ensures in
    let plan = c.in_ok-courses.ensures.serves found there in
    let count = ap (λ cs. length cs) c.as_slice.ensures.value ∙ courses-long (is_log old.log) key old.cache.now (waiters_at old.cache.nvm key) found c.in_ok-courses.courses.items plan in
    record {
      cannot = c.requires.cannot;
      plan = plan;
      cache = c.in-Ok.ensures.cache ∙ ap (λ cs. linked_without key cs old.cache) c.as_slice.ensures.value;
      log = c.in-Ok.ensures.log;
      room = subst (λ n. HasRoomToEnd c.args.ending.now 0 n old.cache c.link_last.new.self) count c.in-Ok.ensures.room;
    }
