use Rattle.std.proofs.Common.{ℕ, List, Some, ap, ◌∙◌, subst, arith}
use Rattle.hc_types.specs.FlashEntry.{entry_of}
use Rattle.hc_memory.specs.Memory.{linked_at}
use Rattle.hc_history.specs.Told.{is_log}
use Rattle.hc_state.specs.fill.Plan.{IsLinked}
use Rattle.hc_state.specs.wait.Commit.{waiters_at}
use Rattle.hc_state.proofs.store.Links.{courses-long}
use Rattle.hc_state.proofs.state.State.prepare_item.Goals as goal

pub link_entry-requires-clause-absent : goal.link_entry-requires-clause-absent
link_entry-requires-clause-absent g c = ap (λ (k : List ℕ). linked_at k c.args.self.now.cache.memory.pools) c.requires.own.own ∙ c.requires.absent

pub returns-in-Ok-clause-ok : goal.returns-in-Ok-clause-ok
returns-in-Ok-clause-ok g c =
    let old = c.args.self.now in
    let entry = entry_of c.args.entry.now in
    let plan = c.in_ok-courses.ensures.serves (Some entry) c.in_ok-there.ensures in
    let long = courses-long (is_log old.log) c.args.key.now old.cache.now (waiters_at old.cache.nvm c.args.key.now) (Some entry) c.in_ok-courses.courses.items plan in
    record {
      entry = entry;
      found = c.requires.found;
      own = c.requires.own.own;
      can = c.requires.can;
      apart = c.requires.own.apart;
      plan = plan;
      linked_is = subst (λ n. IsLinked entry c.args.ending.now n c.in-Ok.arrived old c.link_entry.new.self) (omega (arith, c.len.ensures, c.in_ok-courses.courses.ok.0, long)) c.in-Ok.ensures.ok;
    }
