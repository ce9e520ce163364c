use Rattle.std.proofs.Common.{length, ap, arith}
use Rattle.hc_state.specs.store.Insert.{inserted_answer}
use Rattle.hc_machine.specs.Call.{Adds}
use Rattle.hc_core.proofs.Keeping.{call-holds}
use Rattle.hc_core.proofs.Calling.{called, unchanged}
use Rattle.hc_core.proofs.cache.Core.insert.Goals as goal

pub insert-requires : goal.insert-requires
insert-requires g c = record { structured = c.self.invariant.structured; begun = c.self.invariant.begun; ready = c.self.invariant.ready }

pub invariant_of-self : goal.invariant_of-self
invariant_of-self g c =
    let key = ap length c.key.ensures in
    let sized = c.len-sized.ensures in
    call-holds (Adds c.args.client c.args.sealed) c.self.inside.state c.insert.new.self (record {
      some_key = omega (arith, key, sized.value, sized.least);
      short_key = omega (arith, key, sized.value, sized.most);
      short_value = omega arith;
      second = omega (arith, c.expiry-second.ensures);
    }) c.self.invariant inserted_answer c.insert.result c.insert.ensures.ok c.insert.ensures.err

pub returns-clause-ok : goal.returns-clause-ok
returns-clause-ok g c = rw (← c.self.view_is) (called inserted_answer _ c.self.inside.state c.insert.new.self c.insert.result c.insert.ensures.ok)

pub returns-clause-err : goal.returns-clause-err
returns-clause-err g c = rw (← c.self.view_is) (unchanged c.self.inside.state c.insert.new.self c.insert.result c.insert.ensures.err)

pub returns-clause-why : goal.returns-clause-why
returns-clause-why g c = rw (← c.self.view_is) c.insert.ensures.why
