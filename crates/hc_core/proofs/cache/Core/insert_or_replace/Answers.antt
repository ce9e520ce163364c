use Rattle.std.proofs.Common.{length, ap, arith}
use Rattle.hc_history.specs.Note.{Stored}
use Rattle.hc_machine.specs.Cache.{Replied}
use Rattle.hc_machine.specs.Call.{Inserts}
use Rattle.hc_core.proofs.Keeping.{done-holds}
use Rattle.hc_core.proofs.Calling.{called-so, calm}
use Rattle.hc_core.proofs.cache.Core.insert_or_replace.Goals as goal

pub insert_or_replace-requires : goal.insert_or_replace-requires
insert_or_replace-requires g c = record { structured = c.self.invariant.structured; ready = c.self.invariant.ready }

pub invariant_of-self : goal.invariant_of-self
invariant_of-self g c =
    let key = ap length c.key.ensures in
    let sized = c.len-sized.ensures in
    done-holds (Inserts c.args.client c.args.sealed) c.self.inside.state c.insert_or_replace.new.self (record {
      some_key = omega (arith, key, sized.value, sized.least);
      short_key = omega (arith, key, sized.value, sized.most);
      short_value = omega arith;
      second = omega (arith, c.expiry-second.ensures);
    }) c.self.invariant (Replied Stored) c.insert_or_replace.result c.insert_or_replace.ensures.ok c.insert_or_replace.ensures.err

pub returns-clause-ok : goal.returns-clause-ok
returns-clause-ok g c = rw (← c.self.view_is) (called-so (Replied Stored) _ c.self.inside.state c.insert_or_replace.new.self c.insert_or_replace.result c.insert_or_replace.ensures.ok)

pub returns-clause-err : goal.returns-clause-err
returns-clause-err g c = rw (← c.self.view_is) (calm c.self.inside.state c.insert_or_replace.new.self c.insert_or_replace.result c.insert_or_replace.ensures.err)

pub returns-clause-why : goal.returns-clause-why
returns-clause-why g c = rw (← c.self.view_is) c.insert_or_replace.ensures.why
