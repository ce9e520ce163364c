use Rattle.std.proofs.Common.{arith}
use Rattle.std.proofs.lemmas.Result.{IfErr-weaker}
use Rattle.hc_memory.specs.Seen.{filled}
use Rattle.hc_machine.specs.Cache.{Opened}
use Rattle.hc_machine.specs.Evicting.{allocate}
use Rattle.hc_machine.specs.Call.{Allocates}
use Rattle.hc_core.proofs.Keeping.{calm-holds}
use Rattle.hc_core.proofs.Opening.{opened-known}
use Rattle.hc_core.proofs.Calling.{called, calm, opened-steps, reason}
use Rattle.hc_core.proofs.cache.Core.allocate_with.Goals as goal

pub allocate_with-requires : goal.allocate_with-requires
allocate_with-requires g c = record { structured = c.self.invariant.structured }

pub invariant_of-self : goal.invariant_of-self
invariant_of-self g c =
    let old = c.self.inside.state in
    let new = c.allocate_with.new.self in
    let e = c.allocate_with.ensures in
    let steps = opened-steps c.args.pool c.args.key (filled c.args.fill) c.args.ttl old new c.allocate_with.result e.ok e.blank e.fits in
    let sized = c.len-sized.ensures in
    calm-holds (Allocates c.args.pool c.args.key (filled c.args.fill) c.args.ttl) old new (record {
      some_key = omega (arith, sized.value, sized.least);
      short_key = omega (arith, sized.value, sized.most);
      short_value = omega arith;
      second = omega arith;
    }) c.self.invariant (λ blank. Opened blank) c.allocate_with.result steps e.err

pub returns-clause-ok : goal.returns-clause-ok
returns-clause-ok g c =
    let old = c.self.inside.state in
    let new = c.allocate_with.new.self in
    let e = c.allocate_with.ensures in
    let steps = opened-steps c.args.pool c.args.key (filled c.args.fill) c.args.ttl old new c.allocate_with.result e.ok e.blank e.fits in
    rw (← c.self.view_is) (called (λ blank. Opened blank) (allocate c.args.pool c.args.key (filled c.args.fill) c.args.ttl old.cache) old new c.allocate_with.result steps)

pub returns-clause-mine : goal.returns-clause-mine
returns-clause-mine g c =
    let e = c.allocate_with.ensures in
    opened-known c.args.pool c.args.key (filled c.args.fill) c.args.ttl c.self.inside.state c.allocate_with.new.self c.allocate_with.result c.self.invariant.structured e.ok e.blank

pub returns-clause-err : goal.returns-clause-err
returns-clause-err g c = rw (← c.self.view_is) (calm c.self.inside.state c.allocate_with.new.self c.allocate_with.result c.allocate_with.ensures.err)

pub returns-clause-why : goal.returns-clause-why
returns-clause-why g c =
    rw (← c.self.view_is) (IfErr-weaker c.allocate_with.result _ _ (λ e. reason c.args.pool c.args.key (filled c.args.fill) c.args.ttl c.self.inside.state.cache e.refusal) c.allocate_with.ensures.why)
