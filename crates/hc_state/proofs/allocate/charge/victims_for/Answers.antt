use Rattle.std.proofs.Common.{true, false, Some, length, sym, ap, ◌∙◌, arith}
use Rattle.std.proofs.lemmas.Result.{on_ok_weaker, IfErr-weaker}
use Rattle.hc_types.specs.Charge.{charge_of}
use Rattle.hc_memory.specs.Memory.{is_hopeless}
use Rattle.hc_memory.specs.Seen.{filled}
use Rattle.hc_state.proofs.allocate.Refusals.{too-long, by-room}
use Rattle.hc_state.proofs.allocate.charge.victims_for.Goals as goal

pub returns-then-size-gt-VALUE_MAX-clause-err : goal.returns-then-size-gt-VALUE_MAX-clause-err
returns-then-size-gt-VALUE_MAX-clause-err g c =
    too-long c.args.pools.now c.args.pool c.args.key.now (length (filled c.args.fill)) (omega (arith, c.if-from-len.false, c.from.ensures, c.len.ensures.value)) (omega (arith, c.if-size-gt-VALUE_MAX.true, c.len-size.ensures))

pub victims-requires : goal.victims-requires
victims-requires g c = omega (arith, c.if-from-len.false, c.from.ensures, c.len.ensures.value)

pub returns-clause-fits : goal.returns-clause-fits
returns-clause-fits g c =
    let want = sym (c.charge.ensures ∙ ap (charge_of c.args.key.now) c.len-size.ensures) in
    on_ok_weaker c.victims.result
    (λ room. by-room c.args.pools.now c.args.pool c.args.key.now (length (filled c.args.fill)) false (omega (arith, c.if-from-len.false, c.from.ensures, c.len.ensures.value)) (omega (arith, c.if-size-gt-VALUE_MAX.false, c.len-size.ensures)) (ap (is_hopeless c.args.pools.now c.args.pool) want ∙ room))
    c.victims.ensures.room

pub returns-clause-err : goal.returns-clause-err
returns-clause-err g c =
    let want = sym (c.charge.ensures ∙ ap (charge_of c.args.key.now) c.len-size.ensures) in
    IfErr-weaker c.victims.result _ _
    (λ refusal none. by-room c.args.pools.now c.args.pool c.args.key.now (length (filled c.args.fill)) true (omega (arith, c.if-from-len.false, c.from.ensures, c.len.ensures.value)) (omega (arith, c.if-size-gt-VALUE_MAX.false, c.len-size.ensures)) (ap (is_hopeless c.args.pools.now c.args.pool) want ∙ none.1) ∙ ap (λ r. Some r) (sym none.0))
    c.victims.ensures.err
