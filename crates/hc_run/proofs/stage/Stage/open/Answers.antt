use Rattle.std.proofs.Common.{◌<◌, true, false, [], length, refl, arith}
use Rattle.hc_invariant.specs.Good.{IsSized}
use Rattle.hc_run.proofs.Slotting.{read-is, none-held}
use Rattle.hc_run.proofs.Slotted.{any-held, open-full, open-so, open-refused-ok, back-is}
use Rattle.hc_run.proofs.stage.Stage.open.Goals as goal

pub returns-then-is_filled-clause-ok : goal.returns-then-is_filled-clause-ok
returns-then-is_filled-clause-ok g c =
    let f = c.self.inside in
    let within : c.args.slot < length f.slots.items = omega (arith, c.self.invariant) in
    let full = read-is f.slots.items c.from.result c.args.slot c.index.result.now true c.is_filled.result c.from.ensures within c.index.ensures c.is_filled.ensures c.if-is_filled.true in
    let sized : IsSized c.args.key.now [] 0 = record { some_key = omega (arith, c.len-sized.ensures.value, c.len-sized.ensures.least); short_key = omega (arith, c.len-sized.ensures.value, c.len-sized.ensures.most); short_value = omega arith; second = omega arith } in
    rw (← c.self.view_is) (λ held. open-full held f.window f.failures f.results.results f.core.cache f.core.cache f.core.log f.core.log f.slots.items f.slots.items c.args.client c.args.slot c.args.pool c.args.key.now c.args.value.now c.args.ttl full sized)

pub fill-requires-clause-empty : goal.fill-requires-clause-empty
fill-requires-clause-empty g c =
    let f = c.self.inside in
    let within : c.args.slot < length f.slots.items = omega (arith, c.self.invariant) in
    none-held _ (read-is f.slots.items c.from.result c.args.slot c.index.result.now false c.is_filled.result c.from.ensures within c.index.ensures c.is_filled.ensures c.if-is_filled.false)

pub returns-in-Ok-clause-ok : goal.returns-in-Ok-clause-ok
returns-in-Ok-clause-ok g c =
    let f = c.self.inside in
    let within : c.args.slot < length f.slots.items = omega (arith, c.self.invariant) in
    let none = none-held _ (read-is f.slots.items c.from.result c.args.slot c.index.result.now false c.is_filled.result c.from.ensures within c.index.ensures c.is_filled.ensures c.if-is_filled.false) in
    let sized : IsSized c.args.key.now [] 0 = record { some_key = omega (arith, c.len-sized.ensures.value, c.len-sized.ensures.least); short_key = omega (arith, c.len-sized.ensures.value, c.len-sized.ensures.most); short_value = omega arith; second = omega arith } in
    let opened = c.allocate_with.new.self in
    rw (← c.self.view_is)
    (λ held. open-so held f.window f.failures f.results.results f.core.cache opened.cache f.core.log opened.log f.slots.items c.fill.new.slots.items c.args.client c.args.slot c.args.pool c.args.key.now c.in_ok-key.key c.args.value.now c.as_slice.result.now c.args.ttl c.in-Ok.blank
    within none sized c.in_ok-key.ensures.cases c.as_slice.ensures c.in-Ok.ensures.ok.cache c.in-Ok.ensures.ok.answer_is c.in-Ok.ensures.ok.log c.fill.ensures)

pub returns-in-Err-clause-ok : goal.returns-in-Err-clause-ok
returns-in-Err-clause-ok g c =
    let f = c.self.inside in
    let within : c.args.slot < length f.slots.items = omega (arith, c.self.invariant) in
    let none = none-held _ (read-is f.slots.items c.from.result c.args.slot c.index.result.now false c.is_filled.result c.from.ensures within c.index.ensures c.is_filled.ensures c.if-is_filled.false) in
    let sized : IsSized c.args.key.now [] 0 = record { some_key = omega (arith, c.len-sized.ensures.value, c.len-sized.ensures.least); short_key = omega (arith, c.len-sized.ensures.value, c.len-sized.ensures.most); short_value = omega arith; second = omega arith } in
    let kept = c.allocate_with.new.self in
    let same = back-is f.window f.failures f.results.results f.core.cache kept.cache f.core.log kept.log f.slots.items f.slots.items (λ i. (c.in-Err.ensures.err i).cache) (λ i. (c.in-Err.ensures.err i).log) refl in
    rw (← c.self.view_is)
    (any-held _ _ (λ held. open-refused-ok held f.window f.failures f.results.results f.core.cache kept.cache f.core.log kept.log f.slots.items f.slots.items c.args.client c.args.slot c.refused.result c.args.pool c.args.key.now c.in_ok-key.key c.args.value.now c.as_slice.result.now c.args.ttl
    c.in-Err.field-0.refusal c.refused.ensures.ok none sized c.in_ok-key.ensures.cases c.as_slice.ensures c.in-Err.ensures.why same))
