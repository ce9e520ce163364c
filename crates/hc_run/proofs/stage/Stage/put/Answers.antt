use Rattle.std.proofs.Common.{refl, sym, subst, ◌∙◌}
use Rattle.hc_run.specs.Shows.{Stage, AreOwn}
use Rattle.hc_run.proofs.Slotting.{put-back}
use Rattle.hc_run.proofs.Slotted.{slot-own, put-memory, put-none, put-so, waits-back, back-is}
use Rattle.hc_run.proofs.stage.Stage.put.Goals as goal

pub returns-in_default-clause-ok : goal.returns-in_default-clause-ok
returns-in_default-clause-ok g c =
    let f = c.self.inside in
    rw (← c.self.view_is)
    (λ held. put-none held f.window f.failures f.results.results f.core.cache f.core.cache f.core.log f.core.log f.slots.items c.take_sealed.new.slots.items c.args.client c.args.slot
    (sym c.in_ok-sealed.ensures.ok ∙ c.in_default.is) refl refl c.in_ok-sealed.ensures.slots)

pub unreachable-requires : goal.unreachable-requires
unreachable-requires g c =
    let f = c.self.inside in
    let own = subst (λ (s : Stage). AreOwn s.slots s.cache) (sym c.self.view_is) c.requires.own in
    let is = sym c.in_ok-sealed.ensures.ok ∙ c.in-Some.is in
    c.in_default-refusal.not-NoMemory (put-memory c.args.client f.core.cache c.in-Some.sealed c.in-Err.field-0.refusal (slot-own f.core.cache f.slots.items c.args.slot c.in-Some.sealed own is) c.in-Err.ensures.why)

pub returns-in-Ok-clause-ok : goal.returns-in-Ok-clause-ok
returns-in-Ok-clause-ok g c =
    let f = c.self.inside in
    let is = sym c.in_ok-sealed.ensures.ok ∙ c.in-Some.is in
    let stored = c.insert_or_replace.new.self in
    rw (← c.self.view_is)
    (λ held. put-so held f.window f.failures f.results.results f.core.cache stored.cache f.core.log stored.log f.slots.items c.take_sealed.new.slots.items c.args.client c.args.slot c.in-Some.sealed
    is c.in-Ok.ensures.ok.cache c.in-Ok.ensures.ok.answer_is c.in-Ok.ensures.ok.log c.in_ok-sealed.ensures.slots)

pub returns-in-NoMemory-clause-err : goal.returns-in-NoMemory-clause-err
returns-in-NoMemory-clause-err g c =
    let f = c.self.inside in
    let is = sym c.in_ok-sealed.ensures.ok ∙ c.in-Some.is in
    let back = put-back f.slots.items c.take_sealed.new.slots.items c.fill.new.slots.items c.args.slot c.in-Some.sealed c.in-Err.field-0.sealed is c.in_ok-sealed.ensures.slots c.in-Err.ensures.sealed_returned c.fill.ensures in
    rw (← c.self.view_is)
    (λ held. waits-back held _ _
    (back-is f.window f.failures f.results.results f.core.cache c.insert_or_replace.new.self.cache f.core.log c.insert_or_replace.new.self.log f.slots.items c.fill.new.slots.items (λ i. (c.in-Err.ensures.err i).cache) (λ i. (c.in-Err.ensures.err i).log) back))
