use Rattle.std.proofs.Common.{refl, sym, ap, ◌∙◌}
use Rattle.hc_history.specs.Note.{Stored}
use Rattle.hc_machine.specs.Cache.{Replied, Waits}
use Rattle.hc_core.specs.Answers.{inserted_answer}
use Rattle.hc_run.proofs.Slotting.{put-back}
use Rattle.hc_run.proofs.Slotted.{any-held, new-none, new-so, new-refused-ok, waits-err, back-is}
use Rattle.hc_run.proofs.stage.Stage.put_new.Goals as goal

pub returns-in_default-clause-ok : goal.returns-in_default-clause-ok
returns-in_default-clause-ok g c =
    let f = c.self.inside in
    rw (← c.self.view_is)
    (λ held. new-none held f.window f.failures f.results.results f.core.cache f.core.cache f.core.log f.core.log f.slots.items c.take_sealed.new.slots.items c.args.client c.args.slot
    (sym c.in_ok-sealed.ensures.ok ∙ c.in_default.is) refl refl c.in_ok-sealed.ensures.slots)

pub returns-in-Ok-Stored-clause-ok : goal.returns-in-Ok-Stored-clause-ok
returns-in-Ok-Stored-clause-ok g c =
    let f = c.self.inside in
    let is = sym c.in_ok-sealed.ensures.ok ∙ c.in-Some.is in
    let stored = c.insert.new.self in
    let ok = c.in-Ok-Stored.ensures.ok in
    rw (← c.self.view_is)
    (λ held. new-so held f.window f.failures f.results.results f.core.cache stored.cache f.core.log stored.log f.slots.items c.take_sealed.new.slots.items c.args.client c.args.slot c.in-Some.sealed (Replied Stored) (λ slots. refl)
    is ok.cache (sym (ap inserted_answer c.in-Ok-Stored.field-0-is) ∙ ok.answer_is) ok.log c.in_ok-sealed.ensures.slots)

pub returns-in-Ok-Waiting-clause-ok : goal.returns-in-Ok-Waiting-clause-ok
returns-in-Ok-Waiting-clause-ok g c =
    let f = c.self.inside in
    let is = sym c.in_ok-sealed.ensures.ok ∙ c.in-Some.is in
    let stored = c.insert.new.self in
    let ok = c.in-Ok-Waiting.ensures.ok in
    rw (← c.self.view_is)
    (λ held. new-so held f.window f.failures f.results.results f.core.cache stored.cache f.core.log stored.log f.slots.items c.take_sealed.new.slots.items c.args.client c.args.slot c.in-Some.sealed (Waits c.in-Ok-Waiting.call) (λ slots. refl)
    is ok.cache (sym (ap inserted_answer c.in-Ok-Waiting.field-0-is) ∙ ok.answer_is) ok.log c.in_ok-sealed.ensures.slots)

pub returns-in-Err-clause-ok : goal.returns-in-Err-clause-ok
returns-in-Err-clause-ok g c =
    let f = c.self.inside in
    let is = sym c.in_ok-sealed.ensures.ok ∙ c.in-Some.is in
    let back = put-back f.slots.items c.take_sealed.new.slots.items c.fill.new.slots.items c.args.slot c.in-Some.sealed c.in-Err.field-0.sealed is c.in_ok-sealed.ensures.slots c.in-Err.ensures.sealed_returned c.fill.ensures in
    let same = back-is f.window f.failures f.results.results f.core.cache c.insert.new.self.cache f.core.log c.insert.new.self.log f.slots.items c.fill.new.slots.items (λ i. (c.in-Err.ensures.err i).cache) (λ i. (c.in-Err.ensures.err i).log) back in
    rw (← c.self.view_is)
    (any-held _ _ (λ held. new-refused-ok held f.window f.failures f.results.results f.core.cache c.insert.new.self.cache f.core.log c.insert.new.self.log f.slots.items c.fill.new.slots.items c.args.client c.args.slot c.refused.result c.in-Some.sealed c.in-Err.field-0.refusal
    c.refused.ensures.ok is c.in-Err.ensures.why same))

pub returns-in-Err-clause-err : goal.returns-in-Err-clause-err
returns-in-Err-clause-err g c =
    let f = c.self.inside in
    let is = sym c.in_ok-sealed.ensures.ok ∙ c.in-Some.is in
    let back = put-back f.slots.items c.take_sealed.new.slots.items c.fill.new.slots.items c.args.slot c.in-Some.sealed c.in-Err.field-0.sealed is c.in_ok-sealed.ensures.slots c.in-Err.ensures.sealed_returned c.fill.ensures in
    rw (← c.self.view_is) (waits-err c.refused.result _ _
    (back-is f.window f.failures f.results.results f.core.cache c.insert.new.self.cache f.core.log c.insert.new.self.log f.slots.items c.fill.new.slots.items (λ i. (c.in-Err.ensures.err i).cache) (λ i. (c.in-Err.ensures.err i).log) back))
