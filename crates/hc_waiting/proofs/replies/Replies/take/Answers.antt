use Rattle.std.proofs.Common.{◌≡◌, List, Some, ap, sym, subst, ◌∙◌}
use Rattle.std.specs.Prelude.{option_map}
use Rattle.hc_machine.specs.Cache.{Owed, owed_at}
use Rattle.hc_waiting.specs.Replies.{owed_of, is_answered, AreReady}
use Rattle.hc_waiting.proofs.Owing.{found-is, less-is, not-gone, not-waiting, waits-is}
use Rattle.hc_waiting.proofs.Readied.{left}
use Rattle.hc_waiting.proofs.replies.Replies.take.Goals as goal

pub invariant_of-self : goal.invariant_of-self
invariant_of-self g c =
    let less = ap owed_of c.remove.ensures.entries ∙ less-is c.args.call c.self.inside.owed.entries c.len-len.ensures.ordered in
    subst (λ (all : List Owed). AreReady all c.leave.new.ready) (sym less) (left c.args.call _ c.self.inside.ready _ c.self.invariant c.leave.ensures.calls c.leave.ensures.room)

pub unreachable-requires : goal.unreachable-requires
unreachable-requires g c =
    let ready = subst (λ (owed : List Owed). Some c.in-Some-true.field-0 ≡ option_map is_answered (owed_at c.args.call owed)) (sym c.self.view_is) (sym c.in-Some-true.is ∙ c.is_ready.ensures) in
    not-waiting c.args.call c.self.inside.owed.entries c.in-Some-true.field-0 c.in-Some-true.field-0-test ready (sym c.remove.ensures.value ∙ c.in-Some-None.is ∙ ap (λ r. Some r) c.in-Some-None.field-0-is)

pub unreachable-requires-in-None-remove : goal.unreachable-requires-in-None-remove
unreachable-requires-in-None-remove g c =
    let ready = subst (λ (owed : List Owed). Some c.in-Some-true.field-0 ≡ option_map is_answered (owed_at c.args.call owed)) (sym c.self.view_is) (sym c.in-Some-true.is ∙ c.is_ready.ensures) in
    not-gone c.args.call c.self.inside.owed.entries c.in-Some-true.field-0 c.in-Some-true.field-0-test ready (sym c.remove.ensures.value ∙ c.in-None-remove.is)

pub returns-in-Some-Some-clause-ok : goal.returns-in-Some-Some-clause-ok
returns-in-Some-Some-clause-ok g c =
    rw (← c.self.view_is) (found-is c.args.call c.self.inside.owed.entries (Some (Some c.in-Some-Some.reply)) (sym c.remove.ensures.value ∙ c.in-Some-Some.is ∙ ap (λ r. Some r) c.in-Some-Some.field-0-is))

pub returns-in-Some-Some-clause-left : goal.returns-in-Some-Some-clause-left
returns-in-Some-Some-clause-left g c = rw (← c.self.view_is) (ap owed_of c.remove.ensures.entries ∙ less-is c.args.call c.self.inside.owed.entries c.len-len.ensures.ordered)

pub returns-in-Some-false-clause-waits : goal.returns-in-Some-false-clause-waits
returns-in-Some-false-clause-waits g c =
    let ready = subst (λ (owed : List Owed). Some c.in-Some-false.field-0 ≡ option_map is_answered (owed_at c.args.call owed)) (sym c.self.view_is) (sym c.in-Some-false.is ∙ c.is_ready.ensures) in
    λ e. rw (← c.self.view_is) (waits-is c.args.call c.self.inside.owed.entries c.in-Some-false.field-0 c.in-Some-false.field-0-test ready)
