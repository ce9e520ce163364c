use Rattle.std.proofs.Common.{List, Some, None, arith, ap, not, sym, subst, ◌∙◌}
use Rattle.std.specs.Option.{option_copied_mut}
use Rattle.hc_history.specs.Seen.{reply_of}
use Rattle.hc_machine.specs.Cache.{Owed}
use Rattle.hc_waiting.specs.Replies.{owed_of, AreReady}
use Rattle.hc_waiting.proofs.Owing.{owed_to, with-is, with-none, found-is, answered-is}
use Rattle.hc_waiting.proofs.Readied.{entered, answered_again, with_less}
use Rattle.hc_waiting.proofs.replies.Replies.answer.Goals as goal

pub returns-in_default : goal.returns-in_default
returns-in_default g c =
    let none = found-is c.args.call c.self.inside.owed.entries None (sym c.get_mut.ensures.value ∙ ap option_copied_mut c.in_default.is) in
    rw (← c.self.view_is) (ap (λ m. owed_of m.entries) c.get_mut.follows.holds-at-none ∙ sym (with-none c.args.call (reply_of c.args.reply) (owed_of c.self.inside.owed.entries) none))

pub enter-requires : goal.enter-requires
enter-requires g c =
    let at = found-is c.args.call c.self.inside.owed.entries (Some c.in-Some.place.now) (sym c.get_mut.ensures.value ∙ ap option_copied_mut c.in-Some.is) in
    let waits = sym (answered-is c.args.call c.in-Some.place.now) ∙ c.is_none-waits.ensures ∙ ap not c.if-waits.true in
    let less = with_less c.args.call (reply_of c.args.reply) (owed_of c.self.inside.owed.entries) (owed_to c.args.call c.in-Some.place.now) at waits in
    omega (arith, less, c.self.invariant.room)

pub invariant_of-self-then-waits : goal.invariant_of-self-then-waits
invariant_of-self-then-waits g c =
    let at = found-is c.args.call c.self.inside.owed.entries (Some c.in-Some.place.now) (sym c.get_mut.ensures.value ∙ ap option_copied_mut c.in-Some.is) in
    let waits = sym (answered-is c.args.call c.in-Some.place.now) ∙ c.is_none-waits.ensures ∙ ap not c.if-waits.true in
    let with = ap owed_of (c.get_mut.follows.holds (Some c.args.reply)).0 ∙ with-is c.args.call c.args.reply c.self.inside.owed.entries c.get_mut.ensures.ordered in
    subst (λ (all : List Owed). AreReady all c.enter.new.ready) (sym with)
    (entered c.args.call (reply_of c.args.reply) (owed_of c.self.inside.owed.entries) (owed_to c.args.call c.in-Some.place.now) c.self.inside.ready c.enter.new.ready c.self.invariant at waits c.enter.ensures.calls c.enter.ensures.room)

pub invariant_of-self-else-waits : goal.invariant_of-self-else-waits
invariant_of-self-else-waits g c =
    let at = found-is c.args.call c.self.inside.owed.entries (Some c.in-Some.place.now) (sym c.get_mut.ensures.value ∙ ap option_copied_mut c.in-Some.is) in
    let answered = sym (answered-is c.args.call c.in-Some.place.now) ∙ c.is_none-waits.ensures ∙ ap not c.if-waits.false in
    let with = ap owed_of (c.get_mut.follows.holds (Some c.args.reply)).0 ∙ with-is c.args.call c.args.reply c.self.inside.owed.entries c.get_mut.ensures.ordered in
    subst (λ (all : List Owed). AreReady all c.self.inside.ready) (sym with)
    (answered_again c.args.call (reply_of c.args.reply) (owed_of c.self.inside.owed.entries) (owed_to c.args.call c.in-Some.place.now) c.self.inside.ready c.self.invariant at answered)

pub returns-then-waits : goal.returns-then-waits
returns-then-waits g c = rw (← c.self.view_is) (ap owed_of (c.get_mut.follows.holds (Some c.args.reply)).0 ∙ with-is c.args.call c.args.reply c.self.inside.owed.entries c.get_mut.ensures.ordered)

pub returns-else-waits : goal.returns-else-waits
returns-else-waits g c = rw (← c.self.view_is) (ap owed_of (c.get_mut.follows.holds (Some c.args.reply)).0 ∙ with-is c.args.call c.args.reply c.self.inside.owed.entries c.get_mut.ensures.ordered)
