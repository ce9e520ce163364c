use Rattle.std.proofs.Common.{List, arith, ap, sym, subst, ◌∙◌}
use Rattle.hc_machine.specs.Cache.{Owed}
use Rattle.hc_waiting.specs.Replies.{owed_by, owed_of, AreBefore, AreReady}
use Rattle.hc_waiting.proofs.Owing.{anew-is}
use Rattle.std.proofs.lemmas.List.{length-map}
use Rattle.hc_waiting.proofs.Readied.{awaited}
use Rattle.hc_waiting.proofs.replies.Replies.expect.Goals as goal

pub invariant_of-self-in-Ok : goal.invariant_of-self-in-Ok
invariant_of-self-in-Ok g c =
    let before = subst (λ (owed : List Owed). AreBefore c.args.call owed) (sym c.self.view_is) c.requires in
    let more = ap owed_of c.in-Ok.ensures.entries ∙ anew-is c.args.call c.self.inside.owed.entries before in
    let room = c.in_ok-reserve.ensures.ok in
    let places = c.in-Some.ensures in
    let many = c.len.ensures.len in
    let all = length-map c.self.inside.owed.entries owed_by in
    subst (λ (owed : List Owed). AreReady owed c.reserve.new.self) (sym more) (awaited c.args.call _ c.self.inside.ready c.reserve.new.self c.self.invariant c.in_ok-reserve.ensures.keys (omega (arith, room, places, many, all)))

pub returns-in-Ok-clause-ok : goal.returns-in-Ok-clause-ok
returns-in-Ok-clause-ok g c =
    let before = subst (λ (owed : List Owed). AreBefore c.args.call owed) (sym c.self.view_is) c.requires in
    rw (← c.self.view_is) (ap owed_of c.in-Ok.ensures.entries ∙ anew-is c.args.call c.self.inside.owed.entries before)
