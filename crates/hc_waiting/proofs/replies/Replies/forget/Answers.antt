use Rattle.std.proofs.Common.{List, ap, sym, subst, ◌∙◌}
use Rattle.hc_machine.specs.Cache.{Owed}
use Rattle.hc_waiting.specs.Replies.{owed_of, AreReady}
use Rattle.hc_waiting.proofs.Owing.{less-is}
use Rattle.hc_waiting.proofs.Readied.{left}
use Rattle.hc_waiting.proofs.replies.Replies.forget.Goals as goal

pub invariant_of-self : goal.invariant_of-self
invariant_of-self g c =
    let less = ap owed_of c.remove.ensures.entries ∙ less-is c.args.call c.self.inside.owed.entries c.len-len.ensures.ordered in
    subst (λ (all : List Owed). AreReady all c.leave.new.ready) (sym less) (left c.args.call _ c.self.inside.ready _ c.self.invariant c.leave.ensures.calls c.leave.ensures.room)

pub returns : goal.returns
returns g c = rw (← c.self.view_is) (ap owed_of c.remove.ensures.entries ∙ less-is c.args.call c.self.inside.owed.entries c.len-len.ensures.ordered)
