use Rattle.std.proofs.Common.{sym, subst, ◌∙◌}
use Rattle.hc_waiting.specs.Replies.{owed_of, IsNextReply}
use Rattle.hc_waiting.proofs.Readied.{next_is}
use Rattle.hc_waiting.proofs.replies.Replies.next.Goals as goal

pub returns : goal.returns
returns g c = rw (← c.self.view_is) (subst (IsNextReply (owed_of c.self.inside.owed.entries)) (sym (c.copied.ensures ∙ c.first.ensures.key)) (next_is _ c.self.inside.ready c.self.invariant))
