use Rattle.std.proofs.Common.{ap, sym, ◌∙◌}
use Rattle.std.specs.Option.{option_copied}
use Rattle.hc_waiting.proofs.Owing.{ready-is, unready-is}
use Rattle.hc_waiting.proofs.replies.Replies.is_ready.Goals as goal

pub returns-in-Some : goal.returns-in-Some
returns-in-Some g c = rw (← c.self.view_is, c.is_some.ensures) (ready-is c.args.call c.self.inside.owed.entries c.in-Some.reply.now (sym c.get.ensures.value ∙ ap option_copied c.in-Some.is))

pub returns-in-None : goal.returns-in-None
returns-in-None g c = rw (← c.self.view_is) (unready-is c.args.call c.self.inside.owed.entries (sym c.get.ensures.value ∙ ap option_copied c.in-None.is))
