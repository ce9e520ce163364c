use Rattle.hc_history.specs.Seen.{reply_of}
use Rattle.hc_machine.specs.Cache.{Replied}
use Rattle.hc_machine.specs.Call.{Replies}
use Rattle.hc_core.proofs.Keeping.{calm-holds}
use Rattle.hc_core.proofs.Calling.{called, calm}
use Rattle.hc_core.proofs.cache.Core.take_reply.Goals as goal

pub take_reply-requires : goal.take_reply-requires
take_reply-requires g c = record { ready = c.self.invariant.ready }

pub invariant_of-self : goal.invariant_of-self
invariant_of-self g c = calm-holds (Replies c.args.call) c.self.inside.state c.take_reply.new.self tt c.self.invariant (λ reply. Replied (reply_of reply)) c.take_reply.result c.take_reply.ensures.ok c.take_reply.ensures.err

pub returns-clause-ok : goal.returns-clause-ok
returns-clause-ok g c = rw (← c.self.view_is) (called (λ reply. Replied (reply_of reply)) _ c.self.inside.state c.take_reply.new.self c.take_reply.result c.take_reply.ensures.ok)

pub returns-clause-err : goal.returns-clause-err
returns-clause-err g c = rw (← c.self.view_is) (calm c.self.inside.state c.take_reply.new.self c.take_reply.result c.take_reply.ensures.err)

pub returns-clause-why : goal.returns-clause-why
returns-clause-why g c = rw (← c.self.view_is) c.take_reply.ensures.why

pub returns-clause-silent : goal.returns-clause-silent
returns-clause-silent g c = rw (← c.self.view_is) c.take_reply.ensures.silent
