use Rattle.std.specs.Prelude.{◌≡◌, true}
use Rattle.std.proofs.Common.{subst, sym}
use Rattle.hc_memory.specs.Seen.{filled}
use Rattle.hc_history.specs.Note.{Stored}
use Rattle.hc_machine.specs.Cache.{Replied}
use Rattle.hc_state.specs.set.Short.{is_brief, set_step, give_up_step}
use Rattle.hc_core.specs.Logged.{Logged}
use Rattle.hc_core.proofs.Keeping.{set-holds}
use Rattle.hc_core.proofs.Calling.{called-so, calm-or-given}
use Rattle.hc_core.proofs.cache.Core.set_short.Goals as goal

pub set_short-requires : goal.set_short-requires
set_short-requires g c = record {
  structured = c.self.invariant.structured;
  brief = subst (λ (l : Logged). is_brief c.args.key l.log l.cache ≡ true) (sym c.self.view_is) c.requires.brief;
}

pub invariant_of-self : goal.invariant_of-self
invariant_of-self g c =
    let e = c.set_short.ensures in
    set-holds c.args.pool c.args.key (filled c.args.fill) c.args.ttl c.self.inside.state c.set_short.new.self (subst (λ (l : Logged). is_brief c.args.key l.log l.cache ≡ true) (sym c.self.view_is) c.requires.brief) c.self.invariant c.set_short.result e.ok e.err

pub returns-clause-ok : goal.returns-clause-ok
returns-clause-ok g c =
    rw (← c.self.view_is) (called-so (Replied Stored) (set_step c.args.pool c.args.key (filled c.args.fill) c.args.ttl c.self.inside.state.cache) c.self.inside.state c.set_short.new.self c.set_short.result c.set_short.ensures.ok)

pub returns-clause-err : goal.returns-clause-err
returns-clause-err g c =
    rw (← c.self.view_is) (calm-or-given (give_up_step c.args.pool c.args.key (filled c.args.fill) c.args.ttl c.self.inside.state.cache) c.self.inside.state c.set_short.new.self c.set_short.result c.set_short.ensures.err)

pub returns-clause-why : goal.returns-clause-why
returns-clause-why g c = rw (← c.self.view_is) c.set_short.ensures.why
