-- One call more waits.
use Rattle.std.proofs.Common.{◌∙◌, ap, sym}
use Rattle.std.specs.Prelude.{is_some}
use Rattle.hc_waiting.specs.Line.{with_value}
use Rattle.hc_waiting.proofs.Filling.{join_stays, join_joins, join_keeps, valued}
use Rattle.hc_waiting.proofs.Led.{join_led}
use Rattle.hc_waiting.proofs.fills.Fills.join.Goals as goal
use Rattle.hc_waiting.proofs.fills.Fills.join.Goals.{in-Some-refused, in-None-refused}

pub invariant_of-self : goal.invariant_of-self
invariant_of-self g c =
    let i = c.self.invariant in (
      i.0,
      i.1,
      i.2,
      join_stays c.self.inside.flash c.args.key.now c.nothing.result c.with_waiter-bringing.result.bringing c.in-Some.bringing c.self.inside.line.pieces c.replace-in-Some.new.self.pieces c.is_sound.ensures (sym c.replace.ensures.old ∙ c.in-Some.is) (c.replace-in-Some.ensures.pieces ∙ ap (with_value _ _) c.replace.ensures.pieces) c.with_waiter-bringing.ensures.job i.3,
      join_led c.self.inside.keys c.args.key.now c.args.waiter (is_some c.with_waiter-bringing.result.refused) c.nothing.result c.with_waiter-bringing.result.bringing c.in-Some.bringing c.self.inside.line.pieces c.replace-in-Some.new.self.pieces c.is_sound.ensures (sym c.replace.ensures.old ∙ c.in-Some.is) (c.replace-in-Some.ensures.pieces ∙ ap (with_value _ _) c.replace.ensures.pieces) c.with_waiter-bringing.ensures.waiters c.with_waiter-bringing.ensures.job i.4,
    )

pub unreachable-requires : goal.unreachable-requires
unreachable-requires g c = valued c.args.key.now c.self.inside.line.pieces (rw (← c.self.view_is) at c.requires) (sym c.replace.ensures.old ∙ c.in-None.is)

pub returns-clause-ok : goal.returns-clause-ok
returns-clause-ok g c = elim c.match-refused.branch [
  | in-Some-refused w ↦ rw w.result-is tt
  | in-None-refused w ↦ rw (w.result-is, ← c.self.view_is) (join_joins c.args.key.now c.args.waiter c.nothing.result c.with_waiter-bringing.result.bringing c.in-Some.bringing c.self.inside.line.pieces c.replace-in-Some.new.self.pieces c.is_sound.ensures (sym c.replace.ensures.old ∙ c.in-Some.is) (c.replace-in-Some.ensures.pieces ∙ ap (with_value _ _) c.replace.ensures.pieces) (rw w.in-None-refused.is at c.with_waiter-bringing.ensures.waiters) c.with_waiter-bringing.ensures.job)
]

pub returns-clause-err : goal.returns-clause-err
returns-clause-err g c = elim c.match-refused.branch [
  | in-Some-refused w ↦ rw (w.result-is, ← c.self.view_is) (join_keeps c.args.key.now c.nothing.result c.with_waiter-bringing.result.bringing c.in-Some.bringing c.self.inside.line.pieces c.replace-in-Some.new.self.pieces c.is_sound.ensures (sym c.replace.ensures.old ∙ c.in-Some.is) (c.replace-in-Some.ensures.pieces ∙ ap (with_value _ _) c.replace.ensures.pieces) (rw w.in-Some-refused.is at c.with_waiter-bringing.ensures.waiters) c.with_waiter-bringing.ensures.job)
  | in-None-refused w ↦ rw w.result-is tt
]
