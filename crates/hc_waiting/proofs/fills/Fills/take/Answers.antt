-- A job brings the key.
use Rattle.std.proofs.Common.{◌∙◌, ap, sym}
use Rattle.hc_waiting.specs.Line.{with_value, taken_key}
use Rattle.hc_waiting.proofs.Filling.{take_stays, take_takes, none_there, none_takes}
use Rattle.hc_waiting.proofs.Led.{take_led, none_led}
use Rattle.hc_waiting.proofs.fills.Fills.take.Goals as goal

pub invariant_of-self : goal.invariant_of-self
invariant_of-self g c =
    let i = c.self.invariant in (
      i.0,
      i.1,
      i.2,
      take_stays c.self.inside.flash c.args.key.now c.args.number c.nothing.result c.brought_by.result c.self.inside.line.pieces c.mark.new.self.pieces (c.mark.ensures.pieces ∙ ap (taken_key _) (c.replace-in-Some.ensures.pieces ∙ ap (with_value _ _) c.replace.ensures.pieces)) c.brought_by.ensures.job i.3,
      take_led c.self.inside.keys c.lead.new.keys c.args.key.now c.args.copy c.args.number c.nothing.result c.brought_by.result c.in-Some.bringing c.self.inside.line.pieces c.mark.new.self.pieces c.is_sound.ensures (sym c.replace.ensures.old ∙ c.in-Some.is) (c.mark.ensures.pieces ∙ ap (taken_key _) (c.replace-in-Some.ensures.pieces ∙ ap (with_value _ _) c.replace.ensures.pieces)) c.brought_by.ensures.waiters c.brought_by.ensures.job c.requires.copy (rw (← c.self.view_is) at c.requires.free) (rw (← c.self.view_is) at c.requires.fresh) c.lead.ensures.leads i.4,
    )

pub invariant_of-self-in-None : goal.invariant_of-self-in-None
invariant_of-self-in-None g c = let i = c.self.invariant in (i.0, i.1, i.2, none_there c.self.inside.flash c.args.key.now c.nothing.result c.self.inside.line.pieces c.replace.new.self.pieces (sym c.replace.ensures.old ∙ c.in-None.is) c.replace.ensures.pieces i.3, none_led c.self.inside.keys c.args.key.now c.nothing.result c.self.inside.line.pieces c.replace.new.self.pieces (sym c.replace.ensures.old ∙ c.in-None.is) c.replace.ensures.pieces i.4)

pub returns-in-Some-clause-fills : goal.returns-in-Some-clause-fills
returns-in-Some-clause-fills g c =
    rw (← c.self.view_is) (take_takes c.args.key.now c.args.number c.nothing.result c.brought_by.result c.in-Some.bringing c.self.inside.line.pieces c.mark.new.self.pieces c.is_sound.ensures (sym c.replace.ensures.old ∙ c.in-Some.is) (c.mark.ensures.pieces ∙ ap (taken_key _) (c.replace-in-Some.ensures.pieces ∙ ap (with_value _ _) c.replace.ensures.pieces)) c.brought_by.ensures.waiters c.brought_by.ensures.job)

pub returns-in-None-clause-fills : goal.returns-in-None-clause-fills
returns-in-None-clause-fills g c = rw (← c.self.view_is) (none_takes c.args.key.now c.args.number c.nothing.result c.self.inside.line.pieces c.replace.new.self.pieces (sym c.replace.ensures.old ∙ c.in-None.is) c.replace.ensures.pieces)
