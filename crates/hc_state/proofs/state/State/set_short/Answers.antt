use Rattle.std.proofs.Common.{sym, ap, ◌∙◌, subst}
use Rattle.std.specs.Prelude.{is_some}
use Rattle.hc_types.specs.Charge.{charge_of}
use Rattle.hc_memory.specs.Sound.{Sound}
use Rattle.hc_memory.specs.Seen.{filled}
use Rattle.hc_machine.specs.items.Allocating.{expiry_of}
use Rattle.hc_machine.specs.Cache.{Cache}
use Rattle.hc_state.specs.Whole.{Whole}
use Rattle.hc_state.proofs.set.Sets.{SetSteps, left-roomy, next-number, note-fits, set-over}
use Rattle.hc_state.proofs.set.Supersedes.{brief-plain, short-over}
use Rattle.hc_state.proofs.state.State.set_short.Goals as goal

pub put_planned-requires : goal.put_planned-requires
put_planned-requires g c =
    let value = filled c.args.fill in
    let want = c.charge-want.result in
    let expiry = c.expiry_after-expiry.result in
    let plan = c.in_ok-plan.plan in
    let e = c.in_ok-plan.ensures in
    let steps : SetSteps c.args.pool c.args.key value c.args.ttl want expiry plan c.args.self.now c.plan_to_set.new.self c.make_way.new.self = record {
      stays = e.same;
      plain = brief-plain c.args.key c.args.self.now.log c.args.self.now.cache c.requires.brief (ap (λ (k : Cache). is_some k.nvm) (sym e.same.cache) ∙ sym c.has_flash.ensures ∙ c.if-has_flash.false);
      fits = e.fits;
      sound = subst (λ (w : Whole). Sound w.cache.memory.pools w.cache.memory.charges w.cache.memory.made) c.self.view_is c.len-sound.ensures.sound;
      planned = e.ok;
      want_is = c.charge-want.ensures ∙ ap (charge_of c.args.key) c.len.ensures;
      expiry_is = c.expiry_after-expiry.ensures ∙ ap (λ (w : Whole). expiry_of w.cache.now c.args.ttl) c.self.view_is;
      way = c.make_way.ensures;
    } in
    let roomy = left-roomy c.args.pool c.args.key value c.args.ttl want expiry plan c.args.self.now c.plan_to_set.new.self c.make_way.new.self steps in
    record {
      number = next-number c.args.pool c.args.key value c.args.ttl want expiry plan c.args.self.now c.plan_to_set.new.self c.make_way.new.self steps;
      pool = roomy.within;
      room = roomy.room;
      none = roomy.none;
      notes = note-fits c.args.pool c.args.key value c.args.ttl want expiry plan c.args.self.now c.plan_to_set.new.self c.make_way.new.self steps;
    }

pub returns : goal.returns
returns g c =
    let value = filled c.args.fill in
    let want = c.charge-want.result in
    let expiry = c.expiry_after-expiry.result in
    let plan = c.in_ok-plan.plan in
    let e = c.in_ok-plan.ensures in
    let steps : SetSteps c.args.pool c.args.key value c.args.ttl want expiry plan c.args.self.now c.plan_to_set.new.self c.make_way.new.self = record {
      stays = e.same;
      plain = brief-plain c.args.key c.args.self.now.log c.args.self.now.cache c.requires.brief (ap (λ (k : Cache). is_some k.nvm) (sym e.same.cache) ∙ sym c.has_flash.ensures ∙ c.if-has_flash.false);
      fits = e.fits;
      sound = subst (λ (w : Whole). Sound w.cache.memory.pools w.cache.memory.charges w.cache.memory.made) c.self.view_is c.len-sound.ensures.sound;
      planned = e.ok;
      want_is = c.charge-want.ensures ∙ ap (charge_of c.args.key) c.len.ensures;
      expiry_is = c.expiry_after-expiry.ensures ∙ ap (λ (w : Whole). expiry_of w.cache.now c.args.ttl) c.self.view_is;
      way = c.make_way.ensures;
    } in
    let over = set-over c.args.pool c.args.key value c.args.ttl want expiry plan c.args.self.now c.plan_to_set.new.self c.make_way.new.self steps c.put_planned.result c.put_planned.new.self c.put_planned.ensures.ok c.put_planned.ensures.err c.put_planned.ensures.why in
    record { ok = over.ok; err = over.err; why = over.why }
