use Rattle.std.proofs.Common.{◌≡◌, ◌+◌, false, sym, ap, ◌∙◌, subst, arith}
use Rattle.std.specs.Prelude.{ℕ, [], ◌∷◌, option_to_list}
use Rattle.hc_history.specs.Note.{End}
use Rattle.hc_history.specs.Told.{kind_of, told_more}
use Rattle.hc_machine.specs.Cache.{Cache}
use Rattle.hc_machine.specs.Calls.{must_wait}
use Rattle.hc_state.specs.find.Answer.{reply_by, told_did}
use Rattle.hc_state.specs.Whole.{Whole, nvm_of}
use Rattle.hc_state.proofs.find.Looks.{found-log}
use Rattle.hc_state.proofs.find.Steps.{reply_now, now-step}
use Rattle.hc_state.proofs.state.State.find_now.Goals as goal

pub returns-clause-ok : goal.returns-clause-ok
returns-clause-ok g c =
    let f = c.self.inside in
    let key = c.args.key.now in
    let cache : Cache = record { config = f.config; memory = f.pools; now = f.clock; calls = f.calls; owed = f.replies; nvm = nvm_of f.nvm } in
    let plan = c.in_ok-plan.plan in
    let e = c.in_ok-plan.ensures in
    let pools = c.in-Ok.ensures.pools in
    let number : c.args.call ≡ cache.calls + 1 = c.requires.call ∙ ap (λ (w : Whole). w.cache.calls + 1) (sym c.self.view_is) in
    let here : must_wait cache key ≡ false = subst (λ (w : Whole). must_wait w.cache key ≡ false) (sym c.self.view_is) c.requires.now in
    let log = found-log (g.N.Listener.told f.notes) (g.N.Listener.told c.room_for_notes.new.notes) (g.N.Listener.told c.tell_find.new.notes) plan.begin plan.did c.args.call c.args.client key (reply_now key cache) c.kind_by-kind.result
    c.in_ok-room_for_notes.ensures.same e.begin e.did (c.kind_by-kind.ensures ∙ ap kind_of c.in-Ok.ensures.value)
    (c.tell_find.ensures.told ∙ ap (λ (n : ℕ). told_more (told_did (told_more (g.N.Listener.told c.room_for_notes.new.notes) (option_to_list plan.begin)) plan.did c.kind_by-kind.result) (End n ∷ [])) e.call) in
    rw (← c.self.view_is, c.found_by.ensures) (now-step c.args.client c.args.call key (reply_by c.in-Ok.found) _ _ number here c.in-Ok.ensures.value (λ i. record {
      config = f.config;
      memory = pools i;
      now = f.clock;
      calls = c.args.call;
      owed = f.replies;
      nvm = nvm_of f.nvm;
    }) log (omega (arith, c.in_ok-room_for_notes.ensures.room, c.tell_find.ensures.room)))
