use Rattle.std.proofs.Common.{[], ◌∷◌, sym, ap, ◌∙◌, subst}
use Rattle.hc_history.specs.Note.{Freed}
use Rattle.hc_history.specs.Told.{told_more}
use Rattle.hc_machine.specs.Cache.{Cache}
use Rattle.hc_invariant.specs.Structure.{Structured}
use Rattle.hc_state.specs.wait.Begin.{keeps_in}
use Rattle.hc_state.specs.Whole.{Whole, IsReady, nvm_of}
use Rattle.hc_state.proofs.Stepping.{kept-unknown, unknown-refused, discard-step}
use Rattle.hc_state.proofs.state.State.discard_blank.Goals as goal

pub returns-then-keeps-clause-foreign : goal.returns-then-keeps-clause-foreign
returns-then-keeps-clause-foreign g c =
    let f = c.self.inside in
    let cache : Cache = record { config = f.config; memory = f.pools; now = f.clock; calls = f.calls; owed = f.replies; nvm = nvm_of f.nvm } in
    let kept = (λ i. keeps_in (nvm_of f.nvm) (sym c.key.ensures i) (sym c.number.ensures i)) ∙ sym c.keeps.ensures ∙ c.if-keeps.true in
    rw (← c.self.view_is) (unknown-refused cache c.args.blank (kept-unknown cache c.args.blank kept))

pub returns-clause-ok : goal.returns-clause-ok
returns-clause-ok g c =
    let f = c.self.inside in
    let free = (λ i. keeps_in (nvm_of f.nvm) (sym c.key.ensures i) (sym c.number.ensures i)) ∙ sym c.keeps.ensures ∙ c.if-keeps.false in
    let structured = subst (λ (w : Whole). Structured w.cache) (sym c.self.view_is) c.requires.structured in
    let ready = subst IsReady (sym c.self.view_is) c.requires.ready in
    let ok = c.in_ok-charge.ensures.ok in
    let told = c.freed.ensures.told ∙ ap (λ n. told_more (g.N.Listener.told f.notes) (Freed n ∷ [])) c.in_ok-charge.ensures.number in
    rw (← c.self.view_is) (discard-step c.args.blank _ _ structured ready free ok.0 (λ i. record {
      config = f.config;
      memory = ok.1 i;
      now = f.clock;
      calls = f.calls;
      owed = f.replies;
      nvm = nvm_of f.nvm;
    }) told c.freed.ensures.room)
