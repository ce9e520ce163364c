use Rattle.std.proofs.Common.{not, sym, ap, ◌∙◌, subst}
use Rattle.std.specs.Prelude.{is_some}
use Rattle.hc_machine.specs.Cache.{Cache}
use Rattle.hc_invariant.specs.Structure.{Structured}
use Rattle.hc_state.specs.wait.Begin.{keeps_in}
use Rattle.hc_state.specs.Whole.{Whole, nvm_of}
use Rattle.hc_state.proofs.Stepping.{placed-known, unplaced-unknown}
use Rattle.hc_state.proofs.state.State.is_known.Goals as goal

pub returns-then-is_open : goal.returns-then-is_open
returns-then-is_open g c =
    let f = c.self.inside in
    let cache : Cache = record { config = f.config; memory = f.pools; now = f.clock; calls = f.calls; owed = f.replies; nvm = nvm_of f.nvm } in
    let structured = subst (λ (w : Whole). Structured w.cache) (sym c.self.view_is) c.requires.structured in
    let kept = c.keeps.ensures ∙ (λ i. keeps_in (nvm_of c.self.inside.nvm) (c.key.ensures i) (c.number.ensures i)) in
    rw (← c.self.view_is) (ap not kept ∙ placed-known cache c.args.sealed.now structured (ap is_some (sym c.place_of.ensures) ∙ sym c.if-is_open.ensures))

pub returns-else-is_open : goal.returns-else-is_open
returns-else-is_open g c =
    let f = c.self.inside in
    let cache : Cache = record { config = f.config; memory = f.pools; now = f.clock; calls = f.calls; owed = f.replies; nvm = nvm_of f.nvm } in
    rw (← c.self.view_is) (c.if-is_open.false ∙ sym (unplaced-unknown cache c.args.sealed.now (ap is_some (sym c.place_of.ensures) ∙ sym c.is_some-is_open.ensures ∙ c.if-is_open.false)))
