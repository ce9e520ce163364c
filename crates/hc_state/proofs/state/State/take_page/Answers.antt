use Rattle.std.proofs.Common.{None, Some, refl, sym, ap, ◌∙◌, subst, arith}
use Rattle.std.specs.Prelude.{option_map}
use Rattle.hc_nvm.specs.Filled.{filled_of}
use Rattle.hc_nvm.specs.Seen.{take_of}
use Rattle.hc_state.specs.fill.Plan.{IsEndingAtOnceIn, IsNextIn}
use Rattle.hc_state.specs.Whole.{Whole, nvm_of}
use Rattle.hc_state.proofs.fill.Finishes.{filler-step}
use Rattle.hc_state.proofs.state.State.take_page.Goals as goal

pub filler_take-requires : goal.filler_take-requires
filler_take-requires g c =
    let next = subst (λ o. IsNextIn o (Some c.args.key.now)) (sym (ap (λ (w : Whole). w.cache.nvm) c.self.view_is) ∙ ap nvm_of c.in-Some.is) c.requires.next in
    record { next = sym next.0; there = next.1 }

pub returns-clause-ok : goal.returns-clause-ok
returns-clause-ok g c =
    let taken = c.in_ok-taken.taken in
    let e = c.in_ok-taken.ensures in
    let there = ap nvm_of c.in-Some.is in
    let none = subst (λ o. IsEndingAtOnceIn o None) (sym (ap (λ (w : Whole). w.cache.nvm) c.self.view_is) ∙ there) c.requires.none in
    rw (← c.self.view_is, c.take_of_other.ensures) (filler-step c.in-Some.nvm.nvm c.filler_take.new.self.nvm c.filler_take.new.pools (take_of taken.take) (option_map filled_of taken.filled) _ _ there none e.ok refl (omega (arith, c.open_charges-spare.ensures.value, e.room)))
