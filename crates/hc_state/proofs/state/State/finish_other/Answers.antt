use Rattle.std.proofs.Common.{None, refl, sym, ap, ◌∙◌, subst, arith}
use Rattle.std.specs.Prelude.{option_map}
use Rattle.hc_flash.specs.Seen.{result_of}
use Rattle.hc_nvm.specs.Filled.{filled_of}
use Rattle.hc_nvm.specs.Seen.{take_of}
use Rattle.hc_state.specs.fill.Plan.{IsEndingIn}
use Rattle.hc_state.specs.Whole.{Whole, nvm_of}
use Rattle.hc_state.proofs.fill.Finishes.{finish-step}
use Rattle.hc_state.proofs.state.State.finish_other.Goals as goal

pub returns-clause-ok : goal.returns-clause-ok
returns-clause-ok g c =
    let number = c.args.number in
    let came = result_of c.args.came in
    let taken = c.in-Ok.taken in
    let e = c.in-Ok.ensures in
    let there = ap nvm_of c.in-Some.is in
    let none = subst (λ o. IsEndingIn number came o None) (sym (ap (λ (w : Whole). w.cache.nvm) c.self.view_is) ∙ there) c.requires.none in
    rw (← c.self.view_is, c.take_of_other.ensures) (finish-step number came c.in-Some.nvm.nvm c.finish.new.self.nvm c.finish.new.pools (take_of taken.take) (option_map filled_of taken.filled) _ _ there none e.ok refl (omega (arith, c.open_charges-spare.ensures.value, e.room)))
