-- What still fills the slots is given up, one after another.
use Rattle.std.proofs.Common.{◌≡◌, true, ℕ, suc, ◌-◌, ◌≤◌, List, [], ◌∷◌, Option, Some, None, length, sym, arith}
use Rattle.std.specs.Prelude.{IfSome}
use Rattle.hc_memory.specs.Item.{Handle}
use Rattle.hc_history.specs.Told.{Heard, told_more}
use Rattle.hc_history.proofs.Telling.{told-twice, told-nothing}
use Rattle.hc_machine.specs.Cache.{Cache}
use Rattle.hc_machine.specs.Calls.{is_known, discard}
use Rattle.hc_machine.specs.Schedule.{given_up}
use Rattle.hc_run.specs.Slots.{filled_from}
use Rattle.hc_run.specs.Shows.{AreOwn}
use Rattle.hc_run.specs.Ending.{after_give_up, part_of_give_up}
use Rattle.hc_run.proofs.Owning.{first-known, others-own}

module _ (cache : Cache) (n : ℕ) where
  pub given-known : (held : Option Handle) (rest : List (Option Handle)) → AreOwn (filled_from n (held ∷ rest)) cache → IfSome held (λ handle. is_known cache handle ≡ true)
  given-known None rest own = tt
  given-known (Some handle) rest own = first-known (record { number = n; handle = handle }) (filled_from (suc n) rest) cache own

  pub given-own : (held : Option Handle) (rest : List (Option Handle)) → AreOwn (filled_from n (held ∷ rest)) cache → AreOwn (filled_from (suc n) rest) (after_give_up cache held)
  given-own None rest own = own
  given-own (Some handle) rest own = others-own (record { number = n; handle = handle }) (filled_from (suc n) rest) cache own

  pub given-told : (log : Heard) (held : Option Handle) (rest : List (Option Handle))
      → told_more (told_more log (part_of_give_up cache held)) (given_up (filled_from (suc n) rest) (after_give_up cache held)).part ≡ told_more log (given_up (filled_from n (held ∷ rest)) cache).part
  given-told log None rest = told-twice log [] (given_up (filled_from (suc n) rest) cache).part
  given-told log (Some handle) rest = told-twice log (discard handle cache).part (given_up (filled_from (suc n) rest) (discard handle cache).cache).part

pub nothing-left : (cache : Cache) (log : Heard) (n : ℕ) (rest : List (Option Handle)) → length rest ≡ 0 → log ≡ told_more log (given_up (filled_from n rest) cache).part
nothing-left cache log n [] none = sym (told-nothing log)
nothing-left cache log n (held ∷ rest) none = absurd (omega (arith, none))

-- the number of the first that is left, of 256
pub next-number : (held : Option Handle) (rest : List (Option Handle)) → length (held ∷ rest) ≤ 256 → suc (256 - length (held ∷ rest)) ≡ 256 - length rest
next-number held rest most = omega (arith, most)
