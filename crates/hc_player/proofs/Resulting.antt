-- A result that was handed in.
use Rattle.std.proofs.Common.{◌≡◌, ℕ, ◌==◌, Bool, true, false, not, List, [], ◌∷◌, Option, Some, None, refl, ap, ◌∙◌, arith}
use Rattle.std.specs.Prelude.{if◌then◌else◌}
use Rattle.hc_engines.specs.Engine as engine
use Rattle.hc_machine.specs.World.{Result, result_at, without_result}

pub result-gone : (job every : ℕ) (results : List Result) → result_at every (without_result job results) ≡ (if job == every then None else result_at every results)
result-gone job every [] = go (job == every)
  where
    go : (t : Bool) → ◌≡◌ {A = Option engine.IoResult} None (if t then None else None)
    go true = refl
    go false = refl
result-gone job every (r ∷ results) = go (r.job == job) (job == every) (r.job == every) refl refl refl (result-gone job every results)
  where
    go : (own asked here : Bool) → (r.job == job) ≡ own → (job == every) ≡ asked → (r.job == every) ≡ here → result_at every (without_result job results) ≡ (if asked then None else result_at every results)
        → result_at every (if not own then r ∷ without_result job results else without_result job results) ≡ (if asked then None else (if here then Some r.result else result_at every results))
    go true true here a b c rest = rest
    go true false true a b c rest = absurd (let no : (job == every) ≡ true = grind (arith, a, c) in cc)
    go true false false a b c rest = rest
    go false true true a b c rest = absurd (let no : (r.job == job) ≡ true = grind (arith, b, c) in cc)
    go false true false a b c rest = ap (λ (t : Bool). if t then Some r.result else result_at every (without_result job results)) c ∙ rest
    go false false here a b c rest = (λ i. if c i then Some r.result else rest i)
