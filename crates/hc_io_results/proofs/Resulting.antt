-- Results that wait, as a map has them.
use Rattle.std.proofs.Common.{◌≡◌, ℕ, ◌==◌, nat_eq, Bool, true, false, List, [], ◌∷◌, Option, Some, None, option_map, refl, ap, sym, ◌∙◌, arith, cond}
use Rattle.std.specs.Prelude.{if◌then◌else◌, is_some}
use Rattle.std.specs.Borrow.{Bor}
use Rattle.std.specs.Map.{lookup}
use Rattle.std.specs.Option.{option_copied}
use Rattle.hc_flash.specs.declared.operation.IoResult.{IoResult}
use Rattle.hc_flash.specs.Seen.{result_of}
use Rattle.hc_engines.specs.Engine as engine
use Rattle.hc_machine.specs.World.{result_at}
use Rattle.hc_io_results.specs.Waiting.{results_of}

module _ {A : Type 0} where
  pub seen-at : (job : ℕ) (entries : List (ℕ × IoResult A)) → result_at job (results_of entries) ≡ option_map result_of (lookup (nat_eq job) entries)
  seen-at job [] = refl
  seen-at job (e ∷ entries) = go (e.0 == job) (nat_eq job e.0) refl refl (seen-at job entries)
    where
      go : (here there : Bool) → (e.0 == job) ≡ here → nat_eq job e.0 ≡ there → result_at job (results_of entries) ≡ option_map result_of (lookup (nat_eq job) entries)
          → (if here then Some (result_of e.1) else result_at job (results_of entries)) ≡ option_map result_of (cond there (Some e.1) (lookup (nat_eq job) entries))
      go true true a b rest = refl
      go true false a b rest = absurd (let yes : nat_eq job e.0 ≡ true = grind (arith, a) in cc)
      go false true a b rest = absurd (let yes : (e.0 == job) ≡ true = grind (arith, b) in cc)
      go false false a b rest = rest

  -- what is lent of a map
  pub lent-at : (o : Option (Bor (IoResult A))) (found : Option (IoResult A)) (result : Option engine.IoResult) → option_copied o ≡ found → result ≡ option_map result_of found → option_map (λ (r : Bor (IoResult A)). result_of r.now) o ≡ result
  lent-at None found result is at = ap (option_map result_of) is ∙ sym at
  lent-at (Some r) found result is at = ap (option_map result_of) is ∙ sym at

  by_test : (t : Bool) (w : Option (IoResult A)) (rest : Option (IoResult A)) → option_map result_of (cond t w rest) ≡ (if t then option_map result_of w else option_map result_of rest)
  by_test true w rest = refl
  by_test false w rest = refl

  -- one changes
  pub set-at : (job every : ℕ) (old new : List (ℕ × IoResult A)) (w : Option (IoResult A)) → lookup (nat_eq every) new ≡ cond (nat_eq job every) w (lookup (nat_eq every) old)
      → result_at every (results_of new) ≡ (if job == every then option_map result_of w else result_at every (results_of old))
  set-at job every old new w is =
      seen-at every new ∙ ap (option_map result_of) is ∙ by_test (job == every) w (lookup (nat_eq every) old) ∙ ap (λ (o : Option engine.IoResult). if job == every then option_map result_of w else o) (sym (seen-at every old))

  -- none does
  pub same-at : (every : ℕ) (old new : List (ℕ × IoResult A)) → lookup (nat_eq every) new ≡ lookup (nat_eq every) old → result_at every (results_of new) ≡ result_at every (results_of old)
  same-at every old new is = seen-at every new ∙ ap (option_map result_of) is ∙ sym (seen-at every old)

  -- whether it is there
  pub has-at : (job : ℕ) (entries : List (ℕ × IoResult A)) (has : Bool) → has ≡ is_some (lookup (nat_eq job) entries) → has ≡ is_some (result_at job (results_of entries))
  has-at job entries has is = is ∙ go (lookup (nat_eq job) entries) ∙ sym (ap (λ (o : Option engine.IoResult). is_some o) (seen-at job entries))
    where
      go : (o : Option (IoResult A)) → is_some o ≡ is_some (option_map result_of o)
      go None = refl
      go (Some r) = refl
