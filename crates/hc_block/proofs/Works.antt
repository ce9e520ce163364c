-- The map's entries as the operations under way.
use Rattle.std.proofs.Common.{◌≡◌, ℕ, Bor, List, [], ◌∷◌, Option, Some, None, true, refl, sym, ap, subst, arith, ◌∙◌}
use Rattle.std.specs.Prelude.{option_map, is_some}
use Rattle.std.specs.Option.{option_copied}
use Rattle.std.specs.Ordering.{nat_cmp}
use Rattle.std.specs.BTreeMap.{is_at, insert_entry}
use Rattle.std.specs.Map.{lookup, remove_entry, set_value, keys_of}
use Rattle.std.specs.List.Sorted.{IsStrictlySortedBy}
use Rattle.hc_engines.specs.large.Block.{Work as Seen, Getting, work_of, without_job, job_added}
use Rattle.hc_block.specs.Works.{work_seen, jobs_of, reading_in, IsReading}
use Rattle.hc_block.specs.declared.jobs.Work.{Work}
use Rattle.hc_block.proofs.Ordered.{others, added, removed, inserted, written}

some_same : (a b : Seen) → Some a ≡ Some b → a ≡ b
some_same a b e = cc

module _ {A : Type 0} where
  pub lent-is : (o : Option (Bor (Work A))) → option_map (λ w. work_seen w.now) o ≡ option_map work_seen (option_copied o)
  lent-is None = refl
  lent-is (Some w) = refl

  pub lookup-is : (number : ℕ) (es : List (ℕ × Work A)) → option_map work_seen (lookup (is_at (nat_cmp number)) es) ≡ work_of number (jobs_of es)
  lookup-is number [] = refl
  lookup-is number (e ∷ es) = grind (arith, lookup-is number es)

  pub found-is : (number : ℕ) (work : Work A) (es : List (ℕ × Work A)) → lookup (is_at (nat_cmp number)) es ≡ Some work → work_of number (jobs_of es) ≡ Some (work_seen work)
  found-is number work es e = sym (lookup-is number es) ∙ ap (option_map work_seen) e

  pub not-missing : (number : ℕ) (es : List (ℕ × Work A)) → is_some (work_of number (jobs_of es)) ≡ true → lookup (is_at (nat_cmp number)) es ≡ None → ⊥
  not-missing number es h e = let none : work_of number (jobs_of es) ≡ None = sym (lookup-is number es) ∙ ap (option_map work_seen) e in let bad : is_some {T = Seen} None ≡ true = (rw none at h) in absurd (cc)

  -- an operation that is a read
  pub read-is : (number : ℕ) (work : Work A) (es : List (ℕ × Work A)) → lookup (is_at (nat_cmp number)) es ≡ Some work → IsReading number (jobs_of es) → work_seen work ≡ Getting (reading_in (Some (work_seen work)))
  read-is number work es e h = some_same (work_seen work) (Getting (reading_in (Some (work_seen work)))) (subst (λ (o : Option Seen). o ≡ Some (Getting (reading_in o))) (found-is number work es e) h)

  without-is : (number : ℕ) (es : List (ℕ × Work A)) → jobs_of (others number es) ≡ without_job number (jobs_of es)
  without-is number [] = refl
  without-is number (e ∷ es) = grind (arith, without-is number es)

  added-is : (number : ℕ) (work : Work A) (es : List (ℕ × Work A)) → jobs_of (added number work es) ≡ job_added number (work_seen work) (jobs_of es)
  added-is number work [] = refl
  added-is number work (e ∷ es) = grind (arith, added-is number work es)

  pub remove-is : (number : ℕ) (es : List (ℕ × Work A)) → IsStrictlySortedBy nat_cmp (keys_of es) → jobs_of (remove_entry (is_at (nat_cmp number)) es) ≡ without_job number (jobs_of es)
  remove-is number es s = ap jobs_of (removed number es s) ∙ without-is number es

  pub insert-is : (number : ℕ) (work : Work A) (es : List (ℕ × Work A)) → IsStrictlySortedBy nat_cmp (keys_of es) → jobs_of (insert_entry nat_cmp es number work) ≡ job_added number (work_seen work) (without_job number (jobs_of es))
  insert-is number work es s = ap jobs_of (inserted number work es s) ∙ added-is number work (others number es) ∙ ap (job_added number (work_seen work)) (without-is number es)

  pub write-is : (number : ℕ) (work was : Work A) (es : List (ℕ × Work A)) → IsStrictlySortedBy nat_cmp (keys_of es) → lookup (is_at (nat_cmp number)) es ≡ Some was
      → jobs_of (set_value (is_at (nat_cmp number)) es work) ≡ job_added number (work_seen work) (without_job number (jobs_of es))
  write-is number work was es s h = ap jobs_of (written number work was es s h) ∙ insert-is number work es s
