use Rattle.std.proofs.Common.{◌≡◌, ℕ, false, List, [], ◌∷◌, Option, Some, None, refl, ap, subst, ◌∙◌}
use Rattle.std.specs.Prelude.{map, not, is_some}
use Rattle.hc_client_records.specs.Records.{Record, Reconciled}
use Rattle.example_service.proofs.sharing.judge.Goals as goal

-- what a client recorded is its record
as_they_are : (records : List Record) → map (λ (r : Record). r) records ≡ records
as_they_are [] = refl
as_they_are (r ∷ records) = ap (λ (rest : List Record). r ∷ rest) (as_they_are records)

no_lie : (lie : Option ℕ) → is_some lie ≡ false → lie ≡ None
no_lie None is = refl
no_lie (Some place) is = absurd cc

pub returns-in-Ok : goal.returns-in-Ok
returns-in-Ok c = (c.in-Ok.report.log.items, c.in-Ok.ensures.legal (no_lie _ (c.is_none.ensures ∙ ap not c.if-is_none.true)), subst (Reconciled c.in-Ok.report.log.items) (as_they_are c.args.clients.now) c.in-Ok.ensures.agrees, c.in-Ok.ensures.stats)
