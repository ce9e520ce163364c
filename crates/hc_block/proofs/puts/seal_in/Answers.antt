use Rattle.std.proofs.Common.{◌≡◌, ℕ, false, Option, Some, ◌∙◌, ap, subst}
use Rattle.std.specs.Prelude.{IfSome}
use Rattle.hc_engines.specs.large.Region.{is_clean, region_at}
use Rattle.hc_region.specs.CleanNumbers.{clean_from}
use Rattle.hc_block.proofs.Keeping.{sealed_numbers}
use Rattle.hc_block.proofs.puts.seal_in.Goals as goal

pub returns-in-Some-clause-clean : goal.returns-in-Some-clause-clean
returns-in-Some-clause-clean g c =
    let in_use = subst (λ (o : Option ℕ). IfSome o (λ r. is_clean (region_at r c.args.regions.now.items).status ≡ false)) c.in-Some.is c.requires.in_use in
    ap (clean_from 0) c.seal_at.ensures ∙ sealed_numbers (Some c.in-Some.r) c.args.regions.now.items in_use
