use Rattle.std.proofs.Common.{◌≡◌, ◌+◌, ◌∙◌, ℕ, List, refl, ap, arith}
use Rattle.std.proofs.lemmas.Result.{IfOk-from_err, MatchResult-from_err}
use Rattle.hc_engines.specs.Engine.{Write}
use Rattle.hc_engines.specs.large.Region.{Region, region_at, next_page, page_no, page_done}
use Rattle.hc_engines.specs.large.Block.{Writing, job_added, without_job}
use Rattle.hc_block.proofs.writes.write_more.Goals as goal

pub page_after_at-requires-clause-page : goal.page_after_at-requires-clause-page
page_after_at-requires-clause-page g c = c.requires.page

pub page_after_at-requires-clause-there : goal.page_after_at-requires-clause-there
page_after_at-requires-clause-there g c = rw c.deref-2.ensures.value c.requires.there

pub page_number-page-requires-clause-buckets : goal.page_number-page-requires-clause-buckets
page_number-page-requires-clause-buckets g c = c.requires.buckets

pub page_number-page-requires-clause-region : goal.page_number-page-requires-clause-region
page_number-page-requires-clause-region g c = c.requires.small

pub page_number-page-requires-clause-region_pages : goal.page_number-page-requires-clause-region_pages
page_number-page-requires-clause-region_pages g c = c.requires.region_pages

pub page_number-page-requires-clause-small : goal.page_number-page-requires-clause-small
page_number-page-requires-clause-small g c = rw (c.written_at.ensures, c.deref.ensures.value) (omega (arith, c.requires.written))

pub returns-clause-err_jobs : goal.returns-clause-err_jobs
returns-clause-err_jobs g c = tt

pub returns-clause-err_regions : goal.returns-clause-err_regions
returns-clause-err_regions g c = tt

pub returns-clause-jobs : goal.returns-clause-jobs
returns-clause-jobs g c =
    let sent : c.in_ok-copy.copy ≡ next_page c.args.flash.now (page_done c.args.flash.now (region_at c.args.r c.args.regions.now.items)) = c.in_ok-copy.ensures.cases ∙ c.in_ok-bytes.ensures ∙ ap (λ (rs : List Region). next_page c.args.flash.now (page_done c.args.flash.now (region_at c.args.r rs))) c.deref-2.ensures.value in
    c.replace.ensures ∙ ap (λ (page : List ℕ). job_added c.args.number (Writing c.args.r page) (without_job c.args.number c.args.jobs.now)) sent

pub returns-clause-order : goal.returns-clause-order
returns-clause-order g c =
    let number : c.page_number-page.result ≡ page_no c.args.flash.now c.args.r ((region_at c.args.r c.args.regions.now.items).written + 1) = c.page_number-page.ensures ∙ ap (λ (n : ℕ). page_no c.args.flash.now c.args.r (n + 1)) (c.written_at.ensures ∙ ap (λ (rs : List Region). (region_at c.args.r rs).written) c.deref.ensures.value) in
    let sent : c.in_ok-shared.shared ≡ next_page c.args.flash.now (page_done c.args.flash.now (region_at c.args.r c.args.regions.now.items)) = c.in_ok-shared.ensures ∙ c.in_ok-bytes.ensures ∙ ap (λ (rs : List Region). next_page c.args.flash.now (page_done c.args.flash.now (region_at c.args.r rs))) c.deref-2.ensures.value in
    λ i. Write (number i) (sent i)

pub returns-clause-regions : goal.returns-clause-regions
returns-clause-regions g c = c.settle_at.ensures

pub returns-in_err-bytes-clause-err_jobs : goal.returns-in_err-bytes-clause-err_jobs
returns-in_err-bytes-clause-err_jobs g c = MatchResult-from_err c.from_residual.result _ _ c.from_residual.ensures.0 (λ _. refl)

pub returns-in_err-bytes-clause-err_regions : goal.returns-in_err-bytes-clause-err_regions
returns-in_err-bytes-clause-err_regions g c = MatchResult-from_err c.from_residual.result _ _ c.from_residual.ensures.0 (λ _. refl)

pub returns-in_err-bytes-clause-jobs : goal.returns-in_err-bytes-clause-jobs
returns-in_err-bytes-clause-jobs g c = IfOk-from_err c.from_residual.result _ c.from_residual.ensures.0

pub returns-in_err-bytes-clause-order : goal.returns-in_err-bytes-clause-order
returns-in_err-bytes-clause-order g c = IfOk-from_err c.from_residual.result _ c.from_residual.ensures.0

pub returns-in_err-bytes-clause-regions : goal.returns-in_err-bytes-clause-regions
returns-in_err-bytes-clause-regions g c = IfOk-from_err c.from_residual.result _ c.from_residual.ensures.0

pub returns-in_err-copy-clause-err_jobs : goal.returns-in_err-copy-clause-err_jobs
returns-in_err-copy-clause-err_jobs g c = MatchResult-from_err c.from_residual-in_err-copy.result _ _ c.from_residual-in_err-copy.ensures.0 (λ _. refl)

pub returns-in_err-copy-clause-err_regions : goal.returns-in_err-copy-clause-err_regions
returns-in_err-copy-clause-err_regions g c = MatchResult-from_err c.from_residual-in_err-copy.result _ _ c.from_residual-in_err-copy.ensures.0 (λ _. refl)

pub returns-in_err-copy-clause-jobs : goal.returns-in_err-copy-clause-jobs
returns-in_err-copy-clause-jobs g c = IfOk-from_err c.from_residual-in_err-copy.result _ c.from_residual-in_err-copy.ensures.0

pub returns-in_err-copy-clause-order : goal.returns-in_err-copy-clause-order
returns-in_err-copy-clause-order g c = IfOk-from_err c.from_residual-in_err-copy.result _ c.from_residual-in_err-copy.ensures.0

pub returns-in_err-copy-clause-regions : goal.returns-in_err-copy-clause-regions
returns-in_err-copy-clause-regions g c = IfOk-from_err c.from_residual-in_err-copy.result _ c.from_residual-in_err-copy.ensures.0

pub returns-in_err-shared-clause-err_jobs : goal.returns-in_err-shared-clause-err_jobs
returns-in_err-shared-clause-err_jobs g c = MatchResult-from_err c.from_residual-in_err-shared.result _ _ c.from_residual-in_err-shared.ensures.0 (λ _. refl)

pub returns-in_err-shared-clause-err_regions : goal.returns-in_err-shared-clause-err_regions
returns-in_err-shared-clause-err_regions g c = MatchResult-from_err c.from_residual-in_err-shared.result _ _ c.from_residual-in_err-shared.ensures.0 (λ _. refl)

pub returns-in_err-shared-clause-jobs : goal.returns-in_err-shared-clause-jobs
returns-in_err-shared-clause-jobs g c = IfOk-from_err c.from_residual-in_err-shared.result _ c.from_residual-in_err-shared.ensures.0

pub returns-in_err-shared-clause-order : goal.returns-in_err-shared-clause-order
returns-in_err-shared-clause-order g c = IfOk-from_err c.from_residual-in_err-shared.result _ c.from_residual-in_err-shared.ensures.0

pub returns-in_err-shared-clause-regions : goal.returns-in_err-shared-clause-regions
returns-in_err-shared-clause-regions g c = IfOk-from_err c.from_residual-in_err-shared.result _ c.from_residual-in_err-shared.ensures.0

pub settle_at-requires-clause-page : goal.settle_at-requires-clause-page
settle_at-requires-clause-page g c = c.requires.page

pub settle_at-requires-clause-there : goal.settle_at-requires-clause-there
settle_at-requires-clause-there g c = c.requires.there

pub settle_at-requires-clause-written : goal.settle_at-requires-clause-written
settle_at-requires-clause-written g c = omega (arith, c.requires.written)
