use Rattle.std.proofs.Common.{◌≡◌, ◌++◌, ◌∙◌, List, ℕ, [], drop, refl, sym, ap, arith, append-nil}
use Rattle.std.proofs.lemmas.Result.{IfOk-from_err}
use Rattle.std.proofs.lemmas.List.{drop_all}
use Rattle.std.specs.List.{concat}
use Rattle.hc_block.proofs.came.push_pages.Goals as goal

pub bounds-pages-page-index : goal.bounds-pages-page-index
bounds-pages-page-index g c = c.loop-page-test.true

pub loop-page-init : goal.loop-page-init
loop-page-init g c = refl

pub loop-page-smaller : goal.loop-page-smaller
loop-page-smaller g c = omega (arith, c.loop-page-test.true)

pub returns : goal.returns
returns g c =
    let walked : drop c.loop-page.page-index c.args.pages.now ≡ [] = drop_all c.loop-page.page-index c.args.pages.now (omega (arith, c.loop-page-test.false)) in
    sym (append-nil c.loop-page.bytes.items) ∙ ap (λ (pages : List (List ℕ)). c.loop-page.bytes.items ++ concat pages) (sym walked) ∙ c.loop-page.invariant

pub returns-in_err-extend_from_slice : goal.returns-in_err-extend_from_slice
returns-in_err-extend_from_slice g c = IfOk-from_err c.from_residual.result _ c.from_residual.ensures.0
