use Rattle.std.proofs.Common.{◌≡◌, ◌<◌, ◌-◌, ◌++◌, ◌∙◌, ℕ, List, [], replicate, refl, sym, ap, arith, append-nil}
use Rattle.std.proofs.lemmas.Result.{IfOk-from_err}
use Rattle.hc_engines.specs.large.Index.{Indexed}
use Rattle.hc_block.proofs.Segments.{one_more}
use Rattle.hc_block.proofs.index.empty_segments.Goals as goal

pub loop-preserved : goal.loop-preserved
loop-preserved g c = let below : c.loop.counter < c.args.n = omega (arith, c.loop-test.true) in rw (c.in_ok-push.ensures.items, c.new.ensures) (one_more c.loop.segments.items c.args.n c.loop.counter below ∙ c.loop.invariant)

pub loop-init : goal.loop-init
loop-init g c = let all : c.args.n - 0 ≡ c.args.n = omega arith in rw (c.in_ok-segments.ensures.items, all) refl

pub loop-smaller : goal.loop-smaller
loop-smaller g c = omega (arith, c.loop-test.true)

pub returns : goal.returns
returns g c =
    let none : c.args.n - c.loop.counter ≡ 0 = omega (arith, c.loop-test.false) in
    let segments : List (List Indexed) = c.loop.segments.items in
    sym (append-nil segments) ∙ ap (λ (k : ℕ). segments ++ replicate {A = List Indexed} k []) (sym none) ∙ c.loop.invariant

pub returns-in_err-push : goal.returns-in_err-push
returns-in_err-push g c = IfOk-from_err c.from_residual-in_err-push.result _ c.from_residual-in_err-push.ensures.0

pub returns-in_err-segments : goal.returns-in_err-segments
returns-in_err-segments g c = IfOk-from_err c.from_residual.result _ c.from_residual.ensures.0
