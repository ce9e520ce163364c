use Rattle.std.proofs.Common.{◌≡◌, ◌++◌, ◌∙◌, List, [], drop, refl, sym, ap, arith, append-nil}
use Rattle.std.proofs.lemmas.List.{drop_all}
use Rattle.hc_engines.specs.large.Region.{Appended}
use Rattle.hc_engines.specs.large.Index.{leading_into, without_all}
use Rattle.hc_engines.specs.large.Steps.{lost}
use Rattle.hc_block.specs.Ends.{cause_seen}
use Rattle.hc_block.proofs.ends.drain_index.Goals as goal

pub bounds-appended-entry-index : goal.bounds-appended-entry-index
bounds-appended-entry-index g c = c.loop-entry-test.true

pub loop-entry-init : goal.loop-entry-init
loop-entry-init g c = record { room = c.requires; index = refl; losses = refl }

pub loop-entry-smaller : goal.loop-entry-smaller
loop-entry-smaller g c = omega (arith, c.loop-entry-test.true)

pub returns-clause-index : goal.returns-clause-index
returns-clause-index g c =
    let walked : drop c.loop-entry.entry-index c.args.appended.now ≡ [] = drop_all c.loop-entry.entry-index c.args.appended.now (omega (arith, c.loop-entry-test.false)) in
    ap (λ (xs : List Appended). without_all (leading_into c.args.r xs c.loop-entry.index) c.loop-entry.index) (sym walked) ∙ c.loop-entry.invariant.index

pub returns-clause-losses : goal.returns-clause-losses
returns-clause-losses g c =
    let walked : drop c.loop-entry.entry-index c.args.appended.now ≡ [] = drop_all c.loop-entry.entry-index c.args.appended.now (omega (arith, c.loop-entry-test.false)) in
    sym (append-nil c.loop-entry.losses.items) ∙ ap (λ (xs : List Appended). c.loop-entry.losses.items ++ lost (cause_seen c.args.end) (leading_into c.args.r xs c.loop-entry.index)) (sym walked) ∙ c.loop-entry.invariant.losses
