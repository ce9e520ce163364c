use Rattle.std.proofs.Common.{◌≤◌, sym, subst, arith, ◌∙◌}
use Rattle.hc_engines.specs.large.Region.{Appended}
use Rattle.hc_block.proofs.Listed.{none_before, one_listed}
use Rattle.hc_block.proofs.resting.is_listed_in.Goals as goal

pub returns-then-at-appended : goal.returns-then-at-appended
returns-then-at-appended c = sym (none_before c.args.appended.now c.args.hash c.args.offset (λ k d lt. c.first_from-at.ensures.before k d (omega (arith, lt, c.if-at-appended.true))))

pub returns : goal.returns
returns c =
    let behind = subst (λ (x : Appended). c.args.offset ≤ x.offset) (sym c.index-appended-at.is) (c.first_from-at.ensures.behind c.first_from-at.result c.index-appended-at.result (omega arith) c.if-at-appended.false) in
    c.is_entry.ensures
    ∙ sym (one_listed 0 c.requires.0 c.args.appended.now c.first_from-at.result c.index-appended-at.result c.args.hash c.args.offset c.requires.1 c.if-at-appended.false c.index-appended-at.is c.first_from-at.ensures.before behind)
