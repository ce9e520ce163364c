use Rattle.std.proofs.Common.{ℕ, List, [], take, ap, sym, ◌∙◌}
use Rattle.std.specs.Ordering.{nat_cmp}
use Rattle.std.specs.BTreeMap.{is_at}
use Rattle.std.specs.Map.{lookup}
use Rattle.hc_history.specs.Note.{Note}
use Rattle.hc_history.specs.Lawful.{past}
use Rattle.hc_history.specs.Pages.{bytes_at}
use Rattle.hc_legal.proofs.Past.{book-more}
use Rattle.hc_judge_memory.proofs.Lying.{honest-more, first-here}
use Rattle.hc_judge_memory.proofs.lies.first_in_one_walk.Goals as goal

pub loop-place-init : goal.loop-place-init
loop-place-init g c = record {
  honest = tt;
  known = λ page. ap (λ (es : List (ℕ × List ℕ)). lookup (is_at (nat_cmp page)) es) c.new-pages.ensures.empty;
}

pub returns-then-is_lie_of : goal.returns-then-is_lie_of
returns-then-is_lie_of g c =
    first-here c.args.log.now c.loop-place.place c.index-log-place.result c.loop-place-test.true c.index-log-place.is c.loop-place.invariant.honest
    (sym (c.is_lie_of.ensures (past [] (take c.loop-place.place c.args.log.now)) c.loop-place.invariant.known) ∙ c.if-is_lie_of.true)

pub loop-place-preserved : goal.loop-place-preserved
loop-place-preserved g c =
    let older = past [] (take c.loop-place.place c.args.log.now) in
    record {
      honest = honest-more c.args.log.now c.loop-place.place c.index-log-place.result c.loop-place-test.true c.index-log-place.is c.loop-place.invariant.honest (sym (c.is_lie_of.ensures older c.loop-place.invariant.known) ∙ c.if-is_lie_of.false);
      known = λ page. book-more (λ (older : List Note). bytes_at older page) c.args.log.now c.loop-place.place c.index-log-place.result _ c.loop-place-test.true c.index-log-place.is (c.in_ok-keep_page.ensures older c.loop-place.invariant.known page);
    }
