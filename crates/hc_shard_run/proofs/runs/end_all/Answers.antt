use Rattle.std.proofs.Common.{◌≡◌, ◌∷◌, ◌++◌, [], List, length, subst, ap, sym, ◌∙◌, arith, append_assoc}
use Rattle.std.specs.Vec.Iter.{into_iter_items}
use Rattle.hc_shard_run.specs.Lanes.{Lane, AreEnds, AreOwnLanes}
use Rattle.hc_shard_run.specs.Ran.{RanShard}
use Rattle.hc_shard_run.proofs.Ending.{ends-all, ends-more}
use Rattle.hc_shard_run.proofs.Fitting.{room-left}
use Rattle.hc_shard_run.proofs.runs.end_all.Goals as goal

pub loop-lane-init : goal.loop-lane-init
loop-lane-init g c =
    let rest = c.into_iter-left.ensures.rest in
    record {
      ends = λ more ends. subst (λ (rans : List RanShard). AreEnds c.args.lanes.items (rans ++ more)) (sym c.requires.none.0) (subst (λ (left : List Lane). AreEnds left more) rest ends);
      own = subst AreOwnLanes (sym rest) c.requires.own;
      len = c.into_iter-left.ensures.len ∙ c.args.lanes.ok.0 ∙ sym (ap length rest);
      room = room-left _ _ _ _ c.requires.none.1 (ap length rest) c.requires.room;
    }

pub loop-lane-preserved : goal.loop-lane-preserved
loop-lane-preserved g c =
    let l = c.loop-lane in
    let all = c.args.lanes.items in
    let lane = c.in-Some.lane in
    let rest = into_iter_items c.next.new.self in
    let ran = c.end.result in
    let first : into_iter_items l.left ≡ lane ∷ rest = c.in-Some.ensures.items in
    let push = c.push_reserved.ensures in
    record {
      ends = λ more ends. subst (λ (rans : List RanShard). AreEnds all rans) (sym (ap (λ (rans : List RanShard). rans ++ more) push.items ∙ append_assoc l.ran.items (ran ∷ []) more))
          (ends-more all lane rest l.ran.items ran c.end.ensures (subst (λ (left : List Lane). (more : List RanShard) → AreEnds left more → AreEnds all (l.ran.items ++ more)) first l.invariant.ends) more ends);
      own = (subst AreOwnLanes first l.invariant.own).1;
      len = omega (arith, c.in-Some.ensures.cases, ap length first, l.invariant.len);
      room = omega (arith, push.len, push.capacity, ap length first, l.invariant.room);
    }

pub returns : goal.returns
returns g c =
    let l = c.loop-lane in
    ends-all c.args.lanes.items (into_iter_items l.left) l.ran.items l.invariant.ends (sym l.invariant.len ∙ c.in_default.ensures.cases.0)
