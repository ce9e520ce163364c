use Rattle.std.proofs.Common.{◌≡◌, ◌+◌, ◌++◌, ◌∷◌, [], List, take, drop, length, get_or, subst, ap, sym, ◌∙◌, arith}
use Rattle.std.proofs.lemmas.List.{take_more, take_all}
use Rattle.hc_shard_laws.specs.OwnKeys.{ShardStep}
use Rattle.hc_shard_run.specs.Lanes.{AreLanes}
use Rattle.hc_shard_run.proofs.Stepping.{refused-more}
use Rattle.hc_shard_run.proofs.Turning.{lanes-own, others-both}
use Rattle.hc_shard_run.proofs.runs.go_through.Goals as goal

pub turn-requires-clause-own : goal.turn-requires-clause-own
turn-requires-clause-own g c =
    let l = c.loop-one in
    lanes-own c.args.sharded.now (g.D.Flash.held l.device) (take l.one-index c.args.steps.now) l.lanes.items c.requires.right l.invariant.lanes

pub loop-one-preserved : goal.loop-one-preserved
loop-one-preserved g c =
    let l = c.loop-one in
    let s = c.args.sharded.now in
    let so_far = take l.one-index c.args.steps.now in
    let more : take (l.one-index + 1) c.args.steps.now ≡ so_far ++ c.one-item.result ∷ [] = take_more c.args.steps.now l.one-index c.one-item.result c.loop-one-test.true ∙ ap (λ (one : ShardStep). so_far ++ one ∷ []) (sym c.one-item.is) in
    let push = c.push_reserved.ensures in
    record {
      lanes = subst (λ (all : List ShardStep). AreLanes s (g.D.Flash.held c.turn.new.device) all c.turn.new.lanes.items) (sym more) (c.turn.ensures.lanes so_far l.invariant.lanes);
      many = c.turn.ensures.many ∙ l.invariant.many;
      others = others-both s (g.D.Flash.held c.args.device.now) (g.D.Flash.held l.device) (g.D.Flash.held c.turn.new.device) l.invariant.others (c.turn.ensures.others so_far l.invariant.lanes);
      counted = omega (arith, l.invariant.counted, c.turn.ensures.counted);
      refused = refused-more s.shards c.args.steps.now l.one-index c.one-item.result l.refusals.items c.push_reserved.new.self.items c.turn.result c.loop-one-test.true c.one-item.is c.turn.ensures.refused push.items l.invariant.refused;
      len = omega (arith, push.len, l.invariant.len);
      room = omega (arith, push.capacity, l.invariant.room);
    }

pub returns-clause-lanes : goal.returns-clause-lanes
returns-clause-lanes g c =
    let l = c.loop-one in
    subst (λ (all : List ShardStep). AreLanes c.args.sharded.now (g.D.Flash.held l.device) all l.lanes.items) (take_all l.one-index c.args.steps.now (omega (arith, c.loop-one-test.false))) l.invariant.lanes
