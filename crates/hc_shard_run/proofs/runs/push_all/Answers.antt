use Rattle.std.proofs.Common.{◌∷◌, [], List, subst, ap, sym, ◌∙◌, arith, length, length-append}
use Rattle.hc_types.specs.Config.{Config}
use Rattle.hc_types.proofs.Tallies.{tally-push}
use Rattle.hc_run.specs.Shows.{Window}
use Rattle.hc_shard_run.specs.Lanes.{Lane, IsNew, AreLanes, failures_of}
use Rattle.hc_shard_run.specs.Ran.{window_of}
use Rattle.hc_shards.specs.Shards.{share_of}
use Rattle.hc_shard_run.proofs.Turning.{lanes-more}
use Rattle.hc_shard_run.proofs.runs.push_all.Goals as goal

pub loop-shard-preserved : goal.loop-shard-preserved
loop-shard-preserved g c =
    let l = c.loop-shard in
    let s = c.args.sharded.now in
    let lane = c.in-Ok.lane in
    let is : IsNew (share_of s) (window_of s l.shard) lane = subst (λ (w : Window). IsNew (share_of s) w lane) c.window_at.ensures (subst (λ (config : Config). IsNew config c.window_at.result lane) c.requires.share c.in-Ok.ensures.lane) in
    let push = c.push_reserved.ensures in
    record {
      lanes = λ held. subst (λ (all : List Lane). AreLanes s held [] all) (sym push.items) (lanes-more s held l.shard l.lanes.items lane l.invariant.many is (l.invariant.lanes held));
      many = omega (arith, ap length push.items, length-append l.lanes.items (lane ∷ []), l.invariant.many);
      failures = omega (arith, ap failures_of push.items, tally-push (λ (each : Lane). each.stage.failures) l.lanes.items lane, is.failures, l.invariant.failures);
      len = omega (arith, push.len, l.invariant.len);
      room = omega (arith, push.capacity, l.invariant.room);
    }
