use Rattle.std.proofs.Common.{◌<◌, length, ◌∙◌, arith}
use Rattle.std.proofs.lemmas.List.{length-set}
use Rattle.hc_shard_threads.proofs.Rows.{ticked-step, ticked-stays, at-error, within-rows}
use Rattle.hc_shard_threads.proofs.client.ShardClient.tick.Goals as goal

pub returns-in_err-now-clause-err : goal.returns-in_err-now-clause-err
returns-in_err-now-clause-err g c =
    let at = c.loop-at.at in
    let now = c.loop-at.self-inside.clients.items in
    let stays = ticked-stays c.args.moment at c.args.self.now now c.index_mut.result.now c.tick.new.self c.loop-at.invariant.rows c.index_mut.ensures.value c.in_err-now.ensures.err in
    at-error c.from_residual.result _ (at, stays)

pub loop-at-preserved : goal.loop-at-preserved
loop-at-preserved g c =
    let at = c.loop-at.at in
    let now = c.loop-at.self-inside.clients.items in
    let inv = c.loop-at.invariant in
    let within : at < length now = within-rows at c.len-at-end.result _ c.self.inside.clients.items c.args.self.now now c.loop-at-test.true c.len-at-end.ensures c.self.inside.clients.ok.0 c.self.view_is inv.all in
    record {
      rows = ticked-step c.args.moment at c.args.self.now now c.index_mut.result.now c.tick.new.self inv.rows within c.index_mut.ensures.value c.in_ok-now.ensures.recorded;
      later = omega (arith, inv.later, c.in_ok-now.ensures.later, c.min-earliest.ensures);
      all = length-set now at c.tick.new.self ∙ inv.all;
    }
