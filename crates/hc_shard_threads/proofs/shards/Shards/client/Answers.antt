use Rattle.std.proofs.Common.{◌≡◌, ◌+◌, ◌∷◌, [], ◌++◌, ◌∙◌, List, length, ap}
use Rattle.std.proofs.lemmas.List.{length_push, length-replicate}
use Rattle.hc_types.specs.Config.{Config}
use Rattle.hc_client_records.specs.Records.{Record}
use Rattle.hc_shards.specs.Shards.{Sharded, share_of}
use Rattle.hc_shard_threads.proofs.Rows.{is-forgotten, new-more, one-each}
use Rattle.hc_shard_threads.proofs.shards.Shards.client.Goals as goal

pub loop-lane-preserved : goal.loop-lane-preserved
loop-lane-preserved g c =
    let old = c.loop-lane.clients.items in
    let one = c.in_ok-client.field-0 in
    let says = c.in_ok-client.ensures.ok in
    let push : c.push_reserved.new.self.items ≡ old ++ one ∷ [] = c.push_reserved.ensures.items ∙ ap (λ (rows : List Record). rows ++ one ∷ []) c.reserve.ensures.items in
    record {
      count = ap (λ (rows : List Record). length rows) push ∙ length_push old one ∙ ap (λ n. n + 1) c.loop-lane.invariant.count;
      new = new-more old c.push_reserved.new.self.items one push c.loop-lane.invariant.new (is-forgotten one says.0 says.1 says.2);
    }

pub returns-clause-ok : goal.returns-clause-ok
returns-clause-ok g c =
    let inner = c.self.inside in
    let lanes : length c.deref-lane-items.result.now ≡ inner.sharded.shards = ap (λ (xs : List Config). length xs) (c.deref-lane-items.ensures.value ∙ c.self.invariant.0) ∙ length-replicate inner.sharded.shards (share_of inner.sharded) in
    let shards : inner.sharded.shards ≡ c.args.self.now.shards = ap (λ (s : Sharded). s.shards) c.self.view_is in
    (one-each _ _ _ _ _ c.loop-lane.invariant.count c.loop-lane-test.false c.loop-lane.auto.lane-index-end lanes shards, c.loop-lane.invariant.new)
