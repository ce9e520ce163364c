use Rattle.std.proofs.Common.{◌≡◌, None, replicate, refl, sym, ◌∙◌, ap, subst}
use Rattle.hc_shards.specs.Shards.{Sharded, share_of, sharded_wrong}
use Rattle.hc_shard_threads.proofs.shards.Shards.new.Goals as goal

pub invariant_of-result : goal.invariant_of-result
invariant_of-result g c =
    let s = c.args.sharded.now in
    let lanes = c.in-Ok-lanes_of.lanes.items in
    let many : c.sharded.inside.shards ≡ s.shards = ap (λ (x : Sharded). x.shards) c.sharded.view_is in
    let first : lanes ≡ replicate s.shards (share_of s) = c.in-Ok-lanes_of.ensures ∙ (λ i. replicate (many i) (c.in-Ok-share.ensures i)) in
    let second : sharded_wrong s ≡ None = c.in_ok-check.ensures.ok.0 refl in
    subst (λ (own : Sharded). (lanes ≡ replicate own.shards (share_of own)) × (sharded_wrong own ≡ None)) (sym c.in-Ok.ensures) (first, second)

pub returns-clause-fits : goal.returns-clause-fits
returns-clause-fits g c = c.in_ok-check.ensures.ok.0 refl
