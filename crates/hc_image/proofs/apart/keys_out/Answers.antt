use Rattle.std.proofs.Common.{◌≡◌, ◌+◌, ◌++◌, drop, List, sym, ap, ◌∙◌}
use Rattle.hc_machine.specs.Nvm.{Nvm, Tombstone}
use Rattle.hc_image.specs.Saved.{keys_of}
use Rattle.hc_image.proofs.Behind.{drop_more}
use Rattle.hc_image.proofs.apart.keys_out.Goals as goal

pub loop-preserved : goal.loop-preserved
loop-preserved g c =
    let stones = c.args.nvm.now.nvm.tombstones in
    let left : c.loop.nvm.nvm.tombstones ≡ drop c.loop.counter stones = ap (λ (n : Nvm). n.tombstones) c.loop.invariant.nvm in
    let less : drop 1 c.loop.nvm.nvm.tombstones ≡ drop (c.loop.counter + 1) stones = ap (drop 1) left ∙ drop_more c.loop.counter stones in
    record {
      keys = ap (λ (l : List Tombstone). c.key_out.new.keys.items ++ keys_of l) (sym less) ∙ sym c.in_ok-key_out.ensures.moved ∙ ap (λ (l : List Tombstone). c.loop.keys.items ++ keys_of l) left ∙ c.loop.invariant.keys;
      nvm = c.in_ok-key_out.ensures.nvm ∙ (λ i. record (c.loop.invariant.nvm i) { tombstones = less i });
    }
