use Rattle.std.proofs.Common.{Some, ap, sym, ◌∙◌}
use Rattle.hc_memory.proofs.Keyed.{same_bytes}
use Rattle.hc_memory.proofs.Looking.{read-there}
use Rattle.hc_memory.proofs.groups.place_in.Goals as goal

pub returns-then-eq-clause-some : goal.returns-then-eq-clause-some
returns-then-eq-clause-some g c =
    read-there c.args.keys.now c.loop-i.i c.index-keys-i.result c.loop-i-test.true c.index-keys-i.is
    ∙ ap (λ k. Some k) (sym (same_bytes c.args.key.now c.index-keys-i.result (sym c.eq.ensures ∙ c.if-eq.true)))
