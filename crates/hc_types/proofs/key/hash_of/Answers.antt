use Rattle.std.proofs.Common.{◌+◌, drop, ap, sym, ◌∙◌}
use Rattle.std.specs.Prelude.{fold}
use Rattle.std.proofs.lemmas.List.{at_drop_more}
use Rattle.hc_types.specs.Fnv.{fnv_step}
use Rattle.hc_types.proofs.key.hash_of.Goals as goal

pub loop-byte-preserved : goal.loop-byte-preserved
loop-byte-preserved c =
    let bytes = c.args.bytes.now in
    let at = c.loop-byte.byte-index in
    let hash = c.loop-byte.hash in
    ap (λ byte. fold fnv_step (fnv_step hash byte) (drop (at + 1) bytes)) c.from.ensures
    ∙ sym (at_drop_more (fold fnv_step hash) bytes at 0 c.loop-byte-test.true)
    ∙ c.loop-byte.invariant
