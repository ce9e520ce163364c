use Rattle.std.proofs.Common.{refl, inr}
use Rattle.std.proofs.lemmas.Result.{IfErr-weaker}
use Rattle.hc_memory.specs.Seen.{filled}
use Rattle.hc_core.proofs.Joining.{then-set, then-left}
use Rattle.hc_core.proofs.plain.set_by_handle.Goals as goal

pub returns-clause-ok : goal.returns-clause-ok
returns-clause-ok g c =
    then-set c.args.pool c.args.key c.args.key (filled c.args.fill) c.args.ttl c.in_ok-sealed.sealed c.args.core.now c.open_with.new.core c.link.new.core refl c.in_ok-sealed.ensures.ok c.link.result c.link.ensures.ok

pub returns-clause-err : goal.returns-clause-err
returns-clause-err g c =
    then-left c.args.pool c.args.key c.args.key (filled c.args.fill) c.args.ttl c.in_ok-sealed.sealed c.args.core.now c.open_with.new.core c.link.new.core refl c.in_ok-sealed.ensures.ok c.link.result c.link.ensures.err c.link.ensures.memory

pub returns-clause-why : goal.returns-clause-why
returns-clause-why g c = IfErr-weaker c.link.result _ _ (λ refusal h. inr h) c.link.ensures.memory
