use Rattle.std.proofs.Common.{◌∙◌}
use Rattle.hc_machine.specs.Calls.{is_known}
use Rattle.hc_core.proofs.Joining.{discarded-so, known-stores}
use Rattle.hc_core.proofs.plain.link.Goals as goal

pub give_up-requires : goal.give_up-requires
give_up-requires g c = record { mine = (λ i. is_known (c.in-Err.ensures.err i).cache (c.in-Err.ensures.sealed_returned i)) ∙ c.requires.mine }

pub returns-in-Err-clause-err : goal.returns-in-Err-clause-err
returns-in-Err-clause-err g c =
    let e = c.in-Err.ensures in
    discarded-so c.args.sealed c.in-Err.field-0.sealed c.args.core.now c.insert_or_replace.new.self c.give_up.new.core e.sealed_returned e.err c.give_up.ensures

pub returns-in-Err-clause-memory : goal.returns-in-Err-clause-memory
returns-in-Err-clause-memory g c = known-stores c.args.sealed c.args.core.now.cache c.in-Err.field-0.refusal c.requires.mine c.in-Err.ensures.why

pub returns-in-Ok-clause-ok : goal.returns-in-Ok-clause-ok
returns-in-Ok-clause-ok g c = c.in-Ok.ensures.ok
