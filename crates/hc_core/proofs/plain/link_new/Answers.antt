use Rattle.std.proofs.Common.{◌∙◌}
use Rattle.hc_machine.specs.Calls.{is_known}
use Rattle.hc_core.proofs.Joining.{discarded-so, left-new, added-new}
use Rattle.hc_core.proofs.plain.link_new.Goals as goal

pub give_up-requires : goal.give_up-requires
give_up-requires g c = record { mine = (λ i. is_known (c.in-Err.ensures.err i).cache (c.in-Err.ensures.sealed_returned i)) ∙ c.requires.mine }

pub returns-in-Err-clause-err : goal.returns-in-Err-clause-err
returns-in-Err-clause-err g c =
    let e = c.in-Err.ensures in
    let left = discarded-so c.args.sealed c.in-Err.field-0.sealed c.args.core.now c.insert.new.self c.give_up.new.core e.sealed_returned e.err c.give_up.ensures in
    left-new c.args.sealed c.in-Err.field-0.refusal c.args.core.now c.give_up.new.core c.requires.mine e.why left

pub returns-in-Ok-clause-ok : goal.returns-in-Ok-clause-ok
returns-in-Ok-clause-ok g c = added-new c.args.sealed c.in-Ok.inserted c.args.core.now c.insert.new.self c.in-Ok.ensures.ok
