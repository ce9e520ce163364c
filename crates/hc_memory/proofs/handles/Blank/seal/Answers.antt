use Rattle.std.proofs.Common.{◌∙◌}
use Rattle.hc_memory.proofs.handles.Blank.seal.Goals as goal

pub returns-in-Ok-clause-ok : goal.returns-in-Ok-clause-ok
returns-in-Ok-clause-ok g c =
    let value = c.new.ensures ∙ c.in-Ok.ensures.ok in
    rw (← c.self.view_is) (λ i. record { number = c.self.inside.number; pool = c.self.inside.pool; key = c.self.inside.key; expiry = c.self.inside.expiry; value = value i })

pub returns-in-Err-clause-err : goal.returns-in-Err-clause-err
returns-in-Err-clause-err g c = rw (← c.self.view_is) (λ i. record { number = c.self.inside.number; pool = c.self.inside.pool; key = c.self.inside.key; expiry = c.self.inside.expiry; value = c.in-Err.ensures.value_returned i })
