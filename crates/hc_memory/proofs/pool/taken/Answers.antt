use Rattle.std.proofs.Common.{◌+◌, ap}
use Rattle.hc_memory.proofs.pool.taken.Goals as goal

pub returns-in-Some-clause-freed : goal.returns-in-Some-clause-freed
returns-in-Some-clause-freed g c = rw c.in-Some.is (ap (λ n. 32 + c.args.key_len + n) c.len.ensures.value)
