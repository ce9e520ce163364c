use Rattle.std.proofs.Common.{◌+◌, ap}
use Rattle.hc_types.proofs.entry.charge.Goals as goal

pub returns : goal.returns
returns g c = ap (λ len. 32 + len + c.args.len) c.len.ensures.value
