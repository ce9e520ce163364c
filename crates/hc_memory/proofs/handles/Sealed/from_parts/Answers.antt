use Rattle.std.proofs.Common.{refl}
use Rattle.hc_memory.proofs.handles.Sealed.from_parts.Goals as goal

pub returns : goal.returns
returns g c = refl
