use Rattle.std.proofs.Common.{◌≡◌, IfOk, sym, subst}
use Rattle.hc_memory.specs.declared.fill.Fill.{Fill}
use Rattle.hc_memory.specs.Seen.{filled}
use Rattle.hc_memory.proofs.fill.Fill.to_vec.Goals as goal

pub returns-in-Repeated : goal.returns-in-Repeated
returns-in-Repeated g c = subst (λ (f : Fill). IfOk c.repeated.result (λ bytes. bytes.items ≡ filled f)) (sym c.in-Repeated.is) c.repeated.ensures
