use Rattle.std.proofs.Common.{sym, arith}
use Rattle.hc_memory.specs.Seen.{items_of}
use Rattle.hc_memory.proofs.Fresh.{none-expired}
use Rattle.hc_memory.proofs.pool.Pool.has_expired.Goals as goal

pub returns-then-now-self : goal.returns-then-now-self
returns-then-now-self g c = rw (← c.self.view_is) (sym (none-expired c.args.key.now c.args.now c.self.inside.fresh_until (items_of c.self.inside.cache.entries) (omega (arith, c.if-now-self.true)) c.self.invariant.2))
