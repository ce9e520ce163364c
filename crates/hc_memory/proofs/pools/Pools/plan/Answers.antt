use Rattle.std.proofs.Common.{ap, arith}
use Rattle.hc_memory.proofs.pools.Pools.plan.Goals as goal

pub returns : goal.returns
returns g c = record {
  number = omega (arith, ap (λ m. m.made) c.self.view_is, c.in-Some.ensures);
  bytes = c.in_ok-bytes.ensures;
  copy = c.in_ok-copy.ensures.cases;
  empty = c.in_ok-victims.ensures.empty;
  len = c.in_ok-victims.ensures.len;
  room = c.in_ok-victims.ensures.room;
}
