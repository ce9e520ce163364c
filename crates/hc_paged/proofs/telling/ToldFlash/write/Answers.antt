use Rattle.std.proofs.Common.{arith}
use Rattle.hc_paged.proofs.Outside.{none-outside}
use Rattle.hc_paged.proofs.telling.ToldFlash.write.Goals as goal

-- src/telling.rt:121:13
pub returns-then-at-len-clause-lost : goal.returns-then-at-len-clause-lost
returns-then-at-len-clause-lost g c e = none-outside g.G.Digest.of _ c.self.inside.digests.items c.args.page (omega (arith, c.if-at-len.true, c.len.ensures)) (c.self.invariant.1 c.args.page)
