use Rattle.hc_memory.proofs.builder.PoolsBuilder.build.Goals as goal

pub invariant_of-result : goal.invariant_of-result
invariant_of-result g c = let i = c.self.invariant in (i.0, i.1, i.2, i.3, i.4)

pub returns : goal.returns
returns g c = c.self.view_is
