use Rattle.hc_pair.proofs.pair.Pair.into_parts.Goals as goal

pub returns-clause-large : goal.returns-clause-large
returns-clause-large g c = rw (← c.self.view_is) (λ i. record { flash = c.self.invariant.flash i; block = c.self.inside.large.block })
