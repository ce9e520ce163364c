use Rattle.std.proofs.Common.{refl, sym, ◌∙◌}
use Rattle.hc_memory.specs.Item.{charge_by}
use Rattle.hc_memory.proofs.Places.{at-place, no-place}
use Rattle.hc_memory.proofs.pools.Pools.discard_blank.Goals as goal

pub free_at-requires : goal.free_at-requires
free_at-requires g c = (at-place (charge_by c.args.blank) c.args.self.now.charges c.in-Some.place (sym c.in-Some.ensures)).within

pub returns-in-Some-clause-ok : goal.returns-in-Some-clause-ok
returns-in-Some-clause-ok g c =
    let place = at-place (charge_by c.args.blank) c.args.self.now.charges c.in-Some.place (sym c.in-Some.ensures) in
    (place.mine, c.free_at.ensures (charge_by c.args.blank) place.there ∙ (λ i. record c.args.self.now { charges = sym place.closes i }))

pub returns-in-None-clause-err : goal.returns-in-None-clause-err
returns-in-None-clause-err g c = (no-place (charge_by c.args.blank) c.args.self.now.charges (sym c.in-None.ensures), refl)
