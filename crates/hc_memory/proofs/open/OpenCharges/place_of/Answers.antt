use Rattle.std.proofs.Common.{Some, None}
use Rattle.hc_memory.specs.Item.{Open}
use Rattle.hc_memory.proofs.Places.{open-there, open-other, open-nowhere, open_at-exact}
use Rattle.hc_memory.proofs.open.OpenCharges.place_of.Goals as goal

pub returns-then-is_of-clause-value : goal.returns-then-is_of-clause-value
returns-then-is_of-clause-value g c =
    let charge : Open = record { number = c.args.number; pool = c.args.pool; key = c.args.key.now; size = c.args.size } in
    rw (← c.self.view_is) (open-there charge c.self.inside.charges.entries c.in-Some.place c.in-Some.open.now c.is_of.result c.in-Some.ensures.index c.in-Some.ensures.value c.is_of.ensures c.if-is_of.true)

pub returns-then-is_of-clause-exact : goal.returns-then-is_of-clause-exact
returns-then-is_of-clause-exact g c =
    let charge : Open = record { number = c.args.number; pool = c.args.pool; key = c.args.key.now; size = c.args.size } in
    rw (← c.self.view_is) (open_at-exact charge _ (Some c.in-Some.place) (open-there charge c.self.inside.charges.entries c.in-Some.place c.in-Some.open.now c.is_of.result c.in-Some.ensures.index c.in-Some.ensures.value c.is_of.ensures c.if-is_of.true))

pub returns-else-is_of-clause-value : goal.returns-else-is_of-clause-value
returns-else-is_of-clause-value g c =
    let charge : Open = record { number = c.args.number; pool = c.args.pool; key = c.args.key.now; size = c.args.size } in
    rw (← c.self.view_is) (open-other charge c.self.inside.charges.entries c.in-Some.open.now c.is_of.result c.in-Some.ensures.value c.is_of.ensures c.if-is_of.false)

pub returns-else-is_of-clause-exact : goal.returns-else-is_of-clause-exact
returns-else-is_of-clause-exact g c =
    let charge : Open = record { number = c.args.number; pool = c.args.pool; key = c.args.key.now; size = c.args.size } in
    rw (← c.self.view_is) (open_at-exact charge _ None (open-other charge c.self.inside.charges.entries c.in-Some.open.now c.is_of.result c.in-Some.ensures.value c.is_of.ensures c.if-is_of.false))

pub returns-in-None-clause-value : goal.returns-in-None-clause-value
returns-in-None-clause-value g c =
    let charge : Open = record { number = c.args.number; pool = c.args.pool; key = c.args.key.now; size = c.args.size } in
    rw (← c.self.view_is) (open-nowhere charge c.self.inside.charges.entries c.in-None.ensures.value)

pub returns-in-None-clause-exact : goal.returns-in-None-clause-exact
returns-in-None-clause-exact g c =
    let charge : Open = record { number = c.args.number; pool = c.args.pool; key = c.args.key.now; size = c.args.size } in
    rw (← c.self.view_is) (open_at-exact charge _ None (open-nowhere charge c.self.inside.charges.entries c.in-None.ensures.value))
