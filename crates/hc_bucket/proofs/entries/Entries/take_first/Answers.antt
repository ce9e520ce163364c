use Rattle.std.proofs.Common.{◌≡◌, [], sym, ◌∙◌}
use Rattle.hc_bucket.specs.Placed.{entry_placed}
use Rattle.hc_bucket.proofs.Scanning.{whole_stops, whole_next, none_are}
use Rattle.hc_bucket.proofs.entries.Entries.take_first.Goals as goal

pub returns-then-self-eq0-clause-first : goal.returns-then-self-eq0-clause-first
returns-then-self-eq0-clause-first c =
    let none : c.args.self.now ≡ [] = sym c.self.view_is ∙ none_are c.self.inside.count c.self.inside.bytes.now c.if-self-eq0.true in
    (none, none)

pub invariant_of-self : goal.invariant_of-self
invariant_of-self c = (whole_next c.self.inside.count c.self.inside.bytes.now (entry_placed c.in-Some.placed) c.in-Some.behind.now c.if-self-eq0.false c.self.invariant (sym c.in-Some.ensures.read)).whole

pub unreachable-requires : goal.unreachable-requires
unreachable-requires c = whole_stops c.self.inside.count c.self.inside.bytes.now c.if-self-eq0.false c.self.invariant (sym c.in-None.ensures.read)

pub returns-clause-first : goal.returns-clause-first
returns-clause-first c = sym c.self.view_is ∙ (whole_next c.self.inside.count c.self.inside.bytes.now (entry_placed c.in-Some.placed) c.in-Some.behind.now c.if-self-eq0.false c.self.invariant (sym c.in-Some.ensures.read)).first
