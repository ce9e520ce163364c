use Rattle.std.proofs.Common.{◌<◌, ℕ, Option, refl, subst, length}
use Rattle.std.specs.Prelude.{IfSome}
use Rattle.hc_block.proofs.flushes.early_of.Goals as goal

pub can_go_at-requires-clause-there : goal.can_go_at-requires-clause-there
can_go_at-requires-clause-there g c = subst (λ (o : Option ℕ). IfSome o (λ r. r < length c.args.regions.now)) c.in-Some.is c.requires.there

pub can_go_at-requires-clause-written : goal.can_go_at-requires-clause-written
can_go_at-requires-clause-written g c = c.requires.written c.in-Some.r

pub returns-else-can_go_at : goal.returns-else-can_go_at
returns-else-can_go_at g c = λ s same. rw (c.in-Some.is, same, ← c.can_go_at.ensures, c.if-can_go_at.false) refl

pub returns-then-can_go_at : goal.returns-then-can_go_at
returns-then-can_go_at g c = λ s same. rw (c.in-Some.is, same, ← c.can_go_at.ensures, c.if-can_go_at.true) refl
