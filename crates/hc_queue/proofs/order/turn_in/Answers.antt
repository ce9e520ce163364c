use Rattle.std.proofs.Common.{refl, ap, sym, ◌∙◌}
use Rattle.hc_queue.proofs.Keeping.{turn, turn-is}
use Rattle.hc_queue.proofs.order.turn_in.Goals as goal

pub returns-then-piece : goal.returns-then-piece
returns-then-piece g c = sym (turn-is c.args.number c.args.pieces.now.entries ∙ (ap turn (sym c.in-Some.ensures.value) ∙ rw c.if-piece.true refl))

pub returns-else-piece : goal.returns-else-piece
returns-else-piece g c = sym (turn-is c.args.number c.args.pieces.now.entries ∙ (ap turn (sym c.in-Some.ensures.value) ∙ rw c.if-piece.false refl))

pub returns-in-None : goal.returns-in-None
returns-in-None g c = sym (turn-is c.args.number c.args.pieces.now.entries ∙ ap turn (sym c.in-None.ensures.value))
