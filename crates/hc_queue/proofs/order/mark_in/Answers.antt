use Rattle.std.proofs.Common.{true, ap, sym, ◌∙◌}
use Rattle.hc_queue.proofs.Keeping.{set-taken, idle-taken}
use Rattle.hc_queue.proofs.order.mark_in.Goals as goal

pub returns-in-Some : goal.returns-in-Some
returns-in-Some g c = λ high rises. (c.get_mut.follows.holds (record c.in-Some.piece.now { taken = true })).0 ∙ set-taken c.args.number 0 high c.in-Some.piece.now c.args.pieces.now.entries rises c.in-Some.ensures.value

pub returns-in_default : goal.returns-in_default
returns-in_default g c = λ high rises. ap (λ m. m.entries) c.get_mut.follows.holds-at-none ∙ sym (idle-taken c.args.number c.args.pieces.now.entries c.in_default.ensures.value)
