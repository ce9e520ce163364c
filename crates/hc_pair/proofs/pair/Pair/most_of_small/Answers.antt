use Rattle.std.proofs.Common.{◌≡◌, ◌∙◌, Some, sym}
use Rattle.hc_engines.specs.pair.Pair.{Pair}
use Rattle.hc_bighash.specs.Handed.{op_in}
use Rattle.hc_engines.specs.Seen.{op_of}
use Rattle.hc_pair.proofs.Peeks.{small_loses}
use Rattle.hc_pair.proofs.pair.Pair.most_of_small.Goals as goal

pub returns-then-is_get : goal.returns-then-is_get
returns-then-is_get g c =
    let pair : Pair = record { small = c.self.inside.small; large = c.self.inside.large.block } in
    let under : op_in c.args.number pair.small.jobs ≡ Some (op_of c.args.op.now) = rw (← c.self.view_is) at c.requires in
    let most = small_loses pair c.args.number c.most_losses-most.result (op_of c.args.op.now) under c.most_losses-most.ensures.most in
    rw (← c.self.view_is) (rw (sym c.is_get.ensures ∙ c.if-is_get.true) at most)

pub returns-else-is_get : goal.returns-else-is_get
returns-else-is_get g c =
    let pair : Pair = record { small = c.self.inside.small; large = c.self.inside.large.block } in
    let under : op_in c.args.number pair.small.jobs ≡ Some (op_of c.args.op.now) = rw (← c.self.view_is) at c.requires in
    let most = small_loses pair c.args.number c.most_losses-most.result (op_of c.args.op.now) under c.most_losses-most.ensures.most in
    rw (← c.self.view_is) (rw (sym c.is_get.ensures ∙ c.if-is_get.false) at most)
