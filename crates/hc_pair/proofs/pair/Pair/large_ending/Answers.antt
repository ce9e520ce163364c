use Rattle.std.proofs.Common.{◌≡◌, None, Option, sym, subst}
use Rattle.hc_engines.specs.pair.Pair.{Pair}
use Rattle.hc_bighash.specs.Handed.{op_in}
use Rattle.hc_flash.specs.Seen.{result_of}
use Rattle.hc_pair.specs.Endings.{Ending, IsEnding}
use Rattle.hc_pair.proofs.Closing.{large_ends}
use Rattle.hc_pair.proofs.pair.Pair.large_ending.Goals as goal

pub returns : goal.returns
returns g c =
    let pair : Pair = record { small = c.self.inside.small; large = c.self.inside.large.block } in
    let none : op_in c.args.number pair.small.jobs ≡ None = rw (← c.self.view_is) at c.requires in
    rw (← c.self.view_is) (subst (λ (o : Option Ending). IsEnding c.args.number (result_of c.args.came.now) pair o) (sym c.of_large.ensures) (large_ends c.self.inside.small c.self.inside.large c.args.number (result_of c.args.came.now) c.in_ok-ending.ending c.self.invariant none c.in_ok-ending.ensures))
