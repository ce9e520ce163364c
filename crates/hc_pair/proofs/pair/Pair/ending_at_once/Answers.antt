use Rattle.std.proofs.Common.{◌≡◌, ◌∙◌, ℕ, false, Option, sym, ap, subst}
use Rattle.hc_types.specs.Places.{bucket_at}
use Rattle.hc_engines.specs.small.BigHash.{could_hold, is_busy}
use Rattle.hc_engines.specs.pair.Pair.{Pair}
use Rattle.hc_pair.specs.Endings.{Ending, IsEndingAtOnce}
use Rattle.hc_pair.proofs.Closing.{at_once_ends}
use Rattle.hc_pair.proofs.pair.Pair.ending_at_once.Goals as goal

pub returns : goal.returns
returns g c =
    let pair : Pair = record { small = c.self.inside.small; large = c.self.inside.large.block } in
    let free : is_busy (bucket_at pair.small.flash c.args.key.now) pair.small.jobs ≡ false = sym (c.is_busy.ensures ∙ ap (λ (b : ℕ). is_busy b pair.small.jobs) c.bucket_of.ensures) ∙ c.if-is_busy.false in
    let none : could_hold pair.small c.args.key.now ≡ false = sym c.could_have.ensures ∙ c.if-could_have.false in
    rw (← c.self.view_is) (subst (λ (o : Option Ending). IsEndingAtOnce c.args.key.now pair o) (sym c.of_large.ensures) (at_once_ends c.self.inside.small c.self.inside.large c.args.key.now c.in_ok-ending.ending c.self.invariant free none c.in_ok-ending.ensures))
