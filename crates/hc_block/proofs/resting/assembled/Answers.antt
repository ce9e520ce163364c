use Rattle.std.proofs.Common.{refl}
use Rattle.hc_block.proofs.Rested.{rested_kept}
use Rattle.hc_block.proofs.resting.assembled.Goals as goal

pub invariant_of-result : goal.invariant_of-result
invariant_of-result g c =
    rw c.new.ensures (rested_kept c.args.flash c.args.parts.regions.items c.args.parts.current c.args.parts.sealed.items c.args.parts.flushed.items c.args.parts.index c.requires.right c.requires.fit, c.requires.clean)

pub returns : goal.returns
returns g c = rw c.new.ensures refl
