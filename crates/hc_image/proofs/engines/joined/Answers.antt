use Rattle.std.proofs.Common.{subst}
use Rattle.hc_engines.specs.pair.Pair.{Pair}
use Rattle.hc_engines.specs.large.Sound.{Sound}
use Rattle.hc_image.proofs.Alone.{large_alone}
use Rattle.hc_image.proofs.engines.joined.Goals as goal

pub returns-clause-alone : goal.returns-clause-alone
returns-clause-alone g c =
    large_alone c.args.small.flash c.args.large.block (subst (λ (p : Pair). Sound p.small.flash p.large) c.from_parts-pair.ensures c.is_sound.ensures.sound) c.requires.leads
