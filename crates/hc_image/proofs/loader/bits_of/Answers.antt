use Rattle.std.proofs.Common.{sym, ap, ◌∙◌}
use Rattle.hc_types.specs.Config.{Config}
use Rattle.hc_image.proofs.Right.{bits_fit}
use Rattle.hc_image.proofs.loader.bits_of.Goals as goal

pub returns-in-Some : goal.returns-in-Some
returns-in-Some g c = bits_fit c.args.config.now c.in-Some.flash c.requires (sym (ap (λ (x : Config). x.flash) c.config.view_is) ∙ c.in-Some.is)
