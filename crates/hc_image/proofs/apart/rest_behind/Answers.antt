use Rattle.std.proofs.Common.{ap, ◌∙◌}
use Rattle.hc_state.specs.Resting.{flash_rests}
use Rattle.hc_image.proofs.Idle.{flash_at_rest}
use Rattle.hc_image.proofs.apart.rest_behind.Goals as goal

pub of_flash-requires : goal.of_flash-requires
of_flash-requires g c = ap flash_rests c.take_nvm-nvm.ensures.nvm ∙ flash_at_rest c.args.parts c.requires
