use Rattle.hc_log_text.proofs.FlashLine.{flash-only, flash-back}
use Rattle.hc_log_text.proofs.flash.read_flash.Goals as goal

pub returns : goal.returns
returns c = record { only = flash-only c.args.line.now c.flash_in.result c.flash_in.ensures; written = flash-back c.args.line.now c.flash_in.result c.flash_in.ensures }
