use Rattle.hc_image_text.proofs.Headed.{head_again, other_config, other_version}
use Rattle.hc_image_text.proofs.heads_read_back.Goals as goal

pub returns : goal.returns
returns c = record { read = head_again; config = other_config; version = other_version }
