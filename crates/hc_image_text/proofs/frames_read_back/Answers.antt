use Rattle.hc_image_text.proofs.Framed.{frame_again, cut_spelled}
use Rattle.hc_image_text.proofs.frames_read_back.Goals as goal

pub returns : goal.returns
returns c = record { read = frame_again; spelled = cut_spelled }
