use Rattle.hc_image_text.proofs.Imaged.{image_again, image_spelled, cut_image, longer_image, other_digest, steps_again, digest_parts}
use Rattle.hc_image_text.proofs.images_read_back.Goals as goal

pub returns : goal.returns
returns c = record {
  read = image_again;
  spelled = image_spelled;
  cut = cut_image;
  longer = longer_image;
  digest = other_digest;
  steps = steps_again;
  parts = digest_parts;
}
