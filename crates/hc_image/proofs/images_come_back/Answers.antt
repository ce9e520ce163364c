use Rattle.hc_image.proofs.Again.{comes_again}
use Rattle.hc_image.proofs.Streams.{image_given, image_taken}
use Rattle.hc_image.proofs.images_come_back.Goals as goal

pub returns-clause-cache : goal.returns-clause-cache
returns-clause-cache c = comes_again

pub returns-clause-given : goal.returns-clause-given
returns-clause-given c = image_given

pub returns-clause-taken : goal.returns-clause-taken
returns-clause-taken c = image_taken
