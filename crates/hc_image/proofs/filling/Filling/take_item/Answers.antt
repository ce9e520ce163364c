use Rattle.hc_image.proofs.Refusing.{unread}
use Rattle.hc_image.proofs.filling.Filling.take_item.Goals as goal

pub returns-in-Err-clause-why : goal.returns-in-Err-clause-why
returns-in-Err-clause-why g c = unread _ _ _ _ c.in-Err.ensures.why
