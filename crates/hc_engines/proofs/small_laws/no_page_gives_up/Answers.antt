use Rattle.hc_engines.proofs.small.Sound.{no_page_gives_up}
use Rattle.hc_engines.proofs.small_laws.no_page_gives_up.Goals as goal

pub returns : goal.returns
returns c = no_page_gives_up
