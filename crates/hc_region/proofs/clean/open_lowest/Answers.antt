use Rattle.hc_region.proofs.Cleans.{opened_is}
use Rattle.hc_region.proofs.clean.open_lowest.Goals as goal

pub returns-clause-clean : goal.returns-clause-clean
returns-clause-clean g c = opened_is c.args.r c.args.regions.now.items c.store_at.new.regions.items c.args.region c.args.clean.now c.take_lowest.new.self c.requires.lowest c.requires.in_use c.requires.clean c.take_lowest.ensures c.store_at.ensures
