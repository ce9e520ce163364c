use Rattle.std.proofs.Common.{map}
use Rattle.hc_client_records.proofs.Deciding.{disagrees, strays, decided}
use Rattle.hc_client_records.proofs.reconciling.reconcile.Goals as goal

pub returns-then-not-agree : goal.returns-then-not-agree
returns-then-not-agree g c = disagrees c.args.log.now (map g.T.Recorded.recorded c.args.records.now) c.agree.result c.agree.ensures c.if-not-agree.true

pub returns-then-not-are_own : goal.returns-then-not-are_own
returns-then-not-are_own g c = strays c.args.log.now (map g.T.Recorded.recorded c.args.records.now) c.agree.result c.are_own.result c.agree.ensures c.if-not-agree.false c.are_own.ensures c.if-not-are_own.true

pub returns : goal.returns
returns g c = decided c.args.log.now (map g.T.Recorded.recorded c.args.records.now) c.agree.result c.are_own.result c.are_reached.result c.agree.ensures c.if-not-agree.false c.are_own.ensures c.if-not-are_own.false c.are_reached.ensures
