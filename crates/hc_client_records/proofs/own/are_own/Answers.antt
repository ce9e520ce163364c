use Rattle.std.proofs.Common.{sym, subst, map}
use Rattle.hc_client_records.specs.Records.{Record}
use Rattle.hc_client_records.specs.Walk.{IsAmong}
use Rattle.hc_client_records.proofs.Keeping.{among}
use Rattle.hc_client_records.proofs.own.are_own.Goals as goal

pub loop-who-preserved : goal.loop-who-preserved
loop-who-preserved g c =
    let all = map g.T.Recorded.recorded c.args.records.now in
    let one = among g.T.Recorded.recorded c.args.records.now c.loop-who.who-index c.who-item.result c.loop-who-test.true c.who-item.is in
    record {
      calls = c.keep_open.ensures all (subst (λ (r : Record). IsAmong r all) (sym c.record-in-loop-who.ensures) one) (c.keep_entries.ensures all (subst (λ (r : Record). IsAmong r all) (sym c.record.ensures) one) c.loop-who.invariant.calls);
      ticks = c.keep_ticks.ensures all (subst (λ (r : Record). IsAmong r all) (sym c.record-in-loop-who-2.ensures) one) c.loop-who.invariant.ticks;
    }
