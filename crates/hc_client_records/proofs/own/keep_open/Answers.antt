use Rattle.std.proofs.Common.{◌≡◌, true, sym, subst}
use Rattle.std.specs.List.{list_any}
use Rattle.hc_client_records.specs.Records.{OpenCall, Record}
use Rattle.hc_client_records.specs.Judge.{has_asked}
use Rattle.hc_client_records.proofs.Keeping.{asked-open}
use Rattle.hc_client_records.proofs.own.keep_open.Goals as goal

pub loop-left-preserved : goal.loop-left-preserved
loop-left-preserved c = λ records among were.
    let items : c.deref-left-items.result.now ≡ c.args.did.now.open_calls = cc in
    let own = among (has_asked c.left-item.result.call c.args.did.now.client c.left-item.result.op) (asked-open c.args.did.now c.deref-left-items.result.now c.loop-left.left-index c.left-item.result items c.loop-left-test.true c.left-item.is) in
    let inside = subst (λ (x : OpenCall). list_any (has_asked x.call c.did.inside.client x.op) records ≡ true) (sym c.left.view_is) (subst (λ (r : Record). list_any (has_asked c.left-item.result.call r.client c.left-item.result.op) records ≡ true) (sym c.did.view_is) own) in
    c.keep.ensures records inside (c.loop-left.invariant records among were)
