use Rattle.std.proofs.Common.{◌≡◌, true, sym, subst}
use Rattle.std.specs.List.{list_any}
use Rattle.hc_client_records.specs.Records.{Entry, Record}
use Rattle.hc_client_records.specs.Judge.{has_asked}
use Rattle.hc_client_records.proofs.Keeping.{asked-entry}
use Rattle.hc_client_records.proofs.own.keep_entries.Goals as goal

pub loop-entry-preserved : goal.loop-entry-preserved
loop-entry-preserved c = λ records among were.
    let items : c.deref-entry-items.result.now ≡ c.args.did.now.entries = cc in
    let own = among (has_asked c.entry-item.result.call c.args.did.now.client c.entry-item.result.op) (asked-entry c.args.did.now c.deref-entry-items.result.now c.loop-entry.entry-index c.entry-item.result items c.loop-entry-test.true c.entry-item.is) in
    let inside = subst (λ (x : Entry). list_any (has_asked x.call c.did.inside.client x.op) records ≡ true) (sym c.entry.view_is) (subst (λ (r : Record). list_any (has_asked c.entry-item.result.call r.client c.entry-item.result.op) records ≡ true) (sym c.did.view_is) own) in
    c.keep.ensures records inside (c.loop-entry.invariant records among were)
