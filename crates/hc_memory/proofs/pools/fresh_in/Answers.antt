use Rattle.std.proofs.Common.{Some, sym, ◌∙◌, ap}
use Rattle.hc_memory.specs.Seen.{item_of}
use Rattle.hc_memory.specs.Pool.{value_then}
use Rattle.hc_memory.proofs.Keyed.{value-fresh, value-stale}
use Rattle.hc_memory.proofs.pools.fresh_in.Goals as goal

pub returns-in_default : goal.returns-in_default
returns-in_default g c = record { value = ap (value_then c.args.now) c.in_default.ensures.item; place = tt }

pub returns-then-is_expired : goal.returns-then-is_expired
returns-then-is_expired g c =
    let stale = value-stale c.args.now (item_of (c.args.key.now, c.in-Some.held.now)) (sym c.is_expired.ensures ∙ c.if-is_expired.true) in
    record { value = sym stale ∙ ap (value_then c.args.now) c.in-Some.ensures.item; place = tt }

pub returns : goal.returns
returns g c =
    let fresh = value-fresh c.args.now (item_of (c.args.key.now, c.in-Some.held.now)) (sym c.is_expired.ensures ∙ c.if-is_expired.false) in
    record {
      value = ap Some c.in_ok-to_bytes.ensures ∙ sym fresh ∙ ap (value_then c.args.now) c.in-Some.ensures.item;
      place = sym c.in-Some.ensures.place;
    }
