use Rattle.std.proofs.Common.{◌≡◌, ◌+◌, map, length, get_or, ap, sym, subst, ◌∙◌, arith, length-set}
use Rattle.std.proofs.lemmas.List.{length-map}
use Rattle.hc_memory.specs.Item.{Open}
use Rattle.hc_memory.specs.Charges.{open_of, is_stray}
use Rattle.hc_types.specs.Tally.{tally, count}
use Rattle.hc_types.proofs.Tallies.{tally-push}
use Rattle.hc_memory.proofs.Books.{begun-entries, number-below, read-sum, sums-grown, stray-begun}
use Rattle.hc_memory.proofs.open.OpenCharges.begin.Goals as goal

pub with_charge-requires-clause-number : goal.with_charge-requires-clause-number
with_charge-requires-clause-number g c =
    let f = c.self.inside in
    let charge : Open = record { number = c.args.number; pool = c.args.pool; key = c.args.key; size = c.args.size } in
    let begun = begun-entries f.charges c.insert.new.self.entries c.args.number (record { pool = c.args.pool; key = c.args.key; size = c.args.size }) (rw (← c.self.view_is) at c.requires.free) c.in_ok-insert.ensures.entries in
    let within = rw (← c.self.view_is) at c.requires.pool in
    let read = read-sum f.usage.items (map open_of f.charges.entries) c.args.pool c.index.result.now c.self.invariant.0 within (c.index.ensures ∙ ap (λ n. get_or f.usage.items n c.index.result.now) c.from-at.ensures) in
    omega (arith, ap (λ u. u.number) read, number-below c.args.pool (map open_of f.charges.entries) _ charge begun, length-map c.insert.new.self.entries open_of, c.len-count.ensures.len, c.len-count.ensures.small)

pub with_charge-requires-clause-bytes : goal.with_charge-requires-clause-bytes
with_charge-requires-clause-bytes g c =
    let f = c.self.inside in
    let within = rw (← c.self.view_is) at c.requires.pool in
    let fits = rw (← c.self.view_is) at c.requires.bytes in
    let read = read-sum f.usage.items (map open_of f.charges.entries) c.args.pool c.index.result.now c.self.invariant.0 within (c.index.ensures ∙ ap (λ n. get_or f.usage.items n c.index.result.now) c.from-at.ensures) in
    omega (arith, ap (λ u. u.bytes) read, c.charge-cost.ensures, fits)

pub index-requires : goal.index-requires
index-requires g c =
    let within = rw (← c.self.view_is) at c.requires.pool in
    omega (arith, within, c.from-at.ensures)

pub index_mut-requires : goal.index_mut-requires
index_mut-requires g c =
    let within = rw (← c.self.view_is) at c.requires.pool in
    omega (arith, within, c.from-at.ensures)

pub invariant_of-self : goal.invariant_of-self
invariant_of-self g c = rw c.in_err-insert.ensures.err c.self.invariant

pub invariant_of-self-2 : goal.invariant_of-self-2
invariant_of-self-2 g c =
    let f = c.self.inside in
    let charge : Open = record { number = c.args.number; pool = c.args.pool; key = c.args.key; size = c.args.size } in
    let begun = begun-entries f.charges c.insert.new.self.entries c.args.number (record { pool = c.args.pool; key = c.args.key; size = c.args.size }) (rw (← c.self.view_is) at c.requires.free) c.in_ok-insert.ensures.entries in
    let within = rw (← c.self.view_is) at c.requires.pool in (
      sums-grown f.usage.items (map open_of f.charges.entries) (map open_of c.insert.new.self.entries) charge c.from-at.result (λ f. ap (tally f) begun ∙ tally-push f _ charge) c.from-at.ensures (omega (arith, c.from-at.ensures, within)) c.index.result.now c.index.ensures c.with_charge.result
          c.self.invariant.0 (c.with_charge.ensures ∙ ap (λ n. record { bytes = c.index.result.now.bytes + n; number = c.index.result.now.number + 1 }) c.charge-cost.ensures),
      subst (λ n. count (is_stray n) (map open_of c.insert.new.self.entries) ≡ 0) (sym (length-set f.usage.items c.from-at.result c.with_charge.result))
          (stray-begun (length f.usage.items) (map open_of f.charges.entries) _ charge begun within c.requires.size c.self.invariant.1),
    )

pub returns-clause-ok : goal.returns-clause-ok
returns-clause-ok g c =
    let f = c.self.inside in
    let begun = begun-entries f.charges c.insert.new.self.entries c.args.number (record { pool = c.args.pool; key = c.args.key; size = c.args.size }) (rw (← c.self.view_is) at c.requires.free) c.in_ok-insert.ensures.entries in
    rw (← c.self.view_is) (λ i. record {
      charges = begun i;
      pools = length-set f.usage.items c.from-at.result c.with_charge.result i;
    })
