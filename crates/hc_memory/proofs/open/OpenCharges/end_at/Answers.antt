use Rattle.std.proofs.Common.{◌≡◌, ◌-◌, map, length, swap_remove, ap, sym, subst, ◌∙◌, arith, length-set}
use Rattle.hc_types.specs.Tally.{count}
use Rattle.hc_memory.specs.Charges.{open_of, is_stray}
use Rattle.hc_memory.proofs.Books.{sums-shrunk, sums-charged}
use Rattle.hc_memory.proofs.Places.{ends, there-within, no-entry, stray-removed}
use Rattle.hc_memory.proofs.open.OpenCharges.end_at.Goals as goal

pub into_cost-pool-requires : goal.into_cost-pool-requires
into_cost-pool-requires g c =
    let f = c.self.inside in
    let e = ends f.charges.entries c.swap_remove_index.new.self.entries c.args.place (c.in-Some.field-0-0, c.in-Some.open) c.in-Some.ensures.entry c.in-Some.ensures.entries in
    let fits = there-within (length f.usage.items) (map open_of f.charges.entries) c.args.place _ e.there c.self.invariant.1 in
    fits.1

pub index-requires : goal.index-requires
index-requires g c =
    let f = c.self.inside in
    let e = ends f.charges.entries c.swap_remove_index.new.self.entries c.args.place (c.in-Some.field-0-0, c.in-Some.open) c.in-Some.ensures.entry c.in-Some.ensures.entries in
    let fits = there-within (length f.usage.items) (map open_of f.charges.entries) c.args.place _ e.there c.self.invariant.1 in
    let same = c.from-at.ensures ∙ c.into_cost-pool.ensures.pool in
    omega (arith, same, fits.0)

pub index_mut-requires : goal.index_mut-requires
index_mut-requires g c =
    let f = c.self.inside in
    let e = ends f.charges.entries c.swap_remove_index.new.self.entries c.args.place (c.in-Some.field-0-0, c.in-Some.open) c.in-Some.ensures.entry c.in-Some.ensures.entries in
    let fits = there-within (length f.usage.items) (map open_of f.charges.entries) c.args.place _ e.there c.self.invariant.1 in
    let same = c.from-at.ensures ∙ c.into_cost-pool.ensures.pool in
    omega (arith, same, fits.0)

pub without_charge-requires-clause-bytes : goal.without_charge-requires-clause-bytes
without_charge-requires-clause-bytes g c =
    let f = c.self.inside in
    let e = ends f.charges.entries c.swap_remove_index.new.self.entries c.args.place (c.in-Some.field-0-0, c.in-Some.open) c.in-Some.ensures.entry c.in-Some.ensures.entries in
    let fits = there-within (length f.usage.items) (map open_of f.charges.entries) c.args.place _ e.there c.self.invariant.1 in
    let same = c.from-at.ensures ∙ c.into_cost-pool.ensures.pool in
    let charge = open_of (c.in-Some.field-0-0, c.in-Some.open) in
    omega (arith, c.into_cost-pool.ensures.cost, (sums-charged f.usage.items (map open_of c.swap_remove_index.new.self.entries) (map open_of f.charges.entries) charge c.from-at.result e.grown same (omega (arith, same, fits.0)) c.index.result.now c.index.ensures c.self.invariant.0).0)

pub without_charge-requires-clause-number : goal.without_charge-requires-clause-number
without_charge-requires-clause-number g c =
    let f = c.self.inside in
    let e = ends f.charges.entries c.swap_remove_index.new.self.entries c.args.place (c.in-Some.field-0-0, c.in-Some.open) c.in-Some.ensures.entry c.in-Some.ensures.entries in
    let fits = there-within (length f.usage.items) (map open_of f.charges.entries) c.args.place _ e.there c.self.invariant.1 in
    let same = c.from-at.ensures ∙ c.into_cost-pool.ensures.pool in
    let charge = open_of (c.in-Some.field-0-0, c.in-Some.open) in
    (sums-charged f.usage.items (map open_of c.swap_remove_index.new.self.entries) (map open_of f.charges.entries) charge c.from-at.result e.grown same (omega (arith, same, fits.0)) c.index.result.now c.index.ensures c.self.invariant.0).1

pub invariant_of-self : goal.invariant_of-self
invariant_of-self g c =
    let f = c.self.inside in
    let e = ends f.charges.entries c.swap_remove_index.new.self.entries c.args.place (c.in-Some.field-0-0, c.in-Some.open) c.in-Some.ensures.entry c.in-Some.ensures.entries in
    let fits = there-within (length f.usage.items) (map open_of f.charges.entries) c.args.place _ e.there c.self.invariant.1 in
    let same = c.from-at.ensures ∙ c.into_cost-pool.ensures.pool in
    let charge = open_of (c.in-Some.field-0-0, c.in-Some.open) in (
      sums-shrunk f.usage.items (map open_of c.swap_remove_index.new.self.entries) (map open_of f.charges.entries) charge c.from-at.result e.grown same (omega (arith, same, fits.0)) c.index.result.now c.index.ensures c.without_charge.result
          c.self.invariant.0 (c.without_charge.ensures ∙ ap (λ n. record { bytes = c.index.result.now.bytes - n; number = c.index.result.now.number - 1 }) c.into_cost-pool.ensures.cost),
      subst (λ n. count (is_stray n) (map open_of c.swap_remove_index.new.self.entries) ≡ 0) (sym (length-set f.usage.items c.from-at.result c.without_charge.result))
          (stray-removed (length f.usage.items) (map open_of f.charges.entries) _ charge e.grown c.self.invariant.1),
    )

pub unreachable-requires : goal.unreachable-requires
unreachable-requires g c =
    let within = rw (← c.self.view_is) at c.requires in
    no-entry c.self.inside.charges.entries c.args.place c.in-None.ensures.entry within

pub returns : goal.returns
returns g c =
    let f = c.self.inside in
    let e = ends f.charges.entries c.swap_remove_index.new.self.entries c.args.place (c.in-Some.field-0-0, c.in-Some.open) c.in-Some.ensures.entry c.in-Some.ensures.entries in
    let fits = there-within (length f.usage.items) (map open_of f.charges.entries) c.args.place _ e.there c.self.invariant.1 in
    rw (← c.self.view_is) (λ charge there.
    let same : open_of (c.in-Some.field-0-0, c.in-Some.open) ≡ charge = let h = sym e.there ∙ there in cc in
    λ i. record {
      charges = (e.left ∙ ap (swap_remove (map open_of f.charges.entries) c.args.place) same) i;
      pools = length-set f.usage.items c.from-at.result c.without_charge.result i;
    })
