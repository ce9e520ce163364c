use Rattle.std.proofs.Common.{ℕ, ◌∙◌, ap, sym, subst}
use Rattle.hc_types.specs.Loss.{scope_of}
use Rattle.hc_memory.specs.Marks.{marked, Numbered}
use Rattle.hc_memory.proofs.Unmarking.{listed-after, sound-unmarked, as-few, bits-fit, buckets-fit}
use Rattle.hc_memory.proofs.Marking.{lose-marked, lose-numbered, unmarked-marked}
use Rattle.hc_memory.proofs.pools.Pools.unmark.Goals as goal

pub invariant_of-self : goal.invariant_of-self
invariant_of-self g c =
    let i = c.self.invariant in
    rw (c.lose.ensures, c.newest.ensures) (i.0, i.1, i.2, i.3, lose-numbered c.self.inside.flash c.self.inside.marks c.in-Bucket.bucket c.self.inside.clean.newest c.self.inside.made i.4)

pub returns-in-Bucket : goal.returns-in-Bucket
returns-in-Bucket g c =
    let i = c.self.invariant in
    let pools = lose-marked c.self.inside.flash c.self.inside.marks c.in-Bucket.bucket c.self.inside.clean c.self.inside.pools.items i.2 i.4.wide i.3 in
    rw (← c.self.view_is) (rw (c.in-Bucket.is, c.lose.ensures, c.newest.ensures) (λ j. record { flash = c.self.inside.flash; pools = pools j; charges = c.self.inside.charges.charges; made = c.self.inside.made }))

pub unmark_pools-requires-clause-bits : goal.unmark_pools-requires-clause-bits
unmark_pools-requires-clause-bits g c = bits-fit c.self.inside.flash c.self.invariant.2

pub unmark_pools-requires-clause-buckets : goal.unmark_pools-requires-clause-buckets
unmark_pools-requires-clause-buckets g c = buckets-fit c.self.inside.flash c.self.invariant.2

pub unmark_pools-requires-clause-listed : goal.unmark_pools-requires-clause-listed
unmark_pools-requires-clause-listed g c = c.self.invariant.3

pub forget_covered-requires : goal.forget_covered-requires
forget_covered-requires g c = bits-fit c.self.inside.flash c.self.invariant.2

pub invariant_of-self-in-Key : goal.invariant_of-self-in-Key
invariant_of-self-in-Key g c =
    let i = c.self.invariant in
    let scope = scope_of c.args.scope.now in
    let old = c.self.inside.pools.items in
    let new = c.unmark_pools.new.pools.items in (
      sound-unmarked c.self.inside.flash scope old new c.self.inside.charges.charges c.self.inside.made i.0 c.unmark_pools.ensures,
      i.1 ∙ as-few c.self.inside.flash scope old new c.unmark_pools.ensures,
      i.2,
      rw c.unmark_pools.ensures (listed-after c.self.inside.flash c.self.inside.clean c.forget_covered.new.self scope old i.3 c.forget_covered.ensures.newest c.forget_covered.ensures.stay),
      subst (λ (n : ℕ). Numbered c.self.inside.flash c.self.inside.marks n c.self.inside.made) (sym c.forget_covered.ensures.newest) i.4,
    )

pub returns-in-Key : goal.returns-in-Key
returns-in-Key g c =
    let pools = ap (marked c.self.inside.flash c.self.inside.marks) c.unmark_pools.ensures ∙ unmarked-marked c.self.inside.flash c.self.inside.marks (scope_of c.args.scope.now) c.self.inside.pools.items in
    rw (← c.self.view_is) (λ i. record { flash = c.self.inside.flash; pools = pools i; charges = c.self.inside.charges.charges; made = c.self.inside.made })
