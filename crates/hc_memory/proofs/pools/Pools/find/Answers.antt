use Rattle.std.proofs.Common.{Some, is_some, refl, sym, ◌∙◌, ap, arith, length, length-set}
use Rattle.hc_memory.specs.Memory.{home_of, value_at}
use Rattle.hc_memory.proofs.Making.{home-within}
use Rattle.hc_memory.proofs.Finding.{hit-value, miss-value, hit-place, found, missed}
use Rattle.hc_memory.specs.Marks.{is_stale, marked}
use Rattle.hc_memory.proofs.Looking.{read-there}
use Rattle.hc_memory.proofs.Listing.{listed-used}
use Rattle.hc_memory.proofs.Unmarked.{value-off, find-off}
use Rattle.hc_memory.proofs.pools.Pools.find.Goals as goal

pub index_mut-requires : goal.index_mut-requires
index_mut-requires g c =
    let place = hit-place (home_of c.args.key.now c.as_slice.result.now) c.in-Ok-Some.field-0 c.in-Ok-Some.at c.in-Ok-Some.value c.in-Ok-Some.field-0-is c.in-Ok-Some.ensures.place in
    let lt = home-within c.args.key.now c.self.inside.pools.items c.in-Ok-Some.at (sym (ap (home_of c.args.key.now) c.as_slice.ensures.value) ∙ place) in
    omega (arith, lt, c.as_slice.ensures.len, ap length c.as_slice.ensures.value)

pub invariant_of-self : goal.invariant_of-self
invariant_of-self g c =
    let i = c.self.invariant in
    let place = hit-place (home_of c.args.key.now c.as_slice.result.now) c.in-Ok-Some.field-0 c.in-Ok-Some.at c.in-Ok-Some.value c.in-Ok-Some.field-0-is c.in-Ok-Some.ensures.place in
    let value = hit-value c.in-Ok-Some.field-0 c.in-Ok-Some.at c.in-Ok-Some.value _ c.in-Ok-Some.field-0-is c.in-Ok-Some.ensures.value in
    let f = found c.args.key.now c.args.now c.self.inside.pools.items c.self.inside.charges.charges c.self.inside.made c.in-Ok-Some.at c.index_mut.result.now c.promote.new.self i.0
    (sym (ap (home_of c.args.key.now) c.as_slice.ensures.value) ∙ place) (ap is_some (sym (value ∙ ap (value_at c.args.now c.args.key.now) c.as_slice.ensures.value))) c.index_mut.ensures.value c.promote.ensures in
    (f.sound, i.1 ∙ sym (length-set c.self.inside.pools.items c.in-Ok-Some.at c.promote.new.self), i.2, listed-used c.self.inside.flash c.self.inside.clean c.args.key.now c.self.inside.pools.items c.in-Ok-Some.at c.index_mut.result.now c.promote.new.self i.3 (read-there c.self.inside.pools.items c.in-Ok-Some.at c.index_mut.result.now (home-within c.args.key.now c.self.inside.pools.items c.in-Ok-Some.at (sym (ap (home_of c.args.key.now) c.as_slice.ensures.value) ∙ place)) c.index_mut.ensures.value) c.promote.ensures, i.4)

pub returns-in-Ok-Some-clause-value : goal.returns-in-Ok-Some-clause-value
returns-in-Ok-Some-clause-value g c =
    let value = hit-value c.in-Ok-Some.field-0 c.in-Ok-Some.at c.in-Ok-Some.value _ c.in-Ok-Some.field-0-is c.in-Ok-Some.ensures.value in
    rw (← c.self.view_is) (ap Some c.new.ensures ∙ value ∙ ap (value_at c.args.now c.args.key.now) c.as_slice.ensures.value ∙ sym (value-off (is_stale c.self.inside.flash c.self.inside.marks) c.args.now c.args.key.now c.self.inside.pools.items))

pub returns-in-Ok-Some-clause-pools : goal.returns-in-Ok-Some-clause-pools
returns-in-Ok-Some-clause-pools g c =
    let place = hit-place (home_of c.args.key.now c.as_slice.result.now) c.in-Ok-Some.field-0 c.in-Ok-Some.at c.in-Ok-Some.value c.in-Ok-Some.field-0-is c.in-Ok-Some.ensures.place in
    let value = hit-value c.in-Ok-Some.field-0 c.in-Ok-Some.at c.in-Ok-Some.value _ c.in-Ok-Some.field-0-is c.in-Ok-Some.ensures.value in
    let f = found c.args.key.now c.args.now c.self.inside.pools.items c.self.inside.charges.charges c.self.inside.made c.in-Ok-Some.at c.index_mut.result.now c.promote.new.self c.self.invariant.0
    (sym (ap (home_of c.args.key.now) c.as_slice.ensures.value) ∙ place) (ap is_some (sym (value ∙ ap (value_at c.args.now c.args.key.now) c.as_slice.ensures.value))) c.index_mut.ensures.value c.promote.ensures in
    rw (← c.self.view_is) (λ i. record { flash = c.self.inside.flash; pools = (ap (marked c.self.inside.flash c.self.inside.marks) f.pools ∙ sym (find-off (is_stale c.self.inside.flash c.self.inside.marks) c.args.now c.args.key.now c.self.inside.pools.items)) i; charges = c.self.inside.charges.charges; made = c.self.inside.made })

pub returns-in-Ok-None-clause-value : goal.returns-in-Ok-None-clause-value
returns-in-Ok-None-clause-value g c =
    let value = miss-value c.in-Ok-None.field-0 _ c.in-Ok-None.field-0-is c.in-Ok-None.ensures.value in
    rw (← c.self.view_is) (value ∙ ap (value_at c.args.now c.args.key.now) c.as_slice.ensures.value ∙ sym (value-off (is_stale c.self.inside.flash c.self.inside.marks) c.args.now c.args.key.now c.self.inside.pools.items))

pub returns-in-Ok-None-clause-pools : goal.returns-in-Ok-None-clause-pools
returns-in-Ok-None-clause-pools g c =
    let value = miss-value c.in-Ok-None.field-0 _ c.in-Ok-None.field-0-is c.in-Ok-None.ensures.value in
    let same = missed c.args.key.now c.args.now c.self.inside.pools.items (value ∙ ap (value_at c.args.now c.args.key.now) c.as_slice.ensures.value) in
    rw (← c.self.view_is) (λ i. record { flash = c.self.inside.flash; pools = sym (find-off (is_stale c.self.inside.flash c.self.inside.marks) c.args.now c.args.key.now c.self.inside.pools.items ∙ ap (marked c.self.inside.flash c.self.inside.marks) same) i; charges = c.self.inside.charges.charges; made = c.self.inside.made })

pub returns-in-Err-clause-err : goal.returns-in-Err-clause-err
returns-in-Err-clause-err g c = rw (← c.self.view_is) refl
