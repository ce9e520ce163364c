use Rattle.std.proofs.Common.{◌≡◌, ℕ, suc, ◌-◌, ◌∷◌, List, Option, length, ap, sym, ◌∙◌, arith, subst}
use Rattle.std.specs.Vec.Iter.{into_iter_items}
use Rattle.hc_memory.specs.Item.{Handle}
use Rattle.hc_history.specs.Told.{told_more}
use Rattle.hc_machine.specs.Cache.{Cache}
use Rattle.hc_machine.specs.Schedule.{given_up}
use Rattle.hc_run.specs.Asked.{handle_of}
use Rattle.hc_run.specs.Shows.{AreOwn}
use Rattle.hc_run.specs.Slots.{filled_from}
use Rattle.hc_run.proofs.Ending.{given-known, given-own, given-told, nothing-left, next-number}
use Rattle.hc_run.proofs.helpers.give_up_all.Goals as goal

pub give_up_content-requires : goal.give_up_content-requires
give_up_content-requires g c =
    let core = c.loop-slot.core in
    let held = handle_of c.into_content.result in
    let rest = into_iter_items c.next.new.self in
    let first : into_iter_items c.loop-slot.left ≡ held ∷ rest = c.in-Some.ensures.items ∙ ap (λ h. h ∷ rest) (sym c.into_content.ensures) in
    record { mine = given-known core.cache (256 - length (held ∷ rest)) held rest (rw first at c.loop-slot.invariant.own) }

pub loop-slot-preserved : goal.loop-slot-preserved
loop-slot-preserved g c =
    let core = c.loop-slot.core in
    let new = c.give_up_content.new.core in
    let held = handle_of c.into_content.result in
    let rest = into_iter_items c.next.new.self in
    let first : into_iter_items c.loop-slot.left ≡ held ∷ rest = c.in-Some.ensures.items ∙ ap (λ h. h ∷ rest) (sym c.into_content.ensures) in
    let most = rw first at c.loop-slot.invariant.most in
    let number = next-number held rest most in
    let own = rw first at c.loop-slot.invariant.own in
    let n = 256 - length (held ∷ rest) in
    record {
      log =
          (λ i. told_more (c.give_up_content.ensures.log i) (given_up (filled_from (sym number i) rest) (c.give_up_content.ensures.cache i)).part)
          ∙ given-told core.cache n core.log held rest
          ∙ ap (λ (all : List (Option Handle)). told_more core.log (given_up (filled_from (256 - length all) all) core.cache).part) (sym first)
          ∙ c.loop-slot.invariant.log;
      own = subst (λ (k : ℕ). AreOwn (filled_from k rest) new.cache) number (subst (λ (k : Cache). AreOwn (filled_from (suc n) rest) k) (sym c.give_up_content.ensures.cache) (given-own core.cache n held rest own));
      len = omega (arith, c.in-Some.ensures.cases, ap length first, c.loop-slot.invariant.len);
      most = omega (arith, most);
    }

pub returns : goal.returns
returns g c =
    let core = c.loop-slot.core in
    let rest = into_iter_items c.loop-slot.left in
    nothing-left core.cache core.log (256 - length rest) rest (sym c.loop-slot.invariant.len ∙ c.in_default.ensures.cases.0) ∙ c.loop-slot.invariant.log

pub loop-slot-init : goal.loop-slot-init
loop-slot-init g c =
    let made = c.into_iter-left.ensures in
    let core = c.args.core.now in
    let all : length (into_iter_items c.into_iter-left.result) ≡ 256 = ap length made.rest ∙ c.requires.all in
    let zero : 256 - length (into_iter_items c.into_iter-left.result) ≡ 0 = omega (arith, all) in
    record {
      log = (λ i. told_more core.log (given_up (filled_from (zero i) (made.rest i)) core.cache).part);
      own = subst (λ (k : ℕ). AreOwn (filled_from k (into_iter_items c.into_iter-left.result)) core.cache) (sym zero) (rw made.rest c.requires.own);
      len = omega (arith, made.len, ap length made.rest);
      most = omega (arith, all);
    }

pub loop-slot-smaller : goal.loop-slot-smaller
loop-slot-smaller g c = omega (arith, c.in-Some.ensures.cases)

pub destroy_empty-requires : goal.destroy_empty-requires
destroy_empty-requires g c = c.in_default.ensures.cases.1
