-- A call that the large engine answers.
use Rattle.std.proofs.Common.{◌≡◌, ℕ, ◌==◌, Bool, true, false, List, [], Option, Some, None, refl, sym, inl, inr, ap, subst, ◌∙◌}
use Rattle.std.proofs.lemmas.Bool.{eqb-true}
use Rattle.std.specs.Prelude.{◌⊎◌, option_map}
use Rattle.hc_types.specs.FlashEntry.{FlashEntry}
use Rattle.hc_engines.specs.Engine.{Op, Order, Answer, Outcome, Pages, Holds, AnswersFor, Does, Serves}
use Rattle.hc_engines.specs.small.BigHash.{job_at}
use Rattle.hc_engines.specs.small.Held.{StateFits}
use Rattle.hc_engines.specs.large.Block.{Moved, work_of}
use Rattle.hc_engines.specs.pair.Large.{large_held, LargeFits}
use Rattle.hc_engines.specs.pair.Pair.{Pair, next_of, by_large}
use Rattle.hc_engines.specs.pair.Held.{work_under_way, held_small, held_large, PairFits, OneHolder, Able, IsCarriedOut, PairServes}
use Rattle.hc_engines.proofs.pair.Joining.{AreLargeLosses, names}
use Rattle.hc_engines.proofs.pair.LargeSteps.{Leaves}
use Rattle.hc_engines.proofs.pair.Numbers.{mapped_none}
use Rattle.hc_engines.proofs.pair.SmallSteps.{losses_of}
use Rattle.hc_engines.proofs.pair.SmallCalls.{sides_of}
use Rattle.hc_engines.proofs.pair.Together.{both, large_holds_one, large_does}

-- over these pages the small engine holds what it held
pub record SmallStands (pair : Pair) (pages after : Pages) : Type 0 where
  pub fits : StateFits pair.small after
  pub same : held_small pair after ≡ held_small pair pages

losses-next : (outcome : Outcome) (o : Option Order) → AreLargeLosses outcome.losses → AreLargeLosses (losses_of (next_of outcome o))
losses-next outcome None h = h
losses-next outcome (Some order) h = h

module _ (pair : Pair) (pages after : Pages) (number : ℕ) (op : Op) (m : Moved) (stale then_stale : Answer → Type 0) (fits : PairFits pair pages) (stands : SmallStands pair pages after)
    (serves : Serves (LargeFits pair.small.flash) (large_held pair.small.flash) stale pair.small.flash op (next_of m.outcome m.order) pair.large pages m.state after) (leaves : Leaves pair.small.flash number op pair.large m)
    (none : job_at number pair.small.jobs ≡ None) (carried : IsCarriedOut op (next_of m.outcome m.order))
    (apart : Able pair pages op → (key : List ℕ) (e : FlashEntry) → held_small pair pages key ≡ Some e → names op key ≡ false)
    (right : OneHolder (held_small pair after) (large_held pair.small.flash m.state after) → (answer : Answer) → AnswersFor stale op answer (large_held pair.small.flash m.state after)
    → AnswersFor then_stale op answer (both (held_small pair after) (large_held pair.small.flash m.state after))) where
  numbers : (n : ℕ) → (job_at n pair.small.jobs ≡ None) ⊎ (work_of n m.state.jobs ≡ None)
  numbers n = go (n == number) refl (fits.apart n)
    where
      go : (t : Bool) → (n == number) ≡ t → (job_at n pair.small.jobs ≡ None) ⊎ (work_of n pair.large.jobs ≡ None) → (job_at n pair.small.jobs ≡ None) ⊎ (work_of n m.state.jobs ≡ None)
      go true t h = inl (ap (λ (z : ℕ). job_at z pair.small.jobs) (eqb-true n number t) ∙ none)
      go false t (inl h) = inl h
      go false t (inr h) = inr (mapped_none (work_under_way pair.small.flash m.state) (work_of n m.state.jobs) (leaves.goes n ∙ rw t (ap (option_map (work_under_way pair.small.flash pair.large)) h)))

  one_then : Able pair pages op → OneHolder (held_small pair pages) (large_held pair.small.flash m.state after)
  one_then able = large_holds_one pair.small.flash op (held_small pair pages) (held_large pair pages) (large_held pair.small.flash m.state after) (sides_of pair pages fits able.one) (apart able) stale (next_of m.outcome m.order) serves.does

  pub large_serves : PairServes then_stale op pair pages (by_large pair [] m) after
  large_serves = record {
    flash = refl;
    fit = record { small = stands.fits; large = serves.fit; apart = numbers };
    does = λ able.
        subst (λ (a : Holds). (OneHolder a (large_held pair.small.flash m.state after) → (answer : Answer) → AnswersFor stale op answer (large_held pair.small.flash m.state after) → AnswersFor then_stale op answer (both a (large_held pair.small.flash m.state after)))
        → Does then_stale pair.small.flash op (next_of m.outcome m.order) (both (held_small pair pages) (held_large pair pages)) (both a (large_held pair.small.flash m.state after))) (sym stands.same)
        (λ right. large_does pair.small.flash op (held_small pair pages) (held_large pair pages) (large_held pair.small.flash m.state after) (sides_of pair pages fits able.one) (apart able) stale then_stale (right (one_then able)) (next_of m.outcome m.order)
        (losses-next m.outcome m.order leaves.losses) serves.does)
        right;
    one = λ able. subst (λ (a : Holds). OneHolder a (large_held pair.small.flash m.state after)) (sym stands.same) (one_then able);
    known = serves.known;
    carried_out = carried;
  }
