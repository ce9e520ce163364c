-- A call that the small engine answers.
use Rattle.std.proofs.Common.{◌≡◌, ℕ, ◌==◌, Bool, true, false, List, None, refl, sym, inl, inr, ap, subst, ◌∙◌}
use Rattle.std.proofs.lemmas.Bool.{eqb-true}
use Rattle.std.specs.Prelude.{◌⊎◌, option_map}
use Rattle.hc_types.specs.declared.config.FlashConfig.{FlashConfig}
use Rattle.hc_engines.specs.Engine.{Op, Answer, Outcome, Next, Done, Pages, Holds, Changes, Does, held_after}
use Rattle.hc_engines.specs.small.BigHash as bighash
use Rattle.hc_engines.specs.small.BigHash.{job_at}
use Rattle.hc_engines.specs.small.Held.{job_under_way}
use Rattle.hc_engines.proofs.small.Serving.{none_under}
use Rattle.hc_engines.specs.large.Block.{work_of}
use Rattle.hc_engines.proofs.large.HeldKeys.{held_own}
use Rattle.hc_engines.specs.pair.Large.{large_held, LargeFits}
use Rattle.hc_engines.specs.pair.Pair.{Pair, by_small}
use Rattle.hc_engines.specs.pair.Held.{held, held_small, held_large, PairFits, OneHolder, Able, PairServes}
use Rattle.hc_engines.proofs.pair.Joining.{Sides, SpareLarge, small_joins}
use Rattle.hc_engines.proofs.pair.SmallSteps.{SmallServes, losses_of, small_ones}
use Rattle.hc_engines.proofs.pair.Together.{both, HasAnswer, small_holds_one, small_does}

-- the two sides of a pair
pub sides_of : (pair : Pair) (pages : Pages) → PairFits pair pages → OneHolder (held_small pair pages) (held_large pair pages) → Sides pair.small.flash (held_small pair pages) (held_large pair pages)
sides_of pair pages fits one = record {
  a_small = λ key e h. small_ones pair.small pages key e fits.small h;
  b_key = λ key e h. held_own pair.small.flash pages pair.large key e h;
  b_large = fits.large.large;
  one = one;
}

-- over these pages the large engine holds what it held
pub record LargeStands (pair : Pair) (pages after : Pages) : Type 0 where
  pub fits : LargeFits pair.small.flash pair.large after
  pub same : held_large pair after ≡ held_large pair pages

module _ (pair : Pair) (pages after : Pages) (number : ℕ) (op : Op) (m : bighash.Moved) (fits : PairFits pair pages) (serves : SmallServes op number pair.small pages m after) (stands : LargeStands pair pages after) (free : work_of number pair.large.jobs ≡ None) where
  -- also by the small engine's configuration
  theirs : held_large pair pages ≡ held_large (by_small pair m).pair after
  theirs = sym stands.same ∙ ap (λ (f : FlashConfig). large_held f pair.large after) (sym serves.flash)

  apart : (n : ℕ) → (job_at n m.state.jobs ≡ None) ⊎ (work_of n pair.large.jobs ≡ None)
  apart n = go (n == number) refl (fits.apart n)
    where
      go : (t : Bool) → (n == number) ≡ t → (job_at n pair.small.jobs ≡ None) ⊎ (work_of n pair.large.jobs ≡ None) → (job_at n m.state.jobs ≡ None) ⊎ (work_of n pair.large.jobs ≡ None)
      go true t h = inr (ap (λ (z : ℕ). work_of z pair.large.jobs) (eqb-true n number t) ∙ free)
      go false t (inl none) = inl (none_under m.state.flash (job_at n m.state.jobs) (serves.goes n ∙ rw t (ap (option_map (job_under_way pair.small.flash)) none)))
      go false t (inr none) = inr none

  pub small_fit : PairFits (by_small pair m).pair after
  small_fit = record { small = serves.keeps.fits; large = subst (λ (f : FlashConfig). LargeFits f pair.large after) (sym serves.flash) stands.fits; apart = apart }

  pub small_one_then : Able pair pages op → OneHolder (held_small (by_small pair m).pair after) (held_large (by_small pair m).pair after)
  small_one_then able =
      subst (λ (b : Holds). OneHolder (held_small (by_small pair m).pair after) b) theirs
      (small_holds_one pair.small.flash op (held_small pair pages) (held_large pair pages) (held_small (by_small pair m).pair after) (sides_of pair pages fits able.one) serves.ours able.alone m.next serves.keeps.changes)

  -- what is held together changes by the outcome
  pub small_joined : Able pair pages op → (outcome : Outcome) → m.next ≡ Done outcome → (key : List ℕ) → held (by_small pair m).pair after key ≡ held_after pair.small.flash op outcome (held pair pages) key
  small_joined able outcome over =
      subst (λ (b : Holds). (key : List ℕ) → both (held_small (by_small pair m).pair after) b key ≡ held_after pair.small.flash op outcome (held pair pages) key) theirs
      (small_joins pair.small.flash op outcome (held_small pair pages) (held_large pair pages) (sides_of pair pages fits able.one) serves.ours able.alone (subst (λ (n : Next). SpareLarge pair.small.flash (held_small pair pages) (losses_of n)) over serves.tells.losses)
      (held_small (by_small pair m).pair after) (subst (λ (n : Next). Changes pair.small.flash op n (held_small pair pages) (held_small (by_small pair m).pair after)) over serves.keeps.changes).0)

  pub small_serves : (stale : Answer → Type 0) → HasAnswer op m.next → PairServes stale op pair pages (by_small pair m) after
  small_serves stale has = record {
    flash = serves.flash;
    fit = small_fit;
    does = λ able.
        subst (λ (b : Holds). Does stale pair.small.flash op m.next (both (held_small pair pages) (held_large pair pages)) (both (held_small (by_small pair m).pair after) b)) theirs
        (small_does pair.small.flash op (held_small pair pages) (held_large pair pages) (held_small (by_small pair m).pair after) (sides_of pair pages fits able.one) serves.ours able.alone stale m.next serves.tells.losses serves.keeps.changes has);
    one = small_one_then;
    known = serves.keeps.known;
    carried_out = serves.tells.carried_out;
  }
