-- A call that the small engine answers, and a get that goes on to the large one.
use Rattle.std.proofs.Common.{◌≡◌, ℕ, List, [], Option, Some, None, refl, sym, inl, inr, ap, subst, ◌∙◌}
use Rattle.std.specs.Prelude.{◌⊎◌}
use Rattle.hc_types.specs.declared.config.FlashConfig.{FlashConfig}
use Rattle.hc_types.specs.FlashEntry.{FlashEntry}
use Rattle.hc_engines.specs.Engine.{Op, Put, Get, Delete, Flush, Reclaim, Order, Read, Write, Answer, Nothing, Over, Absent, Found, Loss, Outcome, Next, Busy, Io, Done, Pages, Holds, found, never, left_of, Changes, AnswersFor, Does, IsKnown, then_under_way}
use Rattle.hc_engines.specs.small.BigHash as bighash
use Rattle.hc_engines.specs.small.BigHash.{job_at}
use Rattle.hc_engines.proofs.small.Serving.{none_under}
use Rattle.hc_engines.specs.large.Block as block
use Rattle.hc_engines.specs.large.Block.{work_of}
use Rattle.hc_engines.specs.large.Steps as steps
use Rattle.hc_engines.specs.pair.Large.{large_held}
use Rattle.hc_engines.specs.pair.Pair.{Pair, after_losses, next_of, by_small, by_large, went_on, then_large, after_small}
use Rattle.hc_engines.specs.pair.Held.{held, held_small, PairFits, Able, PairServes}
use Rattle.hc_engines.proofs.pair.Joining.{left-append}
use Rattle.hc_engines.proofs.large.Jobs.{free_of}
use Rattle.hc_engines.proofs.pair.LargeSteps.{start_leaves}
use Rattle.hc_engines.proofs.pair.LargeGets.{large_get_serves}
use Rattle.hc_engines.proofs.pair.SmallSteps.{SmallServes, own_goes}
use Rattle.hc_engines.proofs.pair.Together.{both, HasAnswer}
use Rattle.hc_engines.proofs.pair.SmallCalls.{LargeStands, small_fit, small_one_then, small_joined, small_serves}
use Rattle.hc_engines.proofs.pair.LargeCalls.{large_serves}

absent-none : (o : Option FlashEntry) → Absent ≡ found o → o ≡ None
absent-none None h = refl
absent-none (Some e) h = absurd cc

-- ---- a get that the large engine begins, behind what the small one lost

losses-known : (pages : Pages) (losses : List Loss) (outcome : Outcome) (o : Option Order) → IsKnown pages (next_of outcome o) → IsKnown pages (next_of (after_losses losses outcome) o)
losses-known pages losses outcome None h = h
losses-known pages losses outcome (Some (Read page)) h = h
losses-known pages losses outcome (Some (Write page bytes)) h = h

-- two outcomes, one after the other
does-on : (flash : FlashConfig) (stale : Answer → Type 0) (key : List ℕ) (losses : List Loss) (outcome : Outcome) (o : Option Order) (old mid new : Holds) → ((k : List ℕ) → mid k ≡ left_of flash losses (old k))
    → Does never flash (Get key) (next_of outcome o) mid new → Does stale flash (Get key) (next_of (after_losses losses outcome) o) old new
does-on flash stale key losses outcome None old mid new first second = (λ k. second.0 k ∙ ap (left_of flash outcome.losses) (first k) ∙ left-append flash losses outcome.losses (old k), right second.1)
  where
    right : (outcome.answer ≡ found (new key)) ⊎ ⊥ → AnswersFor stale (Get key) outcome.answer new
    right (inl h) = inl h
    right (inr h) = absurd h
does-on flash stale key losses outcome (Some order) old mid new first second = (second.0, λ k. second.1 k ∙ ap (left_of flash outcome.losses) (first k) ∙ left-append flash losses outcome.losses (old k))

module _ (pair : Pair) (pages after : Pages) (number : ℕ) (key : List ℕ) (m : bighash.Moved) (outcome : Outcome) (fits : PairFits pair pages) (serves : SmallServes (Get key) number pair.small pages m after) (stands : LargeStands pair pages after)
    (free : work_of number pair.large.jobs ≡ None) (over : m.next ≡ Done outcome) (absent : outcome.answer ≡ Absent) where
  abbrev begun : block.Moved
  begun = steps.get m.state.flash number key pair.large

  none_here : held_small (by_small pair m).pair after key ≡ None
  none_here = absent-none (held_small (by_small pair m).pair after key) (sym absent ∙ (subst (λ (n : Next). Changes pair.small.flash (Get key) n (held_small pair pages) (held_small (by_small pair m).pair after)) over serves.keeps.changes).1)

  over_here : job_at number m.state.jobs ≡ None
  over_here = none_under m.state.flash (job_at number m.state.jobs) (own_goes number (Get key) pair.small pages m after serves ∙ ap (then_under_way (Get key)) over)

  right : (new : Holds) (answer : Answer) → AnswersFor never (Get key) answer new → AnswersFor never (Get key) answer (both (held_small (by_small pair m).pair after) new)
  right new answer (inl h) = inl (rw none_here h)
  right new answer (inr h) = absurd h

  fit : PairFits (by_small pair m).pair after
  fit = small_fit pair pages after number (Get key) m fits serves stands free

  second : PairServes never (Get key) (by_small pair m).pair after (by_large (by_small pair m).pair [] begun) after
  second = large_serves (by_small pair m).pair after after number (Get key) begun never never fit (record { fits = fit.small; same = refl })
      (large_get_serves m.state.flash after number key pair.large fit.large (free_of number pair.large.jobs free)) (start_leaves m.state.flash number (Get key) pair.large fit.large.good.sound free) over_here tt (λ able k e h. refl)
      (λ one. right (large_held m.state.flash begun.state after))

  able_on : Able pair pages (Get key) → Able (by_small pair m).pair after (Get key)
  able_on able = record { one = small_one_then pair pages after number (Get key) m fits serves stands free able; alone = tt }

  goes_on : (stale : Answer → Type 0) → PairServes stale (Get key) pair pages (by_large (by_small pair m).pair outcome.losses begun) after
  goes_on stale = record {
    flash = serves.flash;
    fit = second.fit;
    does = λ able. does-on pair.small.flash stale key outcome.losses begun.outcome begun.order (held pair pages) (held (by_small pair m).pair after) (held (by_large (by_small pair m).pair [] begun).pair after)
        (small_joined pair pages after number (Get key) m fits serves stands free able outcome over)
        (subst (λ (f : FlashConfig). Does never f (Get key) (next_of begun.outcome begun.order) (held (by_small pair m).pair after) (held (by_large (by_small pair m).pair [] begun).pair after)) serves.flash (second.does (able_on able)));
    one = λ able. second.one (able_on able);
    known = losses-known after outcome.losses begun.outcome begun.order second.known;
    carried_out = tt;
  }

-- ---- what the small engine answered

no_get : (op : Op) (next : Next) → ((key : List ℕ) → op ≡ Get key → ⊥) → HasAnswer op next
no_get op Busy isnt = tt
no_get op (Io order outcome) isnt = tt
no_get op (Done outcome) isnt = λ key e absent. isnt key e

module _ (pair : Pair) (pages after : Pages) (number : ℕ) (m : bighash.Moved) (fits : PairFits pair pages) (stands : LargeStands pair pages after) (free : work_of number pair.large.jobs ≡ None) (stale : Answer → Type 0) where
  stays : (op : Op) → SmallServes op number pair.small pages m after → (next : Next) → m.next ≡ next → HasAnswer op next → PairServes stale op pair pages (record { pair = (by_small pair m).pair; next = next }) after
  stays op serves next e has = subst (λ (n : Next). HasAnswer op n → PairServes stale op pair pages (record { pair = (by_small pair m).pair; next = n }) after) e (small_serves pair pages after number op m fits serves stands free stale) has

  by_answer : (key : List ℕ) → SmallServes (Get key) number pair.small pages m after → (outcome : Outcome) → m.next ≡ Done outcome → (answer : Answer) → outcome.answer ≡ answer
      → PairServes stale (Get key) pair pages (went_on number key (by_small pair m).pair outcome answer) after
  by_answer key serves outcome e Nothing is = stays (Get key) serves (Done outcome) e (λ k h g. let wrong : Nothing ≡ Absent = sym is ∙ g in cc)
  by_answer key serves outcome e Over is = stays (Get key) serves (Done outcome) e (λ k h g. let wrong : Over ≡ Absent = sym is ∙ g in cc)
  by_answer key serves outcome e Absent is = goes_on pair pages after number key m outcome fits serves stands free e is stale
  by_answer key serves outcome e (Found x) is = stays (Get key) serves (Done outcome) e (λ k h g. let wrong : Found x ≡ Absent = sym is ∙ g in cc)

  pub small_call : (op : Op) → SmallServes op number pair.small pages m after → PairServes stale op pair pages (after_small number op (by_small pair m)) after
  small_call op serves = go op serves m.next refl
    where
      go : (op : Op) → SmallServes op number pair.small pages m after → (next : Next) → m.next ≡ next → PairServes stale op pair pages (then_large number op (by_small pair m).pair next) after
      go (Put e) serves next is = stays (Put e) serves next is (no_get (Put e) next (λ k h. cc))
      go (Get key) serves Busy is = stays (Get key) serves Busy is tt
      go (Get key) serves (Io order outcome) is = stays (Get key) serves (Io order outcome) is tt
      go (Get key) serves (Done outcome) is = by_answer key serves outcome is outcome.answer refl
      go (Delete key) serves next is = stays (Delete key) serves next is (no_get (Delete key) next (λ k h. cc))
      go Flush serves next is = stays Flush serves next is (no_get Flush next (λ k h. cc))
      go Reclaim serves next is = stays Reclaim serves next is (no_get Reclaim next (λ k h. cc))
