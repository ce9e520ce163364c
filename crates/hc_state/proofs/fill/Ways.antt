-- A fill ends with a result or as it is taken: what is known of either way.
use Rattle.std.proofs.Common.{◌≡◌, ℕ, List, Option, Some, None, inr, refl, sym, ap, ◌∙◌, subst, arith}
use Rattle.std.specs.Prelude.{option_map, IsSome}
use Rattle.hc_types.specs.declared.refusal.Refusal.TheVariants.{NoMemory}
use Rattle.hc_flash.specs.Seen.{result_of}
use Rattle.hc_memory.specs.Memory.{linked_at}
use Rattle.hc_machine.specs.Nvm.{Nvm, Waiter, fill_at}
use Rattle.hc_machine.specs.Takes as flash
use Rattle.hc_machine.specs.Takes.{Taken, Filled}
use Rattle.hc_machine.specs.Cache.{Cache, Answer}
use Rattle.hc_machine.specs.Workers.{after_take, after_finish, take_on, finish_on}
use Rattle.hc_invariant.specs.Structure.{Structured}
use Rattle.hc_proof.specs.structure.Takes.{Leaves}
use Rattle.hc_proof.proofs.structure.Parts.{parts_of}
use Rattle.hc_proof.proofs.structure.Takes.{finish_leaves, filler_leaves}
use Rattle.hc_nvm.specs.Endings.{Ending, Shows}
use Rattle.hc_nvm.specs.Filled.{filled_of}
use Rattle.hc_nvm.specs.declared.filler.Filled as ended
use Rattle.hc_nvm.specs.declared.filler.Taken as answered
use Rattle.hc_state.specs.Answers.{IsReason}
use Rattle.hc_state.specs.fill.Plan.{taken_by, EndsBy, step_by, found_by, losses_by, IsOver, IsOverBy, IsEndingAtOnceIn, IsNextIn}
use Rattle.hc_state.specs.fill.Commit.{EndsAtOnceIn, TookIn, TookBy, finish_in, filler_take_in, most_told_in}
use Rattle.hc_state.specs.wait.Commit.{waiters_at}
use Rattle.hc_state.specs.Whole.{Whole, IsStep}
use Rattle.hc_state.specs.declared.fill.commit.Way.{Way}
use Rattle.hc_state.specs.declared.fill.commit.Way.TheVariants.{Handed, AtOnce}
use Rattle.hc_state.proofs.fill.Done.{filled-is, ends-bare, waits-bare}

-- ---- steps

-- what was taken is the machine's step
pub taken-step : {A : Type 0} (way : Way A) (answer : Answer) (taken : Taken) (old new : Whole) → taken_by way old.cache.nvm ≡ Some taken → IsStep (after_take taken old.cache) answer old new → IsStep (step_by way old.cache) answer old new
taken-step (Handed number came) answer taken old new is step = go old.cache.nvm is
  where
    go : (nvm : Option Nvm) → finish_in nvm number (result_of came) ≡ Some taken → IsStep (finish_on nvm number (result_of came) old.cache) answer old new
    go None is = absurd cc
    go (Some nvm) is = subst (λ (t : Option Taken). IsStep (after_finish t old.cache) answer old new) (sym is) step
taken-step AtOnce answer taken old new is step = go old.cache.nvm is
  where
    go : (nvm : Option Nvm) → filler_take_in nvm ≡ Some taken → IsStep (take_on nvm flash.filler_take old.cache) answer old new
    go None is = absurd cc
    go (Some nvm) is = subst (λ (t : Option Taken). IsStep (after_finish t old.cache) answer old new) (sym is) step

-- ---- what was asked

pub some-of : {X : Type 0} (o : Option X) → IsSome o → (x : X) × (o ≡ Some x)
some-of None some = absurd cc
some-of (Some x) some = (x, refl)

pub ends-once-in : (nvm : Option Nvm) (ending : Ending) → IsEndingAtOnceIn nvm (Some ending) → EndsAtOnceIn nvm ending
ends-once-in None ending is = is
ends-once-in (Some nvm) ending is = is

-- the fill that is next is that of the key
pub next-key : (key : List ℕ) (nvm : Option Nvm) (ending : Ending) → IsNextIn nvm (Some key) → EndsAtOnceIn nvm ending → ending.key ≡ Some key
next-key key None ending next ends = absurd ends
next-key key (Some nvm) ending next ends = ends.key_is ∙ sym ends.next ∙ sym next.0

-- ---- what is taken

-- without flash none is
pub no-way : {A : Type 0} (way : Way A) (ending : Ending) → EndsBy way None ending → ⊥
no-way (Handed number came) ending ends = ends
no-way AtOnce ending ends = ends

abbrev shown_if : Option Taken → Nvm → Ending → Type 0
shown_if None nvm ending = ⊥
shown_if (Some taken) nvm ending = Shows taken nvm.fills ending

pub shows-by : {A : Type 0} (way : Way A) (nvm : Nvm) (ending : Ending) (taken : Taken) → EndsBy way (Some nvm) ending → taken_by way (Some nvm) ≡ Some taken → Shows taken nvm.fills ending
shows-by (Handed number came) nvm ending taken ends is = ends.shows taken is
shows-by AtOnce nvm ending taken ends is = subst (λ (t : Option Taken). shown_if t nvm ending) is ends.shows

abbrev leaves_if : Nvm → Option Taken → Type 0
leaves_if nvm None = ⊥
leaves_if nvm (Some taken) = Leaves nvm taken

-- what it leaves of the queue, the fills and the jobs
pub leaves-by : {A : Type 0} (way : Way A) (cache : Cache) (nvm : Nvm) (taken : Taken) → cache.nvm ≡ Some nvm → Structured cache → taken_by way (Some nvm) ≡ Some taken → Leaves nvm taken
leaves-by (Handed number came) cache nvm taken is s taken_is =
    let stands : Structured (record cache { nvm = Some nvm }) = subst (λ o. Structured (record cache { nvm = o })) is s in
    finish_leaves nvm number (result_of came) taken (parts_of cache.memory (Some nvm) stands).1 taken_is
leaves-by AtOnce cache nvm taken is s taken_is =
    let stands : Structured (record cache { nvm = Some nvm }) = subst (λ o. Structured (record cache { nvm = o })) is s in
    subst (leaves_if nvm) taken_is (filler_leaves nvm (λ key. omega (arith, stands.one_place key)) (parts_of cache.memory (Some nvm) stands).1)

-- no item is linked under its key
pub way-bare : {A : Type 0} (way : Way A) (ending : Ending) (key : List ℕ) (cache : Cache) → EndsBy way cache.nvm ending → ending.key ≡ Some key → Structured cache → linked_at key cache.memory.pools ≡ None
way-bare (Handed number came) ending key cache ends key_is s = ends-bare number (result_of came) ending key cache ends key_is s
way-bare {A = A} AtOnce ending key cache ends key_is s = go cache.nvm refl ends
  where
    go : (nvm : Option Nvm) → cache.nvm ≡ nvm → EndsBy {A = A} AtOnce nvm ending → linked_at key cache.memory.pools ≡ None
    go None is e = absurd e
    go (Some nvm) is e = waits-bare key cache nvm (fill_at key nvm.fills) is refl (e.shows.waits key key_is) s

-- ---- the fill is handed up

-- it is a fill's
pub filled-there : {A : Type 0} (filled : Option (ended.Filled A)) (over : Filled) → option_map filled_of filled ≡ Some over → IsSome filled
filled-there None over is = absurd cc
filled-there (Some filled) over is = refl

module _ {A : Type 0} (way : Way A) (ending : Ending) (key : List ℕ) (result : answered.Taken A) (old new : Whole) (key_is : ending.key ≡ Some key) where
  filled_in : (nvm : Nvm) (taken : Taken) → EndsBy way (Some nvm) ending → taken_by way (Some nvm) ≡ Some taken → TookIn taken (most_told_in (losses_by ending) old.cache.nvm) result old new → option_map filled_of result.filled ≡ Some (record { entry = found_by ending; waiters = waiters_at (Some nvm) key })
  filled_in nvm taken ends is took = took.filled_is ∙ filled-is key nvm taken ending (shows-by way nvm ending taken ends is) key_is

  ended_in : (nvm : Option Nvm) (taken : Option Taken) → EndsBy way nvm ending → taken_by way nvm ≡ taken → TookBy taken (most_told_in (losses_by ending) old.cache.nvm) result old new → IsSome result.filled
  ended_in None taken ends is took = absurd (no-way way ending ends)
  ended_in (Some nvm) None ends is took = absurd took
  ended_in (Some nvm) (Some taken) ends is took = filled-there result.filled _ (filled_in nvm taken ends is took)

  pub ended-there : EndsBy way old.cache.nvm ending → TookBy (taken_by way old.cache.nvm) (most_told_in (losses_by ending) old.cache.nvm) result old new → IsSome result.filled
  ended-there ends took = ended_in old.cache.nvm (taken_by way old.cache.nvm) ends refl took

  module _ (waiters : List Waiter) (given : (over : Filled) → option_map filled_of result.filled ≡ Some over → waiters ≡ over.waiters) where
    over_in : (nvm : Nvm) (taken : Taken) → old.cache.nvm ≡ Some nvm → EndsBy way (Some nvm) ending → taken_by way (Some nvm) ≡ Some taken → TookIn taken (most_told_in (losses_by ending) old.cache.nvm) result old new → IsOver key ending taken result.take waiters old new
    over_in nvm taken is ends taken_is took =
        let shows = shows-by way nvm ending taken ends taken_is in
        let own : waiters ≡ waiters_at (Some nvm) key = given _ (filled_in nvm taken ends taken_is took) in
        record {
          does = took.does;
          take_is = took.take_is;
          waiters_are = own ∙ ap (λ (o : Option Nvm). waiters_at o key) (sym is);
          filled_is = filled-is key nvm taken ending shows key_is ∙ ap (λ (ws : List Waiter). Some (record { entry = found_by ending; waiters = ws })) (sym own);
          losses = shows.losses;
        }

    over_by : (nvm : Option Nvm) (taken : Option Taken) → old.cache.nvm ≡ nvm → EndsBy way nvm ending → taken_by way nvm ≡ taken → TookBy taken (most_told_in (losses_by ending) old.cache.nvm) result old new → IsOverBy taken key ending result.take waiters old new
    over_by nvm None is ends taken_is took = absurd took
    over_by None (Some taken) is ends taken_is took = absurd (no-way way ending ends)
    over_by (Some nvm) (Some taken) is ends taken_is took = over_in nvm taken is ends taken_is took

    pub over-by : EndsBy way old.cache.nvm ending → TookBy (taken_by way old.cache.nvm) (most_told_in (losses_by ending) old.cache.nvm) result old new → IsOverBy (taken_by way old.cache.nvm) key ending result.take waiters old new
    over-by ends took = over_by old.cache.nvm (taken_by way old.cache.nvm) refl ends refl took

-- ---- refusals

-- the machine refuses nothing then
pub ends-reason : {A : Type 0} (way : Way A) (ending : Ending) (cache : Cache) → EndsBy way cache.nvm ending → IsReason (step_by way cache).answer NoMemory
ends-reason (Handed number came) ending cache ends = go cache.nvm ends
  where
    by : (taken : Option Taken) → IsSome taken → IsReason (after_finish taken cache).answer NoMemory
    by None some = absurd cc
    by (Some taken) some = inr (refl, refl)

    go : (nvm : Option Nvm) → EndsBy (Handed number came) nvm ending → IsReason (finish_on nvm number (result_of came) cache).answer NoMemory
    go None e = absurd e
    go (Some nvm) e = by (flash.finish number (result_of came) nvm) e.steps
ends-reason {A = A} AtOnce ending cache ends = go cache.nvm ends
  where
    go : (nvm : Option Nvm) → EndsBy {A = A} AtOnce nvm ending → IsReason (take_on nvm flash.filler_take cache).answer NoMemory
    go None e = absurd e
    go (Some nvm) e = inr (refl, refl)
