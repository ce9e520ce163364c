-- Small calls are the machine's steps.
use Rattle.std.proofs.Common.{◌≡◌, ℕ, ◌+◌, ◌<◌, ◌≤◌, nat_lt, max, Bool, true, false, not, ◌&&◌, List, [], ◌∷◌, length, Option, Some, None, if◌then◌else◌, refl, sym, ap, ◌∙◌, subst, arith}
use Rattle.std.specs.Prelude.{is_some, position}
use Rattle.std.specs.List.{list_any}
use Rattle.hc_types.specs.declared.refusal.Refusal.TheVariants.{ForeignHandle}
use Rattle.hc_memory.specs.Item.{Open, Handle, charge_by}
use Rattle.hc_memory.specs.Charges.{has_number, is_open, open_at}
use Rattle.hc_memory.specs.Memory.{Memory, after_free}
use Rattle.hc_memory.proofs.Books.{found_position, is_open-found}
use Rattle.hc_history.specs.Note.{Freed, Now}
use Rattle.hc_history.specs.Told.{told_more}
use Rattle.hc_machine.specs.Nvm.{Nvm, Fill, is_fill_of, fill_at, adds}
use Rattle.hc_machine.specs.Takes as flash
use Rattle.hc_machine.specs.Takes.{Take, Taken, Reclaiming}
use Rattle.hc_machine.specs.Cache.{Cache, Refused, Discarded, Moment, Took, Reclaimed, answers, stays, with_memory}
use Rattle.hc_machine.specs.Waiting.{free}
use Rattle.hc_machine.specs.Calls.{is_kept_in, is_known, discard, tick}
use Rattle.hc_machine.specs.Workers.{take_on, writer_take, reclaim_on, reclaim}
use Rattle.hc_invariant.specs.Structure.{Structured}
use Rattle.hc_waiting.specs.Fills as fills
use Rattle.hc_nvm.specs.Taking.{IsTaken}
use Rattle.hc_nvm.specs.Starting.{IsReclaimed}
use Rattle.hc_state.specs.wait.Begin.{keeps_in}
use Rattle.hc_state.specs.Whole.{Whole, IsReady, IsStep}
use Rattle.hc_state.proofs.allocate.Frees.{length-closed}
use Rattle.hc_state.proofs.allocate.Known.{keeps-known}
use Rattle.hc_state.proofs.Works.{unmarked-charges, unfilled-cache, unfilled-part}

-- ---- the clock

later_step : (moment : ℕ) (old new : Whole) (b : Bool) → nat_lt old.cache.now moment ≡ b → old.cache.now < moment → new.cache ≡ record old.cache { now = moment } → new.log ≡ told_more old.log (Now moment ∷ []) → length old.cache.memory.charges ≤ new.notes → IsStep (tick moment old.cache) (Moment moment) old new
later_step moment old new true later lt is told room =
    let at : moment ≡ max old.cache.now moment = omega (arith, lt) in
    record {
      cache = is ∙ ap (λ (n : ℕ). record old.cache { now = n }) at;
      answer_is = ap (λ n. Moment n) at;
      log = told ∙ ap (λ (b : Bool). told_more old.log (if b then Now moment ∷ [] else [])) (sym later);
      ready = subst (λ (c : Cache). length c.memory.charges ≤ new.notes) (sym is) room;
    }
later_step moment old new false later lt is told room = absurd (grind (arith, later, lt))

-- ---- replies that are taken

-- ---- handles

kept_there : (key : List ℕ) (number : ℕ) (all : List Fill) → fills.is_kept_in number (fill_at key all) ≡ true → list_any (λ (fill : Fill). list_any (adds number) fill.waiters) all ≡ true
kept_there key number [] h = h
kept_there key number (fill ∷ all) h = go (is_fill_of key fill) refl h (λ more. kept_there key number all more)
  where
    either : (b : Bool) → list_any (adds number) fill.waiters ≡ b → list_any (λ (fill : Fill). list_any (adds number) fill.waiters) all ≡ true → list_any (λ (fill : Fill). list_any (adds number) fill.waiters) (fill ∷ all) ≡ true
    either true p more = rw p refl
    either false p more = rw p more

    go : (b : Bool) → is_fill_of key fill ≡ b → fills.is_kept_in number (fill_at key (fill ∷ all)) ≡ true → (fills.is_kept_in number (fill_at key all) ≡ true → list_any (λ (fill : Fill). list_any (adds number) fill.waiters) all ≡ true)
        → list_any (λ (fill : Fill). list_any (adds number) fill.waiters) (fill ∷ all) ≡ true
    go true p h more = let own : list_any (adds number) fill.waiters ≡ true = (rw p at h) in rw own refl
    go false p h more = either (list_any (adds number) fill.waiters) refl (more (rw p at h))

-- a handle that an add keeps isn't known
pub kept-unknown : (cache : Cache) (handle : Handle) → keeps_in cache.nvm handle.key handle.number ≡ true → is_known cache handle ≡ false
kept-unknown cache handle h = go (is_open (charge_by handle) cache.memory.charges) (kept cache.nvm h)
  where
    kept : (nvm : Option Nvm) → keeps_in nvm handle.key handle.number ≡ true → is_kept_in nvm handle.number ≡ true
    kept None h = h
    kept (Some nvm) h = kept_there handle.key handle.number nvm.fills h

    go : (b : Bool) → is_kept_in cache.nvm handle.number ≡ true → (b && not (is_kept_in cache.nvm handle.number)) ≡ false
    go true h = rw h refl
    go false h = refl

-- nor one whose charge isn't open
pub closed-unknown : (cache : Cache) (handle : Handle) → is_open (charge_by handle) cache.memory.charges ≡ false → is_known cache handle ≡ false
closed-unknown cache handle h = rw h refl

pub unknown-refused : (cache : Cache) (handle : Handle) → is_known cache handle ≡ false → (discard handle cache).answer ≡ Refused ForeignHandle
unknown-refused cache handle h = ap (λ (b : Bool). (if b then answers Discarded (free handle.number cache) else stays (Refused ForeignHandle) cache).answer) h

open-known : (cache : Cache) (handle : Handle) → Structured cache → keeps_in cache.nvm handle.key handle.number ≡ false → is_open (charge_by handle) cache.memory.charges ≡ true → is_known cache handle ≡ true
open-known cache handle structured free there =
    let kept : is_kept_in cache.nvm handle.number ≡ false = sym (keeps-known cache handle structured there) ∙ free in
    λ i. there i && not (kept i)

-- a handle has a place exactly where its charge is open
pub placed-open : (charge : Open) (charges : List Open) → is_some (open_at charge charges) ≡ is_open charge charges
placed-open charge charges = go (is_open charge charges) refl
  where
    go : (b : Bool) → is_open charge charges ≡ b → is_some (open_at charge charges) ≡ b
    go true p = (λ i. is_some (if p i then position (has_number charge.number) charges else None)) ∙ ap is_some (found_position (has_number charge.number) charges charge (is_open-found charge charges p))
    go false p = λ i. is_some (if p i then position (has_number charge.number) charges else None)

-- whether the cache knows the handle, once it has a place
pub placed-known : (cache : Cache) (handle : Handle) → Structured cache → is_some (open_at (charge_by handle) cache.memory.charges) ≡ true → not (keeps_in cache.nvm handle.key handle.number) ≡ is_known cache handle
placed-known cache handle structured placed =
    let there : is_open (charge_by handle) cache.memory.charges ≡ true = sym (placed-open (charge_by handle) cache.memory.charges) ∙ placed in
    λ i. sym there i && not (keeps-known cache handle structured there i)

pub unplaced-unknown : (cache : Cache) (handle : Handle) → is_some (open_at (charge_by handle) cache.memory.charges) ≡ false → is_known cache handle ≡ false
unplaced-unknown cache handle unplaced = closed-unknown cache handle (sym (placed-open (charge_by handle) cache.memory.charges) ∙ unplaced)

pub discard-step : (handle : Handle) (old new : Whole) → Structured old.cache → IsReady old → keeps_in old.cache.nvm handle.key handle.number ≡ false → is_open (charge_by handle) old.cache.memory.charges ≡ true
    → new.cache ≡ with_memory (after_free old.cache.memory handle.number) old.cache → new.log ≡ told_more old.log (Freed handle.number ∷ []) → old.notes ≤ new.notes + 1 → IsStep (discard handle old.cache) Discarded old new
discard-step handle old new structured ready free_of there is told room =
    subst (λ (b : Bool). IsStep (if b then answers Discarded (free handle.number old.cache) else stays (Refused ForeignHandle) old.cache) Discarded old new) (sym (open-known old.cache handle structured free_of there)) (record {
      cache = is;
      answer_is = refl;
      log = told;
      ready = subst (λ (c : Cache). length c.memory.charges ≤ new.notes) (sym is) (omega (arith, length-closed (charge_by handle) old.cache.memory.charges there, ready, room));
    })

-- ---- workers

pub writer-step : (nvm after : Nvm) (memory : Memory) (take : Take) (old new : Whole) → old.cache.nvm ≡ Some nvm → IsTaken (flash.writer_take nvm) after take None old.log new.log old.cache.memory memory
    → new.cache ≡ record old.cache { memory = memory; nvm = Some after } → length old.cache.memory.charges ≤ new.notes → IsStep (writer_take old.cache) (Took take) old new
writer-step nvm after memory take old new there taken is room =
    let own : Taken = flash.writer_take nvm in
    let charges = ap (λ (m : Memory). length m.charges) taken.marks in
    let marked = ap length (unmarked-charges own.part old.cache.memory) in
    subst (λ (found : Option Nvm). IsStep (take_on found flash.writer_take old.cache) (Took take) old new) (sym there) (record {
      cache = is ∙ (λ i. record old.cache { memory = taken.marks i; nvm = Some (taken.nvm_is i) }) ∙ sym (unfilled-cache own old.cache taken.filled_is);
      answer_is = ap (λ (t : Take). Took t) taken.take_is;
      log = taken.told ∙ ap (told_more old.log) (sym (unfilled-part own old.cache taken.filled_is));
      ready = subst (λ (c : Cache). length c.memory.charges ≤ new.notes) (sym is) (omega (arith, charges, marked, room));
    })

pub reclaim-step : (nvm after : Nvm) (memory : Memory) (region : Option ℕ) (old new : Whole) → old.cache.nvm ≡ Some nvm → IsReclaimed (flash.reclaim nvm) after region old.log new.log old.cache.memory memory
    → new.cache ≡ record old.cache { memory = memory; nvm = Some after } → length old.cache.memory.charges ≤ new.notes → IsStep (reclaim old.cache) (Reclaimed region) old new
reclaim-step nvm after memory region old new there reclaimed is room =
    let own : Reclaiming = flash.reclaim nvm in
    let charges = ap (λ (m : Memory). length m.charges) reclaimed.marks in
    let marked = ap length (unmarked-charges own.change.part old.cache.memory) in
    subst (λ (found : Option Nvm). IsStep (reclaim_on found old.cache) (Reclaimed region) old new) (sym there) (record {
      cache = is ∙ (λ i. record old.cache { memory = reclaimed.marks i; nvm = Some (reclaimed.nvm_is i) });
      answer_is = ap (λ (r : Option ℕ). Reclaimed r) reclaimed.region_is;
      log = reclaimed.told;
      ready = subst (λ (c : Cache). length c.memory.charges ≤ new.notes) (sym is) (omega (arith, charges, marked, room));
    })
