-- Calls that wait are served one after the other: what is left to serve, and what was done, come to all.
use Rattle.std.proofs.Common.{◌≡◌, ℕ, ◌+◌, ◌*◌, ◌≤◌, Bool, List, [], ◌∷◌, length, Option, Some, None, refl, sym, ap, ◌∙◌, subst, arith}
use Rattle.hc_memory.specs.Memory.{Memory, after_unmark}
use Rattle.hc_history.specs.Note.{Note, Lose}
use Rattle.hc_history.specs.Told.{told_more, is_log}
use Rattle.hc_history.proofs.Telling.{told-twice, told-nothing}
use Rattle.hc_machine.specs.Nvm.{Nvm, Waiter, Wish, ToFind, ToAdd}
use Rattle.hc_machine.specs.Leaving.{Changed, unqueue, outdate}
use Rattle.hc_machine.specs.Cache.{Cache, Told, tells, on_flash, on_flash_of, unmarked_by}
use Rattle.hc_state.specs.Whole.{Whole, costs, Does}
use Rattle.hc_state.specs.wait.Commit.{clear_by}
use Rattle.hc_state.specs.wait.Courses.{AllFit, AllMayFree, served_as, standing_as, all_served_as, charges_as}
use Rattle.hc_state.specs.declared.wait.commit.Course.{Course}
use Rattle.hc_state.specs.declared.wait.commit.Course.TheVariants.{Find, Exists, Store}
use Rattle.hc_state.proofs.store.Unqueued.{does-log}

-- ---- what a served call leaves of the charges and the clock

unmark_charges : (notes : List Note) (memory : Memory) → (unmarked_by notes memory).charges ≡ memory.charges
unmark_charges [] memory = refl
unmark_charges (Lose scope cause ∷ notes) memory = unmark_charges notes (after_unmark memory scope)
unmark_charges (note ∷ notes) memory = unmark_charges notes memory

flash_charges : (f : Nvm → Changed) (nvm : Option Nvm) (cache : Cache) → (on_flash_of nvm f cache).cache.memory.charges ≡ cache.memory.charges
flash_charges f None cache = refl
flash_charges f (Some nvm) cache = unmark_charges (f nvm).part cache.memory

flash_now : (f : Nvm → Changed) (nvm : Option Nvm) (cache : Cache) → (on_flash_of nvm f cache).cache.now ≡ cache.now
flash_now f None cache = refl
flash_now f (Some nvm) cache = refl

clear_charges : (old : Option ℕ) (key : List ℕ) (cache : Cache) → (clear_by old key cache).cache.memory.charges ≡ cache.memory.charges
clear_charges old key cache =
    let one = (on_flash (unqueue key) cache).cache in
    flash_charges (outdate key) one.nvm one ∙ flash_charges (unqueue key) cache.nvm cache

clear_now : (old : Option ℕ) (key : List ℕ) (cache : Cache) → (clear_by old key cache).cache.now ≡ cache.now
clear_now old key cache =
    let one = (on_flash (unqueue key) cache).cache in
    flash_now (outdate key) one.nvm one ∙ flash_now (unqueue key) cache.nvm cache

served_charges : {A : Type 0} (call : ℕ) (wish : Wish) (course : Course A) (standing : Option ℕ) (cache : Cache) → (served_as call wish course standing cache).cache.memory.charges ≡ charges_as wish course cache.memory.charges
served_charges call ToFind (Find told reply) standing cache = refl
served_charges call ToFind Exists standing cache = refl
served_charges call ToFind (Store plan) standing cache = refl
served_charges call (ToAdd handle) (Find told reply) standing cache = refl
served_charges call (ToAdd handle) Exists standing cache = refl
served_charges call (ToAdd handle) (Store plan) standing cache = clear_charges standing handle.key cache

pub served_now : {A : Type 0} (call : ℕ) (wish : Wish) (course : Course A) (standing : Option ℕ) (cache : Cache) → (served_as call wish course standing cache).cache.now ≡ cache.now
served_now call ToFind (Find told reply) standing cache = refl
served_now call ToFind Exists standing cache = refl
served_now call ToFind (Store plan) standing cache = refl
served_now call (ToAdd handle) (Find told reply) standing cache = refl
served_now call (ToAdd handle) Exists standing cache = refl
served_now call (ToAdd handle) (Store plan) standing cache = clear_now standing handle.key cache

-- ---- the calls one by one

-- these calls are left, of so many, and with them all comes to what is told
pub record Left {A : Type 0} (key : List ℕ) (told : Told) (old : Whole) (all : ℕ) (waiters : List Waiter) (courses : List (Course A)) (standing : Option ℕ) (whole : Whole) : Type 0 where
  pub fit : AllFit (is_log whole.log) key waiters courses
  pub may_free : AllMayFree waiters courses whole.cache.memory.charges
  pub cache : (all_served_as waiters courses standing whole.cache).cache ≡ told.cache
  pub log : told_more whole.log (all_served_as waiters courses standing whole.cache).part ≡ told_more old.log told.part
  pub notes_left : 6 * length waiters ≤ whole.notes
  pub stones_left : length waiters ≤ whole.spare.stones
  pub notes : old.notes + 6 * length waiters ≤ whole.notes + 6 * all
  pub puts : old.spare.puts ≤ whole.spare.puts
  pub stones : old.spare.stones + length waiters ≤ whole.spare.stones + all
  pub fills : old.spare.fills ≤ whole.spare.fills

pub left-next : {A : Type 0} (key : List ℕ) (told : Told) (old : Whole) (all : ℕ) (w : Waiter) (waiters : List Waiter) (c : Course A) (courses : List (Course A)) (standing : Option ℕ) (mid new : Whole)
    → Left key told old all (w ∷ waiters) (c ∷ courses) standing mid → Does (served_as w.call w.wish c standing mid.cache) (costs 6 0 1 0) mid new
    → Left key told old all waiters courses (standing_as w.wish c standing) new
left-next key told old all w waiters c courses standing mid new left does =
    let served = served_as w.call w.wish c standing mid.cache in
    let s = standing_as w.wish c standing in
    let rest = λ (x : Cache). all_served_as waiters courses s x in
    record {
      fit = subst (λ b. AllFit b key waiters courses) (sym (does-log served (costs 6 0 1 0) mid new does)) left.fit.1;
      may_free = subst (λ cs. AllMayFree waiters courses cs) (sym (ap (λ (x : Cache). x.memory.charges) does.cache ∙ served_charges w.call w.wish c standing mid.cache)) left.may_free.1;
      cache = ap (λ (x : Cache). (rest x).cache) does.cache ∙ left.cache;
      log = (λ i. told_more (does.log i) (rest (does.cache i)).part) ∙ told-twice mid.log served.part (rest served.cache).part ∙ left.log;
      notes_left = omega (arith, left.notes_left, does.room.notes);
      stones_left = omega (arith, left.stones_left, does.room.stones);
      notes = omega (arith, left.notes, does.room.notes);
      puts = omega (arith, left.puts, does.room.puts);
      stones = omega (arith, left.stones, does.room.stones);
      fills = omega (arith, left.fills, does.room.fills);
    }

none_left : (waiters : List Waiter) → length waiters ≡ 0 → waiters ≡ []
none_left [] h = refl
none_left (w ∷ waiters) h = absurd (omega arith)

pub left-none : {A : Type 0} (key : List ℕ) (told : Told) (old : Whole) (all : ℕ) (waiters : List Waiter) (courses : List (Course A)) (standing : Option ℕ) (new : Whole)
    → length waiters ≡ 0 → Left key told old all waiters courses standing new → Does told (costs (6 * all) 0 all 0) old new
left-none key told old all waiters courses standing new none left =
    let last : all_served_as waiters courses standing new.cache ≡ tells [] new.cache = ap (λ ws. all_served_as ws courses standing new.cache) (none_left waiters none) in
    record {
      cache = sym (ap (λ (t : Told). t.cache) last) ∙ left.cache;
      log = sym (told-nothing new.log) ∙ ap (λ (t : Told). told_more new.log t.part) (sym last) ∙ left.log;
      room = record {
        notes = omega (arith, left.notes);
        puts = omega (arith, left.puts);
        stones = omega (arith, left.stones);
        fills = omega (arith, left.fills);
      };
    }

-- before the first of them
pub left-start : {A : Type 0} (key : List ℕ) (old : Whole) (waiters : List Waiter) (courses : List (Course A)) (standing : Option ℕ)
    → AllFit (is_log old.log) key waiters courses → AllMayFree waiters courses old.cache.memory.charges → length waiters ≤ old.spare.stones → 6 * length waiters ≤ old.notes
    → Left key (all_served_as waiters courses standing old.cache) old (length waiters) waiters courses standing old
left-start key old waiters courses standing fit may_free stones room = record {
  fit = fit;
  may_free = may_free;
  cache = refl;
  log = refl;
  notes_left = room;
  stones_left = stones;
  notes = omega arith;
  puts = omega arith;
  stones = omega arith;
  fills = omega arith;
}

-- these are the same calls
pub left-as : {A : Type 0} (key : List ℕ) (told : Told) (old : Whole) (all : ℕ) (waiters others : List Waiter) (courses plan : List (Course A)) (standing : Option ℕ) (whole : Whole) → waiters ≡ others → courses ≡ plan → Left key told old all waiters courses standing whole → Left key told old all others plan standing whole
left-as key told old all waiters others courses plan standing whole same planned left = subst (λ cs. Left key told old all others cs standing whole) planned (subst (λ ws. Left key told old all ws courses standing whole) same left)

-- each call has its course
pub has-course : {A : Type 0} (keeps : Bool) (key : List ℕ) (w : Waiter) (waiters : List Waiter) (courses : List (Course A)) → AllFit keeps key (w ∷ waiters) courses → length courses ≡ 0 → ⊥
has-course keeps key w waiters [] fit none = fit
has-course keeps key w waiters (c ∷ courses) fit none = omega (arith, none)
