-- The job of a key's fill is another, or none: all else stays.
use Rattle.std.proofs.Common.{◌≡◌, ℕ, ◌+◌, ◌≤◌, ◌==◌, Bool, true, false, not, List, [], ◌∷◌, ◌++◌, length, map, Option, Some, None, refl, ap, sym, ◌∙◌, arith, subst}
use Rattle.std.specs.Prelude.{if◌then◌else◌}
use Rattle.hc_types.specs.Config.{Config}
use Rattle.hc_types.specs.Tally.{count}
use Rattle.hc_types.specs.declared.config.FlashConfig.{FlashConfig}
use Rattle.hc_engines.specs.Engine.{Pages}
use Rattle.hc_memory.specs.Memory.{Memory}
use Rattle.hc_memory.proofs.Keyed.{same_bytes}
use Rattle.hc_history.specs.Note.{Note}
use Rattle.hc_history.specs.Pages.{bytes_at}
use Rattle.hc_machine.specs.Nvm.{Nvm, Waiter, Fill, fill_at, is_fill_of, without_fill, is_number_in, adds}
use Rattle.hc_machine.specs.Cache.{Cache}
use Rattle.hc_invariant.specs.Tells.{waiters_of, asked_in, asked_by, is_call}
use Rattle.hc_invariant.specs.Jobs.{AllFill, BringsIf}
use Rattle.hc_invariant.specs.Good.{Agrees, AllSized}
use Rattle.hc_invariant.specs.Standing.{first_of}
use Rattle.hc_proof.specs.frames.Midst.{FlashMidst, AllWishes, none_moves}
use Rattle.hc_proof.proofs.calls.CallBooks.{asks_anew}
use Rattle.hc_proof.proofs.frames.Fills.{with_fills}
use Rattle.hc_proof.proofs.frames.BetweenSteps.{still_none, good_is_rest, rest_is_good}

abbrev pub rejob : List ℕ → Option ℕ → List Fill → List Fill
rejob key job fills = map (λ (fill : Fill). if is_fill_of key fill then record fill { job = job } else fill) fills

-- ---- what stays of the list

pub rejob_waiters : (key : List ℕ) (job : Option ℕ) (fills : List Fill) → waiters_of (rejob key job fills) ≡ waiters_of fills
rejob_waiters key job [] = refl
rejob_waiters key job (fill ∷ fills) = step (is_fill_of key fill) (rejob_waiters key job fills)
  where
    step : (b : Bool) → waiters_of (rejob key job fills) ≡ waiters_of fills → waiters_of ((if b then record fill { job = job } else fill) ∷ rejob key job fills) ≡ fill.waiters ++ waiters_of fills
    step true h = ap (λ (ws : List Waiter). fill.waiters ++ ws) h
    step false h = ap (λ (ws : List Waiter). fill.waiters ++ ws) h

pub rejob_asks : (n : ℕ) (key : List ℕ) (job : Option ℕ) (fills : List Fill) → asked_in n (rejob key job fills) ≡ asked_in n fills
rejob_asks n key job [] = refl
rejob_asks n key job (fill ∷ fills) = step (is_fill_of key fill) (rejob_asks n key job fills)
  where
    step : (b : Bool) → asked_in n (rejob key job fills) ≡ asked_in n fills → asked_in n ((if b then record fill { job = job } else fill) ∷ rejob key job fills) ≡ first_of (asked_by n fill.key fill.waiters) (asked_in n fills)
    step true h = ap (first_of (asked_by n fill.key fill.waiters)) h
    step false h = ap (first_of (asked_by n fill.key fill.waiters)) h

pub rejob_keys : (k key : List ℕ) (job : Option ℕ) (fills : List Fill) → count (is_fill_of k) (rejob key job fills) ≡ count (is_fill_of k) fills
rejob_keys k key job [] = refl
rejob_keys k key job (fill ∷ fills) = step (is_fill_of key fill) (rejob_keys k key job fills)
  where
    step : (b : Bool) → count (is_fill_of k) (rejob key job fills) ≡ count (is_fill_of k) fills → count (is_fill_of k) ((if b then record fill { job = job } else fill) ∷ rejob key job fills) ≡ count (is_fill_of k) (fill ∷ fills)
    step true h = omega (arith, h)
    step false h = omega (arith, h)

pub rejob_without : (key : List ℕ) (job : Option ℕ) (fills : List Fill) → without_fill key (rejob key job fills) ≡ without_fill key fills
rejob_without key job [] = refl
rejob_without key job (fill ∷ fills) = step (is_fill_of key fill) refl (rejob_without key job fills)
  where
    step : (b : Bool) → is_fill_of key fill ≡ b → without_fill key (rejob key job fills) ≡ without_fill key fills
        → without_fill key ((if b then record fill { job = job } else fill) ∷ rejob key job fills) ≡ (if not b then fill ∷ without_fill key fills else without_fill key fills)
    step true e h = rw e h
    step false e h = rw e (ap (λ (fs : List Fill). fill ∷ fs) h)

pub rejob_found : (key : List ℕ) (job : Option ℕ) (fills : List Fill) (fill : Fill) → fill_at key fills ≡ Some fill → fill_at key (rejob key job fills) ≡ Some (record fill { job = job })
rejob_found key job [] fill e = absurd cc
rejob_found key job (x ∷ fills) fill e = step (is_fill_of key x) refl e (λ f. rejob_found key job fills fill f)
  where
    step : (b : Bool) → is_fill_of key x ≡ b → (if b then Some x else fill_at key fills) ≡ Some fill → (fill_at key fills ≡ Some fill → fill_at key (rejob key job fills) ≡ Some (record fill { job = job }))
        → fill_at key ((if b then record x { job = job } else x) ∷ rejob key job fills) ≡ Some (record fill { job = job })
    step true t e ih = let same : x ≡ fill = cc in rw t (ap (λ (f : Fill). Some (record f { job = job })) same)
    step false t e ih = rw t (ih e)

-- ---- whose job it is

pub fewer_brought : (n : ℕ) (key : List ℕ) (fills : List Fill) → count (λ (f : Fill). is_number_in n f.job) (rejob key None fills) ≤ count (λ (f : Fill). is_number_in n f.job) fills
fewer_brought n key [] = omega arith
fewer_brought n key (fill ∷ fills) = step (is_fill_of key fill) (fewer_brought n key fills)
  where
    step : (b : Bool) → count (λ (f : Fill). is_number_in n f.job) (rejob key None fills) ≤ count (λ (f : Fill). is_number_in n f.job) fills
        → count (λ (f : Fill). is_number_in n f.job) ((if b then record fill { job = None } else fill) ∷ rejob key None fills) ≤ count (λ (f : Fill). is_number_in n f.job) (fill ∷ fills)
    step true h = omega (arith, h)
    step false h = omega (arith, h)

pub more_brought : (n m : ℕ) (key : List ℕ) (fills : List Fill) → count (λ (f : Fill). is_number_in n f.job) (rejob key (Some m) fills) ≤ count (λ (f : Fill). is_number_in n f.job) fills + (if m == n then count (is_fill_of key) fills else 0)
more_brought n m key [] = omega arith
more_brought n m key (fill ∷ fills) = step (m == n) refl (is_fill_of key fill) (more_brought n m key fills)
  where
    step : (c : Bool) → (m == n) ≡ c → (b : Bool) → count (λ (f : Fill). is_number_in n f.job) (rejob key (Some m) fills) ≤ count (λ (f : Fill). is_number_in n f.job) fills + (if m == n then count (is_fill_of key) fills else 0)
        → (if is_number_in n (if b then record fill { job = Some m } else fill).job then 1 else 0) + count (λ (f : Fill). is_number_in n f.job) (rejob key (Some m) fills)
        ≤ (if is_number_in n fill.job then 1 else 0) + count (λ (f : Fill). is_number_in n f.job) fills + (if m == n then (if b then 1 else 0) + count (is_fill_of key) fills else 0)
    step true e true h = let h2 = rw e at h in rw e (omega (arith, h2))
    step true e false h = let h2 = rw e at h in rw e (omega (arith, h2))
    step false e true h = let h2 = rw e at h in rw e (omega (arith, h2))
    step false e false h = let h2 = rw e at h in rw e (omega (arith, h2))

-- the key's fill is counted
found : (n : ℕ) (key : List ℕ) (fills : List Fill) (fill : Fill) → fill_at key fills ≡ Some fill → is_number_in n fill.job ≡ true → 1 ≤ count (λ (f : Fill). is_number_in n f.job) fills
found n key [] fill e b = absurd cc
found n key (x ∷ fills) fill e b = step (is_fill_of key x) e (λ f. found n key fills fill f b)
  where
    step : (t : Bool) → (if t then Some x else fill_at key fills) ≡ Some fill → (fill_at key fills ≡ Some fill → 1 ≤ count (λ (f : Fill). is_number_in n f.job) fills) → 1 ≤ (if is_number_in n x.job then 1 else 0) + count (λ (f : Fill). is_number_in n f.job) fills
    step true e ih =
        let same : x ≡ fill = cc in
        let own : ◌≡◌ {A = ℕ} (if is_number_in n x.job then 1 else 0) 1 = ap {B = ℕ} (λ (b : Bool). if b then 1 else 0) (ap (λ (f : Fill). is_number_in n f.job) same ∙ b) in
        omega (arith, own)
    step false e ih = omega (arith, ih e)

-- the job of the key's fill brings no other fill
pub none_brought : (n : ℕ) (key : List ℕ) (fills : List Fill) (fill : Fill) → fill_at key fills ≡ Some fill → is_number_in n fill.job ≡ true → count (λ (f : Fill). is_number_in n f.job) fills ≤ 1 → count (λ (f : Fill). is_number_in n f.job) (rejob key None fills) ≡ 0
none_brought n key [] fill e b one = absurd cc
none_brought n key (x ∷ fills) fill e b one = step (is_fill_of key x) e one (λ f o. none_brought n key fills fill f b o) (fewer_brought n key fills)
  where
    step : (t : Bool) → (if t then Some x else fill_at key fills) ≡ Some fill → (if is_number_in n x.job then 1 else 0) + count (λ (f : Fill). is_number_in n f.job) fills ≤ 1
        → (fill_at key fills ≡ Some fill → count (λ (f : Fill). is_number_in n f.job) fills ≤ 1 → count (λ (f : Fill). is_number_in n f.job) (rejob key None fills) ≡ 0)
        → count (λ (f : Fill). is_number_in n f.job) (rejob key None fills) ≤ count (λ (f : Fill). is_number_in n f.job) fills
        → (if is_number_in n (if t then record x { job = None } else x).job then 1 else 0) + count (λ (f : Fill). is_number_in n f.job) (rejob key None fills) ≡ 0
    step true e one ih less =
        let same : x ≡ fill = cc in
        let own : ◌≡◌ {A = ℕ} (if is_number_in n x.job then 1 else 0) 1 = ap {B = ℕ} (λ (b : Bool). if b then 1 else 0) (ap (λ (f : Fill). is_number_in n f.job) same ∙ b) in
        omega (arith, less, one, own)
    step false e one ih less =
        let there : 1 ≤ count (λ (f : Fill). is_number_in n f.job) fills = found n key fills fill e b in
        let none : count (λ (f : Fill). is_number_in n f.job) (rejob key None fills) ≡ 0 = ih e (omega (arith, one)) in
        omega (arith, one, there, none)

-- ---- with it the cache is good

each_rejob : (pages : Pages) (memory : Memory) (nvm : Nvm) (key : List ℕ) (job : Option ℕ) (fills : List Fill) → BringsIf pages nvm key job → AllFill pages memory nvm fills → AllFill pages memory nvm (rejob key job fills)
each_rejob pages memory nvm key job [] b h = tt
each_rejob pages memory nvm key job (fill ∷ fills) b h = step (is_fill_of key fill) refl (each_rejob pages memory nvm key job fills b h.1)
  where
    step : (t : Bool) → is_fill_of key fill ≡ t → AllFill pages memory nvm (rejob key job fills) → AllFill pages memory nvm ((if t then record fill { job = job } else fill) ∷ rejob key job fills)
    step true t rest = (
      record {
        unlinked = h.0.unlinked;
        unqueued = h.0.unqueued;
        unburied = h.0.unburied;
        wishes = h.0.wishes;
        brought = subst (λ (k : List ℕ). BringsIf pages nvm k job) (sym (same_bytes fill.key key t)) b;
      },
      rest,
    )
    step false t rest = (h.0, rest)

wishes_rejob : (memory : Memory) (key : List ℕ) (job : Option ℕ) (fills : List Fill) → AllWishes memory fills → AllWishes memory (rejob key job fills)
wishes_rejob memory key job [] h = tt
wishes_rejob memory key job (fill ∷ fills) h = step (is_fill_of key fill) (wishes_rejob memory key job fills h.1)
  where
    step : (t : Bool) → AllWishes memory (rejob key job fills) → AllWishes memory ((if t then record fill { job = job } else fill) ∷ rejob key job fills)
    step true rest = (h.0, rest)
    step false rest = (h.0, rest)

-- the cache with other fills
abbrev pub refilled : List Fill → Nvm → Cache → Cache
refilled fills nvm cache = record cache { nvm = Some (record nvm { fills = fills }) }

flash_rejob : (flash : Option FlashConfig) (older : List Note) (memory : Memory) (nvm : Nvm) (key : List ℕ) (job : Option ℕ) → BringsIf (bytes_at older) nvm key job → ((n : ℕ) → count (λ (f : Fill). is_number_in n f.job) (rejob key job nvm.fills) ≤ 1)
    → FlashMidst flash older memory (Some nvm) none_moves → FlashMidst flash older memory (Some (record nvm { fills = rejob key job nvm.fills })) none_moves
flash_rejob None older memory nvm key job b one f = absurd f
flash_rejob (Some flash) older memory nvm key job b one f =
    let fills = rejob key job nvm.fills in
    let waiters = rejob_waiters key job nvm.fills in
    with_fills flash older memory nvm none_moves none_moves fills f (record {
      each = subst (AllFill (bytes_at older) memory nvm) (sym (still_none (rejob key job nvm.fills))) (each_rejob (bytes_at older) memory nvm key job nvm.fills b (subst (AllFill (bytes_at older) memory nvm) (still_none nvm.fills) f.fills.each));
      wishes = wishes_rejob memory key job nvm.fills f.fills.wishes;
      one = λ k. omega (arith, rejob_keys k key job nvm.fills, f.fills.one k);
      one_each = one;
      one_add = λ n. subst (λ (ws : List Waiter). count (adds n) ws ≤ 1) (sym waiters) (f.fills.one_add n);
    }) (subst (λ (ws : List Waiter). AllSized (length memory.pools) ws) (sym waiters) f.adds)

pub good_rejob : (config : Config) (older : List Note) (cache : Cache) (nvm : Nvm) (key : List ℕ) (job : Option ℕ) → cache.nvm ≡ Some nvm → BringsIf (bytes_at older) nvm key job → ((n : ℕ) → count (λ (f : Fill). is_number_in n f.job) (rejob key job nvm.fills) ≤ 1)
    → Agrees config older cache → Agrees config older (refilled (rejob key job nvm.fills) nvm cache)
good_rejob config older cache nvm key job n b one g =
    let r = good_is_rest config older cache g in
    let fills = rejob key job nvm.fills in
    rest_is_good config older (refilled (rejob key job nvm.fills) nvm cache) (record {
      own = r.own;
      sizes = r.sizes;
      flash_is = r.flash_is;
      sound = r.sound;
      charges = r.charges;
      placed = λ k here. rw n at (r.placed k refl);
      sized = r.sized;
      clock = r.clock;
      flash = flash_rejob config.flash older cache.memory nvm key job b one (rw n at r.flash);
    }) (asks_anew older cache.calls cache.owed nvm.fills (rejob key job nvm.fills) (rw n at g.calls) (λ m. sym (rejob_asks m key job nvm.fills)) (λ m. ap (λ (ws : List Waiter). count (is_call m) ws) (rejob_waiters key job nvm.fills)))
