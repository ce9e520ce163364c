-- Calls that wait are answered: the charges of their adds are closed, and no other.
use Rattle.std.proofs.Common.{◌≡◌, ℕ, ◌+◌, ◌≤◌, ◌==◌, Bool, true, false, not, List, [], ◌∷◌, ◌++◌, Option, Some, None, refl, ap, sym, ◌∙◌, subst, arith, cond}
use Rattle.std.specs.Prelude.{if◌then◌else◌}
use Rattle.hc_types.specs.Tally.{count}
use Rattle.hc_types.proofs.Tallies.{tally-append}
use Rattle.hc_types.specs.FlashEntry.{FlashEntry}
use Rattle.hc_memory.specs.Item.{Open}
use Rattle.hc_history.specs.Note.{Did, Stored}
use Rattle.hc_machine.specs.Nvm.{Nvm, Waiter, Wish, ToFind, ToAdd, Fill, adds, is_fill_of, fill_at, without_fill, joined_by}
use Rattle.hc_machine.specs.Cache.{Cache, Told, with_nvm}
use Rattle.hc_machine.specs.Waiting.{plant, live, serve, there_after, serve_all, serve_fill, end_fill_of, end_fill}
use Rattle.hc_machine.specs.Schedule.{Slot}
use Rattle.hc_invariant.specs.Tells.{waiters_of}
use Rattle.hc_invariant.specs.Good.{fills_of}
use Rattle.hc_proof.proofs.fresh.Calming.{fill_key}
use Rattle.hc_proof.proofs.calls.CallBooks.{left_counts}
use Rattle.hc_theorem.specs.slots.Opens.{Opens, adds_in}
use Rattle.hc_proof.specs.shapes.Asides.{Answering}
use Rattle.hc_proof.proofs.shapes.Asides.{answering-append, answering, plant_aside}
use Rattle.hc_theorem.proofs.slots.Opens.{other_goes}

-- what a piece leaves that answers calls
pub record Answered (slots : List Slot) (more : ℕ → ℕ) (cache : Cache) (left : List Fill) (told : Told) : Type 0 where
  pub answering : Answering told.part
  pub calls : told.cache.calls ≡ cache.calls
  pub opens : Opens slots more told.cache.memory.charges
  pub fills : fills_of told.cache.nvm ≡ left

-- ---- one call

pub more_is : (slots : List Slot) (more other : ℕ → ℕ) (xs : List Open) → ((n : ℕ) → more n ≡ other n) → Opens slots more xs → Opens slots other xs
more_is slots more other xs same h = record { held = λ n. omega (arith, h.held n, same n); unique = h.unique; known = h.known }

wish_served : (slots : List Slot) (more : ℕ → ℕ) (call : ℕ) (wish : Wish) (there : Option FlashEntry) (cache : Cache)
    → Opens slots (λ n. cond (adds n (record { call = call; wish = wish })) 1 0 + more n) cache.memory.charges → Answered slots more cache (fills_of cache.nvm) (serve call wish there cache)
wish_served slots more call ToFind there cache h = record { answering = tt; calls = refl; opens = more_is slots (λ n. 0 + more n) more cache.memory.charges (λ n. omega arith) h; fills = refl }
wish_served slots more call (ToAdd handle) (Some entry) cache h = record { answering = tt; calls = refl; opens = other_goes slots handle.number (λ n. cond (handle.number == n) 1 0 + more n) more cache.memory.charges (λ n. refl) h; fills = refl }
wish_served slots more call (ToAdd handle) None cache h =
    let p = plant_aside handle cache in
    record {
      answering = answering-append (plant handle cache).part (Did call Stored ∷ []) (answering (plant handle cache).part p.aside) tt;
      calls = p.calls;
      opens = subst (Opens slots more) (sym p.charges) (other_goes slots handle.number (λ n. cond (handle.number == n) 1 0 + more n) more cache.memory.charges (λ n. refl) h);
      fills = p.fills;
    }

-- ---- all of them

pub all_served : (slots : List Slot) (more : ℕ → ℕ) (waiters : List Waiter) (there : Option FlashEntry) (cache : Cache)
    → Opens slots (λ n. count (adds n) waiters + more n) cache.memory.charges → Answered slots more cache (fills_of cache.nvm) (serve_all waiters there cache)
all_served slots more [] there cache h = record { answering = tt; calls = refl; opens = more_is slots (λ n. 0 + more n) more cache.memory.charges (λ n. omega arith) h; fills = refl }
all_served slots more (w ∷ ws) there cache h =
    let told = serve w.call w.wish (live cache.now there) cache in
    let first = wish_served slots (λ n. count (adds n) ws + more n) w.call w.wish (live cache.now there) cache
    (more_is slots (λ n. cond (adds n w) 1 0 + count (adds n) ws + more n) (λ n. cond (adds n w) 1 0 + (count (adds n) ws + more n)) cache.memory.charges (λ n. omega arith) h) in
    let rest = all_served slots more ws (there_after w.wish (live cache.now there)) told.cache first.opens in
    record {
      answering = answering-append told.part (serve_all ws (there_after w.wish (live cache.now there)) told.cache).part first.answering rest.answering;
      calls = rest.calls ∙ first.calls;
      opens = rest.opens;
      fills = rest.fills ∙ first.fills;
    }

-- ---- a key's fill

-- where the key has no fill, none goes
none_goes : (key : List ℕ) (fills : List Fill) → fill_at key fills ≡ None → without_fill key fills ≡ fills
none_goes key [] e = refl
none_goes key (fill ∷ fills) e = go (is_fill_of key fill) (none_goes key fills) e
  where
    go : (t : Bool) → (fill_at key fills ≡ None → without_fill key fills ≡ fills) → (if t then Some fill else fill_at key fills) ≡ None → (if not t then fill ∷ without_fill key fills else without_fill key fills) ≡ fill ∷ fills
    go true rest e = absurd cc
    go false rest e = ap (λ l. fill ∷ l) (rest e)

pub fill_ended : (slots : List Slot) (key : List ℕ) (there : Option FlashEntry) (cache : Cache) → count (is_fill_of key) (fills_of cache.nvm) ≤ 1
    → Opens slots (adds_in (fills_of cache.nvm)) cache.memory.charges → Answered slots (adds_in (without_fill key (fills_of cache.nvm))) cache (without_fill key (fills_of cache.nvm)) (end_fill key there cache)
fill_ended slots key there cache one h = go cache.nvm refl
  where
    served : (nvm : Nvm) (o : Option Fill) → cache.nvm ≡ Some nvm → fill_at key nvm.fills ≡ o → Answered slots (adds_in (without_fill key nvm.fills)) cache (without_fill key nvm.fills) (serve_fill o nvm there cache)
    served nvm None e at =
        let same = none_goes key nvm.fills at in
        record { answering = tt; calls = refl; opens = subst (λ (fills : List Fill). Opens slots (adds_in fills) cache.memory.charges) (ap fills_of e ∙ sym same) h; fills = ap fills_of e ∙ sym same }
    served nvm (Some fill) e at =
        let less = with_nvm (record nvm { fills = without_fill fill.key nvm.fills }) cache in
        let same : without_fill fill.key nvm.fills ≡ without_fill key nvm.fills = ap (λ k. without_fill k nvm.fills) (fill_key key nvm.fills fill at) in
        let split : (n : ℕ) → adds_in nvm.fills n ≡ count (adds n) fill.waiters + adds_in (without_fill key nvm.fills) n =
        λ n. omega (arith, left_counts (adds n) key nvm.fills fill at (subst (λ (fills : List Fill). count (is_fill_of key) fills ≤ 1) (ap fills_of e) one), tally-append (λ (w : Waiter). cond (adds n w) 1 0) fill.waiters (waiters_of (without_fill key nvm.fills))) in
        let before = more_is slots (adds_in (fills_of cache.nvm)) (λ n. count (adds n) fill.waiters + adds_in (without_fill key nvm.fills) n) cache.memory.charges (λ n. ap (λ fills. adds_in fills n) (ap fills_of e) ∙ split n) h in
        let a = all_served slots (adds_in (without_fill key nvm.fills)) fill.waiters there less before in
        record { answering = a.answering; calls = a.calls; opens = a.opens; fills = a.fills ∙ same }

    go : (nvm : Option Nvm) → cache.nvm ≡ nvm → Answered slots (adds_in (without_fill key (fills_of nvm))) cache (without_fill key (fills_of nvm)) (end_fill_of nvm key there cache)
    go None e = record { answering = tt; calls = refl; opens = subst (λ (fills : List Fill). Opens slots (adds_in fills) cache.memory.charges) (ap fills_of e) h; fills = ap fills_of e }
    go (Some nvm) e = served nvm (fill_at key nvm.fills) e refl

-- one call more waits
pub joined_counts : (test : Waiter → Bool) (key : List ℕ) (w : Waiter) (fills : List Fill) → count test (waiters_of (joined_by key w fills)) ≡ cond (test w) 1 0 + count test (waiters_of fills)
joined_counts test key w [] = refl
joined_counts test key w (fill ∷ fills) = go (is_fill_of key fill) (joined_counts test key w fills)
  where
    f : Waiter → ℕ
    f x = cond (test x) 1 0

    go : (t : Bool) → count test (waiters_of (joined_by key w fills)) ≡ cond (test w) 1 0 + count test (waiters_of fills)
        → count test (waiters_of (if t then record fill { waiters = fill.waiters ++ w ∷ [] } ∷ fills else fill ∷ joined_by key w fills)) ≡ cond (test w) 1 0 + count test (fill.waiters ++ waiters_of fills)
    go true h = omega (arith, tally-append f (fill.waiters ++ w ∷ []) (waiters_of fills), tally-append f fill.waiters (w ∷ []), tally-append f fill.waiters (waiters_of fills))
    go false h = omega (arith, h, tally-append f fill.waiters (waiters_of (joined_by key w fills)), tally-append f fill.waiters (waiters_of fills))
