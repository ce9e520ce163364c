-- Calls that wait are served, and a key's fill ends.
use Rattle.std.proofs.Common.{◌≡◌, ℕ, ◌≤◌, Bool, true, false, not, List, [], ◌∷◌, ◌++◌, filter, find, Option, Some, None, refl, ap, sym, ◌∙◌, arith, cond, subst}
use Rattle.hc_types.specs.Tally.{count}
use Rattle.hc_types.proofs.Tallies.{tally-append}
use Rattle.hc_types.specs.FlashEntry.{FlashEntry}
use Rattle.hc_engines.specs.pair.Pair.{Pair}
use Rattle.hc_memory.proofs.Keyed.{same_bytes}
use Rattle.hc_machine.specs.items.Items.{items_of}
use Rattle.hc_machine.specs.Nvm.{Nvm, Wish, ToFind, ToAdd, Waiter, Fill, is_fill_of, fill_at, without_fill, adds}
use Rattle.hc_machine.specs.Cache.{Cache, with_nvm}
use Rattle.hc_machine.specs.Waiting.{live, serve, there_after, serve_all, serve_fill, end_fill_of, end_fill}
use Rattle.hc_machine.specs.Calls.{queue_of}
use Rattle.hc_invariant.specs.Tells.{waiters_of}
use Rattle.hc_invariant.specs.Jobs.{AllWish}
use Rattle.hc_invariant.specs.Good.{fills_of}
use Rattle.hc_invariant.specs.Structure.{AllAsk, brings}
use Rattle.hc_proof.proofs.frames.ByNumber.{same_number, found-passes, count-fewer}
use Rattle.hc_proof.proofs.frames.Fills.{all_still, wishes_at, fewer_wish}
use Rattle.hc_proof.proofs.frames.OpenCharges.{fewer_wait}
use Rattle.hc_proof.specs.calls.Serving.{ghost}
use Rattle.hc_proof.specs.structure.Parts.{Held, Beside, Stands, all_of, FewerFills, FewerWait}
use Rattle.hc_proof.specs.structure.Steps.{WaitingAddsAreOpen}
use Rattle.hc_proof.proofs.structure.Parts.{same_items, same_puts, same_fills, held_less}
use Rattle.hc_proof.proofs.structure.Pieces.{none_left, plant_stands, plant_fills, free_stands}

-- ---- the calls of a fill that has left

-- fewer fills and calls, and the rest as it was
pub stands_less : (cache : Cache) (seen seen' : List Fill → List Fill) (loose loose' : List Fill) → FewerFills (seen (fills_of cache.nvm)) (seen' (fills_of cache.nvm)) → FewerWait (loose ++ fills_of cache.nvm) (loose' ++ fills_of cache.nvm) → Stands cache seen loose → Stands cache seen' loose'
stands_less cache seen seen' loose loose' fills wait h = (
  held_less cache.memory cache.memory (items_of cache.memory.pools) (items_of cache.memory.pools) (queue_of cache.nvm) (queue_of cache.nvm) (seen (fills_of cache.nvm)) (seen' (fills_of cache.nvm)) (loose ++ fills_of cache.nvm) (loose' ++ fills_of cache.nvm)
      (record { charges = refl; made = refl }) (same_items (items_of cache.memory.pools)) (same_puts (queue_of cache.nvm)) fills wait h.0,
  h.1,
  h.2,
)

waiter_goes : (key : List ℕ) (w : Waiter) (ws : List Waiter) (fills : List Fill) → FewerWait (ghost key (w ∷ ws) ∷ fills) (ghost key ws ∷ fills)
waiter_goes key w ws fills = record { wishes = λ memory h. (h.0.1, h.1); adds = λ n. omega arith }

ghost_goes : (key : List ℕ) (fills : List Fill) → FewerWait (ghost key [] ∷ fills) fills
ghost_goes key fills = record { wishes = λ memory h. h.1; adds = λ n. omega arith }

unadded : (n : ℕ) (key : List ℕ) (w : Waiter) (ws : List Waiter) (fills : List Fill) → adds n w ≡ true → count (adds n) (waiters_of (ghost key (w ∷ ws) ∷ fills)) ≤ 1 → count (adds n) (waiters_of (ghost key ws ∷ fills)) ≡ 0
unadded n key w ws fills e one = let here : ◌≡◌ {A = ℕ} (cond (adds n w) 1 0) 1 = ap {B = ℕ} (λ b. cond b 1 0) e in omega (arith, here, one)

-- ---- one is served

record Served (before after : Cache) (key : List ℕ) (ws : List Waiter) : Type 0 where
  stands : Stands after all_of (ghost key ws ∷ [])
  fills : fills_of after.nvm ≡ fills_of before.nvm

served : (key : List ℕ) (call : ℕ) (wish : Wish) (ws : List Waiter) (there : Option FlashEntry) (cache : Cache) → count (is_fill_of key) (fills_of cache.nvm) ≡ 0 → Stands cache all_of (ghost key (record { call = call; wish = wish } ∷ ws) ∷ [])
    → Served cache (serve call wish there cache).cache key ws
served key call ToFind ws there cache none h =
    let w : Waiter = record { call = call; wish = ToFind } in
    record { stands = stands_less cache all_of all_of (ghost key (w ∷ ws) ∷ []) (ghost key ws ∷ []) (same_fills (fills_of cache.nvm)) (waiter_goes key w ws (fills_of cache.nvm)) h; fills = refl }
served key call (ToAdd handle) ws (Some entry) cache none h =
    let w : Waiter = record { call = call; wish = ToAdd handle } in
    let rest = stands_less cache all_of all_of (ghost key (w ∷ ws) ∷ []) (ghost key ws ∷ []) (same_fills (fills_of cache.nvm)) (waiter_goes key w ws (fills_of cache.nvm)) h in
    record { stands = free_stands handle.number cache all_of (ghost key ws ∷ []) (unadded handle.number key w ws (fills_of cache.nvm) (same_number handle.number) (h.0.one_add handle.number)) rest; fills = refl }
served key call (ToAdd handle) ws None cache none h =
    let w : Waiter = record { call = call; wish = ToAdd handle } in
    let rest = stands_less cache all_of all_of (ghost key (w ∷ ws) ∷ []) (ghost key ws ∷ []) (same_fills (fills_of cache.nvm)) (waiter_goes key w ws (fills_of cache.nvm)) h in
    let own : AllWish cache.memory key (w ∷ ws) = h.0.wishes.0 in
    record {
      stands = plant_stands handle cache all_of (ghost key ws ∷ []) (record {
        is_there = own.0.1;
        none = unadded handle.number key w ws (fills_of cache.nvm) (same_number handle.number) (h.0.one_add handle.number);
        nowhere = subst (λ (k : List ℕ). count (is_fill_of k) (fills_of cache.nvm) ≡ 0) (sym own.0.0) none;
      }) rest;
      fills = plant_fills handle cache;
    }

-- ---- all are

pub serve_stands : (key : List ℕ) (ws : List Waiter) (there : Option FlashEntry) (cache : Cache) → count (is_fill_of key) (fills_of cache.nvm) ≡ 0 → Stands cache all_of (ghost key ws ∷ []) → Stands (serve_all ws there cache).cache all_of []
serve_stands key [] there cache none h = stands_less cache all_of all_of (ghost key [] ∷ []) [] (same_fills (fills_of cache.nvm)) (ghost_goes key (fills_of cache.nvm)) h
serve_stands key (w ∷ ws) there cache none h =
    let s = served key w.call w.wish ws (live cache.now there) cache none h in
    serve_stands key ws (there_after w.wish (live cache.now there)) (serve w.call w.wish (live cache.now there) cache).cache (subst (λ (fills : List Fill). count (is_fill_of key) fills ≡ 0) (sym s.fills) none) s.stands

-- ---- the key's fill ends

-- its calls and those of the other fills are no more than before
pub left_fewer : (test : Waiter → Bool) (p : Fill → Bool) (fills : List Fill) (fill : Fill) → find p fills ≡ Some fill → (q : Fill → Bool) → q fill ≡ true → count test (fill.waiters ++ waiters_of (filter (λ f. not (q f)) fills)) ≤ count test (waiters_of fills)
left_fewer test p [] fill e q own = absurd cc
left_fewer test p (x ∷ fills) fill e q own = step (p x) refl (λ k. left_fewer test p fills fill k q own) e
  where
    f : Waiter → ℕ
    f w = cond (test w) 1 0

    first : x ≡ fill → (b : Bool) → q x ≡ b → count test (x.waiters ++ waiters_of (cond (not b) (x ∷ filter (λ y. not (q y)) fills) (filter (λ y. not (q y)) fills))) ≤ count test (x.waiters ++ waiters_of fills)
    first same true t = omega (arith, tally-append f x.waiters (waiters_of (filter (λ y. not (q y)) fills)), tally-append f x.waiters (waiters_of fills), fewer_wait test (λ y. not (q y)) fills)
    first same false t = absurd (let here : q x ≡ true = ap q same ∙ own in cc)

    later : count test (fill.waiters ++ waiters_of (filter (λ y. not (q y)) fills)) ≤ count test (waiters_of fills) → (b : Bool) → count test (fill.waiters ++ waiters_of (cond (not b) (x ∷ filter (λ y. not (q y)) fills) (filter (λ y. not (q y)) fills))) ≤ count test (x.waiters ++ waiters_of fills)
    later h true = omega (arith, h, tally-append f x.waiters (waiters_of fills))
    later h false = omega (arith, h, tally-append f x.waiters (waiters_of fills), tally-append f fill.waiters (waiters_of (filter (λ y. not (q y)) fills)), tally-append f fill.waiters (x.waiters ++ waiters_of (filter (λ y. not (q y)) fills)), tally-append f x.waiters (waiters_of (filter (λ y. not (q y)) fills)))

    step : (b : Bool) → p x ≡ b → (find p fills ≡ Some fill → count test (fill.waiters ++ waiters_of (filter (λ y. not (q y)) fills)) ≤ count test (waiters_of fills)) → cond b (Some x) (find p fills) ≡ Some fill → count test (fill.waiters ++ waiters_of (filter (λ y. not (q y)) (x ∷ fills))) ≤ count test (waiters_of (x ∷ fills))
    step true t rest e = let same : x ≡ fill = cc in subst (λ (y : Fill). count test (y.waiters ++ waiters_of (filter (λ z. not (q z)) (x ∷ fills))) ≤ count test (waiters_of (x ∷ fills))) same (first same (q x) refl)
    step false t rest e = later (rest e) (q x)

pub ask_fewer : (pair : Pair) (p : Fill → Bool) (fills : List Fill) → AllAsk pair fills → AllAsk pair (filter p fills)
ask_fewer pair p [] h = tt
ask_fewer pair p (fill ∷ fills) h = step (p fill) (ask_fewer pair p fills h.1)
  where
    step : (b : Bool) → AllAsk pair (filter p fills) → AllAsk pair (cond b (fill ∷ filter p fills) (filter p fills))
    step true rest = (h.0, rest)
    step false rest = rest

pub beside_fewer : (nvm : Nvm) (p : Fill → Bool) → Beside (Some nvm) → Beside (Some (record nvm { fills = filter p nvm.fills }))
beside_fewer nvm p b = record {
  one_stone = b.one_stone;
  jobs = record {
    one_job = b.jobs.one_job;
    one_each = λ n. omega (arith, b.jobs.one_each n, count-fewer (brings n) p nvm.fills);
    fresh = λ n lt. omega (arith, b.jobs.fresh n lt, count-fewer (brings n) p nvm.fills);
    asks = ask_fewer nvm.pair p nvm.fills b.jobs.asks;
    large = b.jobs.large;
  };
}

pub end_fill_stands : (key : List ℕ) (there : Option FlashEntry) (cache : Cache) → Stands cache (without_fill key) [] → Stands (end_fill key there cache).cache all_of []
end_fill_stands key there cache h = by cache.nvm h
  where
    by : (nvm : Option Nvm) → Stands (record cache { nvm = nvm }) (without_fill key) [] → Stands (end_fill_of nvm key there (record cache { nvm = nvm })).cache all_of []
    by None h = h
    by (Some nvm) h = at (fill_at key nvm.fills) refl
      where
        own : Cache
        own = record cache { nvm = Some nvm }

        left : Nvm
        left = record nvm { fills = without_fill key nvm.fills }

        at : (o : Option Fill) → fill_at key nvm.fills ≡ o → Stands (serve_fill o nvm there own).cache all_of []
        at None e = (subst (λ (fills : List Fill). Held cache.memory (items_of cache.memory.pools) nvm.queue fills nvm.fills) (all_still key nvm.fills e) h.0, h.1, h.2)
        at (Some fill) e =
            let mine : is_fill_of key fill ≡ true = found-passes (is_fill_of key) nvm.fills fill e in
            let wait : FewerWait nvm.fills (ghost key fill.waiters ∷ without_fill key nvm.fills) = record {
              wishes = λ memory w. (wishes_at memory key nvm.fills fill e w, fewer_wish memory (λ f. not (is_fill_of key f)) nvm.fills w);
              adds = λ n. left_fewer (adds n) (is_fill_of key) nvm.fills fill e (is_fill_of key) mine;
            } in
            let held = held_less cache.memory cache.memory (items_of cache.memory.pools) (items_of cache.memory.pools) nvm.queue nvm.queue (without_fill key nvm.fills) (without_fill key nvm.fills) nvm.fills (ghost key fill.waiters ∷ without_fill key nvm.fills)
            (record { charges = refl; made = refl }) (same_items (items_of cache.memory.pools)) (same_puts nvm.queue) (same_fills (without_fill key nvm.fills)) wait h.0 in
            subst (λ (k : List ℕ). Stands (serve_all fill.waiters there (with_nvm (record nvm { fills = without_fill k nvm.fills }) own)).cache all_of []) (sym (same_bytes fill.key key mine))
            (serve_stands key fill.waiters there (with_nvm left own) (none_left (is_fill_of key) nvm.fills) (held, beside_fewer nvm (λ f. not (is_fill_of key f)) h.1, h.2))

-- ---- what it is for

pub waiting_open : WaitingAddsAreOpen
waiting_open cache key fill s e = wishes_at cache.memory key (fills_of cache.nvm) fill e s.wishes
