-- A call begins, and waits for its key: it joins the key's fill, or begins one.
use Rattle.std.proofs.Common.{◌≡◌, ℕ, ◌+◌, ◌≤◌, Bool, true, false, not, ◌&&◌, List, [], ◌∷◌, ◌++◌, length, Option, Some, None, refl, ap, sym, arith, cond, subst, bytes_eq}
use Rattle.std.specs.Prelude.{is_some}
use Rattle.hc_types.specs.Tally.{count}
use Rattle.hc_types.specs.Config.{Config}
use Rattle.hc_types.specs.declared.config.FlashConfig.{FlashConfig}
use Rattle.hc_engines.specs.Engine.{Pages}
use Rattle.hc_memory.specs.Memory.{Memory, linked_at}
use Rattle.hc_memory.proofs.Keyed.{same_bytes}
use Rattle.hc_machine.specs.items.Items.{items_of}
use Rattle.hc_history.specs.Note.{Note, Begin}
use Rattle.hc_history.specs.Pages.{bytes_at}
use Rattle.hc_machine.specs.Nvm.{Nvm, Wish, Waiter, Fill, is_fill_of, is_number_in, joined_by, put_at, is_buried, adds}
use Rattle.hc_machine.specs.Cache.{Cache, owed_anew}
use Rattle.hc_machine.specs.Calls.{must_wait, in_memory, wait_in}
use Rattle.hc_invariant.specs.Tells.{ChargesTell, waiters_of, op_of}
use Rattle.hc_invariant.specs.Jobs.{WishHolds, AllWish, AllFill}
use Rattle.hc_invariant.specs.Good.{WishSized, AllSized, Agrees, fills_of}
use Rattle.hc_proof.specs.frames.Midst.{FlashMidst, AllWishes, none_moves}
use Rattle.hc_proof.specs.frames.Rest.{Rest}
use Rattle.hc_proof.proofs.calls.CallBooks as books
use Rattle.hc_proof.proofs.frames.BetweenSteps.{still_none, good_is_rest, rest_is_good}
use Rattle.hc_proof.proofs.frames.CallNotes.{quiet_begin, rest_still}
use Rattle.hc_proof.proofs.frames.Fills.{sized_parts, sized_both, with_fills, rest_calls}
use Rattle.hc_proof.proofs.calls.NoWaiting.{waits_alone}
use Rattle.hc_proof.proofs.calls.CallBooks.{none_if}

-- ---- lists

wish_last : (memory : Memory) (key : List ℕ) (waiters : List Waiter) (w : Waiter) → AllWish memory key waiters → WishHolds memory key w.wish → AllWish memory key (waiters ++ w ∷ [])
wish_last memory key [] w h k = (k, tt)
wish_last memory key (x ∷ ws) w h k = (h.0, wish_last memory key ws w h.1 k)

pub wishes_joined : (memory : Memory) (key : List ℕ) (w : Waiter) (fills : List Fill) → AllWishes memory fills → WishHolds memory key w.wish → AllWishes memory (joined_by key w fills)
wishes_joined memory key w [] h k = ((k, tt), tt)
wishes_joined memory key w (fill ∷ fills) h k = step (is_fill_of key fill) refl (wishes_joined memory key w fills h.1 k)
  where
    step : (b : Bool) → is_fill_of key fill ≡ b → AllWishes memory (joined_by key w fills) → AllWishes memory (cond b (record fill { waiters = fill.waiters ++ w ∷ [] } ∷ fills) (fill ∷ joined_by key w fills))
    step true t rest = (wish_last memory fill.key fill.waiters w h.0 (subst (λ (x : List ℕ). WishHolds memory x w.wish) (sym (same_bytes fill.key key t)) k), h.1)
    step false t rest = (h.0, rest)

-- the key stands where a fill's key stands
record MayFill (memory : Memory) (nvm : Nvm) (key : List ℕ) : Type 0 where
  unlinked : linked_at key memory.pools ≡ None
  unqueued : put_at key nvm.queue ≡ None
  unburied : is_buried nvm key ≡ false

each_joined : (pages : Pages) (memory : Memory) (nvm : Nvm) (key : List ℕ) (w : Waiter) (fills : List Fill) → AllFill pages memory nvm fills → WishHolds memory key w.wish → MayFill memory nvm key → AllFill pages memory nvm (joined_by key w fills)
each_joined pages memory nvm key w [] h k m = (record { unlinked = m.unlinked; unqueued = m.unqueued; unburied = m.unburied; wishes = (k, tt); brought = tt }, tt)
each_joined pages memory nvm key w (fill ∷ fills) h k m = step (is_fill_of key fill) refl (each_joined pages memory nvm key w fills h.1 k m)
  where
    step : (b : Bool) → is_fill_of key fill ≡ b → AllFill pages memory nvm (joined_by key w fills) → AllFill pages memory nvm (cond b (record fill { waiters = fill.waiters ++ w ∷ [] } ∷ fills) (fill ∷ joined_by key w fills))
    step true t rest = (
      record {
        unlinked = h.0.unlinked;
        unqueued = h.0.unqueued;
        unburied = h.0.unburied;
        wishes = wish_last memory fill.key fill.waiters w h.0.wishes (subst (λ (x : List ℕ). WishHolds memory x w.wish) (sym (same_bytes fill.key key t)) k);
        brought = h.0.brought;
      },
      h.1,
    )
    step false t rest = (h.0, rest)

-- no other key gets a fill
pub one_other : (k key : List ℕ) (w : Waiter) (fills : List Fill) → bytes_eq key k ≡ false → count (is_fill_of k) (joined_by key w fills) ≡ count (is_fill_of k) fills
one_other k key w [] o = omega (arith, none_if (bytes_eq key k) o)
one_other k key w (fill ∷ fills) o = step (is_fill_of key fill) (one_other k key w fills o)
  where
    step : (b : Bool) → count (is_fill_of k) (joined_by key w fills) ≡ count (is_fill_of k) fills → count (is_fill_of k) (cond b (record fill { waiters = fill.waiters ++ w ∷ [] } ∷ fills) (fill ∷ joined_by key w fills)) ≡ count (is_fill_of k) (fill ∷ fills)
    step true h = refl
    step false h = omega (arith, h)

-- and the key has one
one_own : (key : List ℕ) (w : Waiter) (fills : List Fill) → count (is_fill_of key) fills ≤ 1 → count (is_fill_of key) (joined_by key w fills) ≤ 1
one_own key w [] o = few (bytes_eq key key)
  where
    few : (b : Bool) → cond b 1 0 + 0 ≤ 1
    few true = omega arith
    few false = omega arith
one_own key w (fill ∷ fills) o = step (is_fill_of key fill) refl (one_own key w fills) o
  where
    step : (b : Bool) → is_fill_of key fill ≡ b → (count (is_fill_of key) fills ≤ 1 → count (is_fill_of key) (joined_by key w fills) ≤ 1) → cond b 1 0 + count (is_fill_of key) fills ≤ 1
        → count (is_fill_of key) (cond b (record fill { waiters = fill.waiters ++ w ∷ [] } ∷ fills) (fill ∷ joined_by key w fills)) ≤ 1
    step true t rest o = omega (arith, ap {B = ℕ} (λ b. cond b 1 0) t)
    step false t rest o = omega (arith, none_if (is_fill_of key fill) t, rest (omega arith))

pub one_joined : (k key : List ℕ) (w : Waiter) (fills : List Fill) → count (is_fill_of k) fills ≤ 1 → count (is_fill_of k) (joined_by key w fills) ≤ 1
one_joined k key w fills o = step (bytes_eq key k) refl
  where
    step : (b : Bool) → bytes_eq key k ≡ b → count (is_fill_of k) (joined_by key w fills) ≤ 1
    step true t = subst (λ (x : List ℕ). count (is_fill_of x) (joined_by key w fills) ≤ 1) (same_bytes key k t) (one_own key w fills (subst (λ (x : List ℕ). count (is_fill_of x) fills ≤ 1) (sym (same_bytes key k t)) o))
    step false t = omega (arith, one_other k key w fills t)

-- a new fill has no job
pub brought_joined : (n : ℕ) (key : List ℕ) (w : Waiter) (fills : List Fill) → count (λ (fill : Fill). is_number_in n fill.job) (joined_by key w fills) ≡ count (λ (fill : Fill). is_number_in n fill.job) fills
brought_joined n key w [] = omega arith
brought_joined n key w (fill ∷ fills) = step (is_fill_of key fill) (brought_joined n key w fills)
  where
    step : (b : Bool) → count (λ (fill : Fill). is_number_in n fill.job) (joined_by key w fills) ≡ count (λ (fill : Fill). is_number_in n fill.job) fills
        → count (λ (fill : Fill). is_number_in n fill.job) (cond b (record fill { waiters = fill.waiters ++ w ∷ [] } ∷ fills) (fill ∷ joined_by key w fills)) ≡ count (λ (fill : Fill). is_number_in n fill.job) (fill ∷ fills)
    step true h = refl
    step false h = omega (arith, h)

sized_joined : (pools : ℕ) (key : List ℕ) (w : Waiter) (fills : List Fill) → AllSized pools (waiters_of fills) → WishSized pools w.wish → AllSized pools (waiters_of (joined_by key w fills))
sized_joined pools key w [] h k = (k, tt)
sized_joined pools key w (fill ∷ fills) h k = step (is_fill_of key fill) (sized_joined pools key w fills (sized_parts pools fill.waiters (waiters_of fills) h).1 k)
  where
    step : (b : Bool) → AllSized pools (waiters_of (joined_by key w fills)) → AllSized pools (waiters_of (cond b (record fill { waiters = fill.waiters ++ w ∷ [] } ∷ fills) (fill ∷ joined_by key w fills)))
    step true rest = let both = sized_parts pools fill.waiters (waiters_of fills) h in sized_both pools (fill.waiters ++ w ∷ []) (waiters_of fills) (sized_both pools fill.waiters (w ∷ []) both.0 (k, tt)) both.1
    step false rest = sized_both pools fill.waiters (waiters_of (joined_by key w fills)) (sized_parts pools fill.waiters (waiters_of fills) h).0 rest

-- ---- the state

pub one_more_add : (b : Bool) (m n : ℕ) → m ≡ n + cond b 1 0 → (b ≡ true → n ≡ 0) → n ≤ 1 → m ≤ 1
one_more_add true m n e z h = omega (arith, e, z refl)
one_more_add false m n e z h = omega (arith, e)

joined_flash : (flash : Option FlashConfig) (older : List Note) (memory : Memory) (nvm : Nvm) (key : List ℕ) (w : Waiter) → FlashMidst flash older memory (Some nvm) none_moves → WishHolds memory key w.wish → WishSized (length memory.pools) w.wish → MayFill memory nvm key
    → ((n : ℕ) → adds n w ≡ true → count (adds n) (waiters_of nvm.fills) ≡ 0) → FlashMidst flash older memory (Some (record nvm { fills = joined_by key w nvm.fills })) none_moves
joined_flash None older memory nvm key w f k s m one = absurd f
joined_flash (Some flash) older memory nvm key w f k s m one = with_fills flash older memory nvm none_moves none_moves (joined_by key w nvm.fills) f (record {
  each = subst (AllFill (bytes_at older) memory nvm) (sym (still_none (joined_by key w nvm.fills))) (each_joined (bytes_at older) memory nvm key w nvm.fills (subst (AllFill (bytes_at older) memory nvm) (still_none nvm.fills) f.fills.each) k m);
  wishes = wishes_joined memory key w nvm.fills f.fills.wishes k;
  one = λ x. one_joined x key w nvm.fills (f.fills.one x);
  one_each = λ n. omega (arith, brought_joined n key w nvm.fills, f.fills.one_each n);
  one_add = λ n. one_more_add (adds n w) (count (adds n) (waiters_of (joined_by key w nvm.fills))) (count (adds n) (waiters_of nvm.fills)) (books.join-counts (adds n) key w nvm.fills) (one n) (f.fills.one_add n);
}) (sized_joined (length memory.pools) key w nvm.fills f.adds s)

-- what is asked of a call that is to wait
pub record ToWait (config : Config) (older : List Note) (cache : Cache) (key : List ℕ) (wish : Wish) : Type 0 where
  pub good : Agrees config older cache
  pub waits : must_wait cache key ≡ true
  pub holds : WishHolds cache.memory key wish
  pub sized : WishSized (length cache.memory.pools) wish
  pub one_add : (n : ℕ) → adds n (record { call = cache.calls + 1; wish = wish }) ≡ true → count (adds n) (waiters_of (fills_of cache.nvm)) ≡ 0

module _ (config : Config) (older : List Note) (cache : Cache) (client : ℕ) (key : List ℕ) (wish : Wish) where
  by_nvm : (o : Option Nvm) → ToWait config older (record cache { nvm = o }) key wish → Agrees config (Begin (cache.calls + 1) client (op_of key wish) ∷ older) (wait_in o key wish (record cache { calls = cache.calls + 1; nvm = o }))
  by_nvm None t = absurd (never (is_some (in_memory (record cache { nvm = None }) key)) t.waits)
    where
      never : (b : Bool) → (not b && false) ≡ true → ⊥
      never true h = cc
      never false h = cc
  by_nvm (Some nvm) t =
      let c = cache.calls + 1 in
      let op = op_of key wish in
      let w : Waiter = record { call = c; wish = wish } in
      let newer : List Note = Begin c client op ∷ older in
      let items = items_of cache.memory.pools in
      let r = good_is_rest config older (record cache { nvm = Some nvm }) t.good in
      let alone = waits_alone (record cache { nvm = Some nvm }) key t.waits in
      let charges : ChargesTell newer items cache.memory.charges cache.memory.made = record { one_key = r.charges.one_key; one_number = r.charges.one_number; fresh = r.charges.fresh; same = r.charges.same } in
      let q = rest_still config older newer (record cache { nvm = Some nvm }) items items none_moves (quiet_begin older c client op) (λ k. refl) refl charges r in
      let joined = joined_by key w nvm.fills in
      let more : Rest config newer (record cache { nvm = Some (record nvm { fills = joined }) }) items none_moves = record {
        own = q.own;
        sizes = q.sizes;
        flash_is = q.flash_is;
        sound = q.sound;
        charges = q.charges;
        placed = λ k here. q.placed k here;
        sized = q.sized;
        clock = q.clock;
        flash = joined_flash config.flash newer cache.memory nvm key w q.flash t.holds t.sized (record { unlinked = alone.unlinked; unqueued = alone.unqueued; unburied = alone.unburied }) t.one_add;
      } in
      let calls = t.good.calls in
      rest_is_good config newer (wait_in (Some nvm) key wish (record cache { calls = c; nvm = Some nvm }))
      (rest_calls config newer (record cache { nvm = Some (record nvm { fills = joined }) }) items none_moves c (owed_anew c cache.owed) more)
      (books.waits older cache.calls client op cache.owed nvm.fills joined calls (books.joins key w nvm.fills (books.unasked_anew older cache.calls cache.owed nvm.fills calls)))

-- the call begins, and waits
pub wait_good : (config : Config) (older : List Note) (cache : Cache) (client : ℕ) (key : List ℕ) (wish : Wish) → ToWait config older cache key wish
    → Agrees config (Begin (cache.calls + 1) client (op_of key wish) ∷ older) (wait_in cache.nvm key wish (record cache { calls = cache.calls + 1 }))
wait_good config older cache client key wish t = by_nvm config older cache client key wish cache.nvm t
