-- The steps of clients.
use Rattle.std.proofs.Common.{◌≡◌, ℕ, ◌+◌, ◌≤◌, Bool, true, false, not, List, [], ◌∷◌, ◌++◌, length, Option, Some, None, refl, sym, ◌∙◌, arith, cond, subst}
use Rattle.std.specs.Prelude.{◌==◌, if◌then◌else◌, is_some}
use Rattle.std.specs.Str.{bytes_eq}
use Rattle.std.proofs.lemmas.Bool.{eqb-true}
use Rattle.hc_types.specs.Tally.{count}
use Rattle.hc_types.specs.declared.refusal.Refusal.{Refusal}
use Rattle.hc_types.specs.declared.refusal.Refusal.TheVariants.{ForeignHandle, Exists as AlreadyExists}
use Rattle.hc_engines.specs.pair.Pair.{Pair}
use Rattle.hc_memory.specs.Item.{Handle, charge_by}
use Rattle.hc_memory.specs.Pool.{is_at}
use Rattle.hc_memory.specs.Charges.{is_open}
use Rattle.hc_memory.specs.Memory.{after_find}
use Rattle.hc_memory.proofs.Keyed.{same_bytes}
use Rattle.hc_memory.proofs.Keys as keys
use Rattle.hc_machine.specs.items.Allocating.{refusal_of}
use Rattle.hc_machine.specs.items.Items.{items_of}
use Rattle.hc_machine.proofs.items.Flat.{linked-flat, used-flat}
use Rattle.hc_history.specs.Note.{Insert, Add, Find, Remove, Reply, Stored}
use Rattle.hc_machine.specs.Nvm.{Nvm, Wish, ToFind, ToAdd, Waiter, Fill, is_put_of, is_fill_of, without_fill, joined_by, adds}
use Rattle.hc_machine.specs.Cache.{Owed, Cache, and_then, Refused, Discarded, Replied, Waits, answers, stays, owed_at}
use Rattle.hc_machine.specs.Evicting.{allocate_by}
use Rattle.hc_machine.specs.Waiting.{live, uproot, plant, entry_of_handle, find_reply, free, end_fill}
use Rattle.hc_machine.specs.Calls.{begin, wait_in, wait_for, is_known, is_kept_in, store, in_memory, must_wait, add, used, find_now, take_of, queue_of}
use Rattle.hc_invariant.specs.Tells.{waiters_of}
use Rattle.hc_invariant.specs.Jobs.{WishHolds}
use Rattle.hc_invariant.specs.Good.{fills_of}
use Rattle.hc_invariant.specs.Structure.{Structured, AllAsk, OnePlace}
use Rattle.hc_proof.proofs.frames.ByNumber.{none-counted, count-fewer}
use Rattle.hc_proof.proofs.calls.Adds.{unkept_none, and_both}
use Rattle.hc_proof.proofs.calls.CallBooks.{join-counts}
use Rattle.hc_proof.proofs.calls.NoWaiting.{waits_alone}
use Rattle.hc_proof.proofs.calls.Waits.{wishes_joined, one_other, one_joined, brought_joined, one_more_add}
use Rattle.hc_proof.specs.structure.Parts.{Beside, Stands, all_of}
use Rattle.hc_proof.specs.structure.Steps.{AllocateIsStructured, InsertIsStructured, AddIsStructured, DiscardIsStructured, FindIsStructured, RemoveIsStructured, ReplyIsStructured, TickIsStructured}
use Rattle.hc_proof.proofs.structure.Parts.{parts_of, whole_of, same_puts, same_fills, same_wait, held_less}
use Rattle.hc_proof.proofs.structure.Pieces.{none_left, uproot_passes, plant_stands, free_stands}
use Rattle.hc_proof.proofs.structure.Serving.{stands_less, end_fill_stands}
use Rattle.hc_proof.proofs.structure.Rooms.{charge_stands}

stands_of : (cache : Cache) → Structured cache → Stands cache all_of []
stands_of cache s = parts_of cache.memory cache.nvm s

structured_of : (cache : Cache) → Stands cache all_of [] → Structured cache
structured_of cache h = whole_of cache.memory cache.nvm h

-- the key's fill is to end
unseen : (key : List ℕ) (cache : Cache) → Stands cache all_of [] → Stands cache (without_fill key) []
unseen key cache h = stands_less cache all_of (without_fill key) [] [] (λ k. count-fewer (is_fill_of k) (λ fill. not (is_fill_of key fill)) (fills_of cache.nvm)) (same_wait (fills_of cache.nvm)) h

-- ---- handles

-- what is known of a handle that the cache knows
record Known (cache : Cache) (handle : Handle) : Type 0 where
  is_there : is_open (charge_by handle) cache.memory.charges ≡ true
  none : count (adds handle.number) (waiters_of (fills_of cache.nvm)) ≡ 0

known_by : (cache : Cache) (handle : Handle) → is_known cache handle ≡ true → Known cache handle
known_by cache handle e =
    let both = and_both (is_open (charge_by handle) cache.memory.charges) (is_kept_in cache.nvm handle.number) e in
    record { is_there = both.0; none = unkept_none handle.number cache.nvm both.1 }

pub discards : DiscardIsStructured
discards cache handle s = by (is_known cache handle) refl
  where
    by : (b : Bool) → is_known cache handle ≡ b → Structured (if b then answers Discarded (free handle.number cache) else stays (Refused ForeignHandle) cache).cache
    by true e = structured_of (free handle.number cache).cache (free_stands handle.number cache all_of [] (known_by cache handle e).none (stands_of cache s))
    by false e = s

pub allocates : AllocateIsStructured
allocates cache pool key value ttl s = by (refusal_of cache.memory pool key (length value))
  where
    by : (o : Option Refusal) → Structured (allocate_by o pool key value ttl cache).cache
    by (Some refusal) = s
    by None = let c = charge_stands pool key (length value) cache all_of [] (stands_of cache s) in whole_of _ _ c.stands

-- ---- inserts

stored : (handle : Handle) (cache : Cache) → Known cache handle → Stands cache all_of [] → Stands (store handle cache).cache all_of []
stored handle cache known h =
    end_fill_stands handle.key (Some (entry_of_handle handle)) (plant handle cache).cache
    (plant_stands handle cache (without_fill handle.key) [] (record { is_there = known.is_there; none = known.none; nowhere = none_left (is_fill_of handle.key) (fills_of cache.nvm) }) (unseen handle.key cache h))

pub inserts : InsertIsStructured
inserts cache client handle s = by (is_known cache handle) refl
  where
    begun : Cache
    begun = (begin client (Insert handle.key handle.value handle.expiry) cache).cache

    known : is_known cache handle ≡ true → Known begun handle
    known e = let k = known_by cache handle e in record { is_there = k.is_there; none = k.none }

    by : (b : Bool) → is_known cache handle ≡ b → Structured (if b then answers (Replied Stored) (and_then (begin client (Insert handle.key handle.value handle.expiry) cache) (store handle)) else stays (Refused ForeignHandle) cache).cache
    by true e = structured_of (store handle begun).cache (stored handle begun (known e) (stands_of cache s))
    by false e = s

-- ---- a call waits

asks_joined : (pair : Pair) (key : List ℕ) (w : Waiter) (fills : List Fill) → AllAsk pair fills → AllAsk pair (joined_by key w fills)
asks_joined pair key w [] h = (tt, tt)
asks_joined pair key w (fill ∷ fills) h = step (is_fill_of key fill) (asks_joined pair key w fills h.1)
  where
    step : (b : Bool) → AllAsk pair (joined_by key w fills) → AllAsk pair (cond b (record fill { waiters = fill.waiters ++ w ∷ [] } ∷ fills) (fill ∷ joined_by key w fills))
    step true rest = (h.0, h.1)
    step false rest = (h.0, rest)

beside_joined : (nvm : Nvm) (key : List ℕ) (w : Waiter) → Beside (Some nvm) → Beside (Some (record nvm { fills = joined_by key w nvm.fills }))
beside_joined nvm key w b = record {
  one_stone = b.one_stone;
  jobs = record {
    one_job = b.jobs.one_job;
    one_each = λ n. omega (arith, b.jobs.one_each n, brought_joined n key w nvm.fills);
    fresh = λ n lt. omega (arith, b.jobs.fresh n lt, brought_joined n key w nvm.fills);
    asks = asks_joined nvm.pair key w nvm.fills b.jobs.asks;
    large = b.jobs.large;
  };
}

-- the key stands nowhere, or in its fill
place_joined : (cache : Cache) (nvm : Nvm) (key : List ℕ) (w : Waiter) → count (is_at key) (items_of cache.memory.pools) ≡ 0 → count (is_put_of key) nvm.queue ≡ 0 → OnePlace (items_of cache.memory.pools) nvm.queue nvm.fills → OnePlace (items_of cache.memory.pools) nvm.queue (joined_by key w nvm.fills)
place_joined cache nvm key w no_item no_put h k = by (bytes_eq key k) refl
  where
    Here : List ℕ → Type 0
    Here x = count (is_at x) (items_of cache.memory.pools) + (count (is_put_of x) nvm.queue + count (is_fill_of x) (joined_by key w nvm.fills)) ≤ 1

    own : Here key
    own = omega (arith, no_item, no_put, one_joined key key w nvm.fills (omega (arith, h key)))

    by : (b : Bool) → bytes_eq key k ≡ b → Here k
    by true e = subst Here (same_bytes key k e) own
    by false e = omega (arith, h k, one_other k key w nvm.fills e)

waited : (cache : Cache) (key : List ℕ) (wish : Wish) → must_wait cache key ≡ true → WishHolds cache.memory key wish
    → ((n : ℕ) → adds n (record { call = 0; wish = wish }) ≡ true → count (adds n) (waiters_of (fills_of cache.nvm)) ≡ 0) → Structured cache → Structured (wait_in cache.nvm key wish cache)
waited cache key wish must holds none s = by cache.nvm must none s
  where
    by : (nvm : Option Nvm) → must_wait (record cache { nvm = nvm }) key ≡ true → ((n : ℕ) → adds n (record { call = 0; wish = wish }) ≡ true → count (adds n) (waiters_of (fills_of nvm)) ≡ 0) → Structured (record cache { nvm = nvm }) → Structured (wait_in nvm key wish (record cache { nvm = nvm }))
    by None must none s = s
    by (Some nvm) must none s =
        let w : Waiter = record { call = cache.calls; wish = wish } in
        let m = waits_alone (record cache { nvm = Some nvm }) key must in
        let no_item : count (is_at key) (items_of cache.memory.pools) ≡ 0 = keys.none-counted key (items_of cache.memory.pools) (sym (linked-flat key cache.memory.pools) ∙ m.unlinked) in
        let no_put : count (is_put_of key) nvm.queue ≡ 0 = none-counted (is_put_of key) nvm.queue m.unqueued in
        let p = parts_of cache.memory (Some nvm) s in
        whole_of cache.memory (Some (record nvm { fills = joined_by key w nvm.fills })) (
          record {
            one_place = place_joined cache nvm key w no_item no_put p.0.one_place;
            one_number = p.0.one_number;
            fresh = p.0.fresh;
            wishes = wishes_joined cache.memory key w nvm.fills p.0.wishes holds;
            one_add = λ n. one_more_add (adds n w) (count (adds n) (waiters_of (joined_by key w nvm.fills))) (count (adds n) (waiters_of nvm.fills)) (join-counts (adds n) key w nvm.fills) (none n) (p.0.one_add n);
          },
          beside_joined nvm key w p.1,
          p.2,
        )

-- ---- adds

number_same : (a n : ℕ) → (a == n) ≡ true → (P : ℕ → Type 0) → P a → P n
number_same a n e P h = subst P (eqb-true a n e) h

pub adds_keep : AddIsStructured
adds_keep cache client handle s = there (is_some (live cache.now (in_memory cache handle.key)))
  where
    begun : Cache
    begun = (begin client (Add handle.key handle.value handle.expiry) cache).cache

    waits_or : Known begun handle → (b : Bool) → must_wait begun handle.key ≡ b
        → Structured (if b then answers (Waits (cache.calls + 1)) (and_then (begin client (Add handle.key handle.value handle.expiry) cache) (wait_for handle.key (ToAdd handle))) else answers (Replied Stored) (and_then (begin client (Add handle.key handle.value handle.expiry) cache) (store handle))).cache
    waits_or known true e = waited begun handle.key (ToAdd handle) e (refl, known.is_there) (λ n t. number_same handle.number n t (λ (m : ℕ). count (adds m) (waiters_of (fills_of cache.nvm)) ≡ 0) known.none) s
    waits_or known false e = structured_of (store handle begun).cache (stored handle begun known (stands_of cache s))

    known : is_known cache handle ≡ true → Known begun handle
    known e = let k = known_by cache handle e in record { is_there = k.is_there; none = k.none }

    by : (b : Bool) → is_known cache handle ≡ b → Structured (if b then add client handle cache else stays (Refused ForeignHandle) cache).cache
    by true e = waits_or (known e) (must_wait begun handle.key) refl
    by false e = s

    there : (b : Bool) → Structured (if b then stays (Refused AlreadyExists) cache else (if is_known cache handle then add client handle cache else stays (Refused ForeignHandle) cache)).cache
    there true = s
    there false = by (is_known cache handle) refl

-- ---- finds

used_stands : (key : List ℕ) (cache : Cache) → Structured cache → Structured (used key cache)
used_stands key cache s =
    let p = parts_of cache.memory cache.nvm s in
    let memory = after_find cache.memory cache.now key in
    whole_of memory cache.nvm (
      held_less cache.memory memory (items_of cache.memory.pools) (items_of memory.pools) (queue_of cache.nvm) (queue_of cache.nvm) (fills_of cache.nvm) (fills_of cache.nvm) (fills_of cache.nvm) (fills_of cache.nvm)
          (record { charges = refl; made = refl }) (λ f same. omega (arith, used-flat f key cache.now cache.memory.pools)) (same_puts (queue_of cache.nvm)) (same_fills (fills_of cache.nvm)) (same_wait (fills_of cache.nvm)) p.0,
      p.1,
      p.2,
    )

pub finds : FindIsStructured
finds cache client key s = by (must_wait begun key) refl
  where
    begun : Cache
    begun = (begin client (Find key) cache).cache

    by : (b : Bool) → must_wait begun key ≡ b → Structured (if b then answers (Waits begun.calls) (wait_for key ToFind begun) else find_now (find_reply (live begun.now (in_memory begun key))) (used key begun)).cache
    by true e = waited begun key ToFind e tt (λ n t. absurd cc) s
    by false e = used_stands key begun s

-- ---- removes

pub removes : RemoveIsStructured
removes cache client key s =
    let begun = (begin client (Remove key) cache).cache in
    let gone = (uproot key begun).cache in
    structured_of (end_fill key None gone).cache (end_fill_stands key None gone ((uproot_passes key begun).stands (without_fill key) [] (unseen key begun (stands_of cache s))))

-- ---- replies and the clock

pub replies : ReplyIsStructured
replies cache call s = by (owed_at call cache.owed)
  where
    step : (number : ℕ) (reply : Option Reply) → Structured (take_of (Some (record { call = number; reply = reply })) cache).cache
    step number None = s
    step number (Some reply) = s

    by : (o : Option Owed) → Structured (take_of o cache).cache
    by None = s
    by (Some owed) = step owed.call owed.reply

pub ticks : TickIsStructured
ticks cache moment s = s
