-- Calls that wait are served.
use Rattle.std.proofs.Common.{◌≡◌, ℕ, ◌+◌, ◌<◌, ◌≤◌, ◌==◌, Bool, true, false, not, ◌&&◌, ◌||◌, List, [], ◌∷◌, ◌++◌, length, map, Option, Some, None, refl, ap, sym, ◌∙◌, arith, cond, subst, bytes_eq}
use Rattle.std.specs.List.{list_any}
use Rattle.std.specs.Prelude.{find, is_some, option_map, IsSomeAnd, IsSome, if◌then◌else◌}
use Rattle.std.proofs.lemmas.List.{map-append, length-map}
use Rattle.hc_types.specs.Tally.{count}
use Rattle.hc_types.proofs.Tallies.{tally-append, find-none}
use Rattle.hc_types.specs.Config.{Config}
use Rattle.hc_types.specs.declared.config.FlashConfig.{FlashConfig}
use Rattle.hc_types.specs.FlashEntry.{FlashEntry}
use Rattle.hc_memory.specs.Item.{Item, Handle, item_by}
use Rattle.hc_memory.specs.Pool.{Pool}
use Rattle.hc_memory.specs.Memory.{Memory, linked_at, after_free}
use Rattle.hc_memory.proofs.Keyed.{same_bytes}
use Rattle.hc_machine.specs.items.Items.{items_of}
use Rattle.hc_machine.proofs.items.Items.{bytes_eq-refl, bytes_eq-sym}
use Rattle.hc_invariant.proofs.Lookups.{at_key}
use Rattle.hc_history.proofs.Appended.{past-append}
use Rattle.hc_history.specs.Note.{Note, Op, Find, Add, Reply, Stored, Exists, Did, Freed}
use Rattle.hc_history.specs.Books.{Call, Entry, open_calls, open_call, entry_at, entry_after, done_by, now_at, value_at, unexpired}
use Rattle.hc_history.specs.Lawful.{IsAnswer, changes, past}
use Rattle.hc_machine.specs.Leaving.{is_over}
use Rattle.hc_machine.specs.Nvm.{Nvm, Wish, ToFind, ToAdd, Waiter, Fill, fill_at, adds}
use Rattle.hc_machine.specs.Cache.{Cache, Owed, Told, is_owed, owed_at, owed_with, with_memory, and_then}
use Rattle.hc_machine.specs.Calls.{is_kept_in, waiting_at}
use Rattle.hc_machine.specs.Waiting.{live, find_reply, answer, serve, serve_all, there_after, free, plant, entry_of_handle}
use Rattle.hc_invariant.specs.Standing.{map_of, Placed, PlacedAt, first_of}
use Rattle.hc_invariant.specs.Tells.{CallsTell, ChargesTell, waiters_of, op_of, asked_by, asked_in, is_unanswered}
use Rattle.hc_invariant.specs.Jobs.{AllWish, WishHolds}
use Rattle.hc_invariant.specs.Good.{IsSized, EntrySized, AllSized, fills_of}
use Rattle.hc_invariant.specs.Laws.{LawfulIn}
use Rattle.hc_invariant.proofs.Pieces.{pieces-both}
use Rattle.hc_proof.specs.frames.Midst.{none_moves, only}
use Rattle.hc_proof.specs.frames.Rest.{Rest}
use Rattle.hc_proof.specs.calls.Planting.{RestsFrom, PlacedFor, Planted, PlantKeeps}
use Rattle.hc_proof.specs.calls.Serving.{ghost, IsThere, is_unsaid, Serving, Served, ServeAllKeeps, ThereByMap}
use Rattle.hc_proof.proofs.frames.ByNumber.{same_number, found-passes, find-append, or_find, map-none}
use Rattle.hc_proof.proofs.calls.CallBooks as books
use Rattle.hc_proof.proofs.frames.CallNotes.{quiet_did, rest_still, flash_still, placed_quiet}
use Rattle.hc_proof.proofs.frames.OpenCharges.{freed_rest, free_allowed, wishes_stay}
use Rattle.hc_proof.proofs.frames.Fills.{rest_moves, rest_stands, rest_calls}
use Rattle.hc_proof.proofs.frames.CallsPass.{calls_over}

-- ---- what the key has

live_step : (now : ℕ) (e : FlashEntry) (b : Bool) → is_over now e ≡ b → option_map (λ (e : FlashEntry). e.value) (if b then None else Some e) ≡ (if b then None else Some e.value)
live_step now e true h = refl
live_step now e false h = refl

-- what is seen of an entry is what the map answers of it
pub live-is : (now : ℕ) (o : Option FlashEntry) → option_map (λ (e : FlashEntry). e.value) (live now o) ≡ unexpired now (option_map map_of o)
live-is now None = refl
live-is now (Some e) = live_step now e (is_over now e) refl

again_step : (now : ℕ) (e : FlashEntry) (b : Bool) → is_over now e ≡ b → live now (if b then None else Some e) ≡ (if b then None else Some e)
again_step now e true h = refl
again_step now e false h = ap (λ b. if b then None else Some e) h

pub live-again : (now : ℕ) (o : Option FlashEntry) → live now (live now o) ≡ live now o
live-again now None = refl
live-again now (Some e) = again_step now e (is_over now e) refl

pub there_by_map : ThereByMap
there_by_map config older cache key there items moves r e = live-is cache.now there ∙ (λ i. unexpired (sym r.clock i) (sym e i))

-- ---- the call's answer

-- an open call is answered as it asked
answered_by : (config : Config) (older : List Note) (call : ℕ) (op : Op) (reply : Reply) (o : Option Call) → option_map (λ (c : Call). c.op) o ≡ Some op → IsAnswer config.flash older call op reply
    → IsSomeAnd o (λ (c : Call). IsAnswer config.flash older call c.op reply)
answered_by config older call op reply None e h = absurd cc
answered_by config older call op reply (Some c) e h = let same : op ≡ c.op = cc in subst (λ (x : Op). IsAnswer config.flash older call x reply) same h

done_as : (now : ℕ) (op : Op) (key : List ℕ) (was : Option Entry) (o : Option Call) → option_map (λ (c : Call). c.op) o ≡ Some op → done_by now o key was ≡ entry_after now op key was
done_as now op key was None e = absurd cc
done_as now op key was (Some c) e = let same : c.op ≡ op = cc in ap (λ (x : Op). entry_after now x key was) same

found_counts : (n : ℕ) (all : List Owed) (o : Owed) → owed_at n all ≡ Some o → 1 ≤ count (is_owed n) all
found_counts n [] o e = absurd cc
found_counts n (x ∷ all) o e = step (is_owed n x) (found_counts n all o) e
  where
    step : (b : Bool) → (owed_at n all ≡ Some o → 1 ≤ count (is_owed n) all) → cond b (Some x) (owed_at n all) ≡ Some o → 1 ≤ cond b 1 0 + count (is_owed n) all
    step true rest e = omega arith
    step false rest e = omega (arith, rest e)

all_said : (n : ℕ) (all : List Owed) (o : Owed) → count is_unsaid all ≡ 0 → owed_at n all ≡ Some o → is_unanswered (Some o) ≡ false
all_said n [] o z e = absurd cc
all_said n (x ∷ all) o z e = step (is_owed n x) (is_unsaid x) refl (all_said n all o) z e
  where
    step : (b u : Bool) → is_unsaid x ≡ u → (count is_unsaid all ≡ 0 → owed_at n all ≡ Some o → is_unanswered (Some o) ≡ false) → cond u 1 0 + count is_unsaid all ≡ 0 → cond b (Some x) (owed_at n all) ≡ Some o → is_unanswered (Some o) ≡ false
    step b true h rest z e = absurd (omega arith)
    step true false h rest z e = let same : x ≡ o = cc in subst (λ (y : Owed). is_unanswered (Some y) ≡ false) same h
    step false false h rest z e = rest (omega arith) e

module _ (older : List Note) (calls : ℕ) (all more : List Owed) (key : List ℕ) (call : ℕ) (wish : Wish) (waiters : List Waiter) (fills : List Fill) (t : CallsTell older calls (all ++ more) (ghost key (record { call = call; wish = wish } ∷ waiters) ∷ fills)) (said : count is_unsaid more ≡ 0) where
  pub asks : asked_in call (ghost key (record { call = call; wish = wish } ∷ waiters) ∷ fills) ≡ Some (op_of key wish)
  asks = ap (λ b. first_of (cond b (Some (op_of key wish)) (asked_by call key waiters)) (asked_in call fills)) (same_number call)

  pub asked : option_map (λ (c : Call). c.op) (open_call call (open_calls older)) ≡ Some (op_of key wish)
  asked = t.open_ones call ∙ asks

  elsewhere : (o : Option Owed) → owed_at call more ≡ o → o ≡ None
  elsewhere None e = refl
  elsewhere (Some o) e =
      let counts = found_counts call more o e in
      let none : owed_at call all ≡ None = find-none (is_owed call) all (omega (arith, t.one_owed call, tally-append (λ (x : Owed). cond (is_owed call x) 1 0) all more)) in
      let found : owed_at call (all ++ more) ≡ Some o = find-append (is_owed call) all more ∙ ap (λ x. or_find x (owed_at call more)) none ∙ e in
      let yes : is_unanswered (Some o) ≡ true = sym (ap is_unanswered found) ∙ t.owes call ∙ ap is_some asks in
      let no_one = all_said call more o said e in
      absurd cc

  keeps : (reply : Reply) → owed_with call reply (all ++ more) ≡ owed_with call reply all ++ more
  keeps reply =
      let g : Owed → Owed = λ owed. if is_owed call owed then record owed { reply = Some reply } else owed in
      map-append g all more ∙ ap (λ (xs : List Owed). map g all ++ xs) (map-none (is_owed call) g (λ x h. ap (λ b. if b then record x { reply = Some reply } else x) h) more (elsewhere (owed_at call more) refl))

  -- the call is answered
  pub next_calls : (reply : Reply) → CallsTell (Did call reply ∷ older) calls (owed_with call reply all ++ more) (ghost key waiters ∷ fills)
  next_calls reply = subst (λ (xs : List Owed). CallsTell (Did call reply ∷ older) calls xs (ghost key waiters ∷ fills)) (keeps reply) (books.served older calls (all ++ more) key (record { call = call; wish = wish }) waiters fills reply t)

-- ---- one call

-- what the first of the calls to be served leaves to the others
pub record ServedOne (config : Config) (older : List Note) (key : List ℕ) (waiters : List Waiter) (more : List Owed) (cache : Cache) (there : Option FlashEntry) (told : Told) : Type 0 where
  pub lawful : (tail : List Note) → LawfulIn config older told.part tail
  pub serving : Serving config (past older told.part) told.cache key waiters more
  pub there_is : IsThere config (past older told.part) told.cache key there
  pub number : told.cache.calls ≡ cache.calls

pub rested_did : (flash : Option FlashConfig) (older : List Note) (call : ℕ) (reply : Reply) (key : List ℕ) → RestsFrom flash (Did call reply ∷ older) key
rested_did None older call reply key = tt
rested_did (Some flash) older call reply key = refl

-- a note that leaves the map leaves what the key has
same_there : (config : Config) (older newer : List Note) (key : List ℕ) → now_at newer ≡ now_at older → entry_at config.flash newer key ≡ entry_at config.flash older key → value_at config.flash newer key ≡ value_at config.flash older key
same_there config older newer key n e = λ i. unexpired (n i) (e i)

-- a find
serve_find : (config : Config) (older : List Note) (cache : Cache) (key : List ℕ) (call : ℕ) (waiters : List Waiter) (more : List Owed) (v : Option FlashEntry)
    → Serving config older cache key (record { call = call; wish = ToFind } ∷ waiters) more → IsThere config older cache key v → live cache.now v ≡ v
    → ServedOne config older key waiters more cache v (answer call (find_reply v) cache)
serve_find config older cache key call waiters more v s there again =
    let fills = fills_of cache.nvm in
    let reply = find_reply v in
    let newer : List Note = Did call reply ∷ older in
    let asks = asked older cache.calls cache.owed more key call ToFind waiters fills s.calls s.answered in
    let value : option_map (λ (e : FlashEntry). e.value) v ≡ value_at config.flash older key = ap (option_map (λ (e : FlashEntry). e.value)) (sym again) ∙ there in
    let same : (k : List ℕ) → entry_at config.flash newer k ≡ entry_at config.flash older k = λ k. done_as (now_at older) (Find key) k (entry_at config.flash older k) (open_call call (open_calls older)) asks in
    let charges : ChargesTell newer (items_of cache.memory.pools) cache.memory.charges cache.memory.made = record { one_key = s.rest.charges.one_key; one_number = s.rest.charges.one_number; fresh = s.rest.charges.fresh; same = s.rest.charges.same } in
    record {
      lawful = λ tail. (answered_by config older call (Find key) reply (open_call call (open_calls older)) asks (by v value), tt);
      serving = record {
        rest = rest_calls config newer cache (items_of cache.memory.pools) none_moves cache.calls (owed_with call reply cache.owed) (rest_still config older newer cache (items_of cache.memory.pools) (items_of cache.memory.pools) none_moves (quiet_did older call reply) same refl charges s.rest);
        calls = next_calls older cache.calls cache.owed more key call ToFind waiters fills s.calls s.answered reply;
        answered = s.answered;
        wishes = s.wishes.1;
        sized = s.sized.1;
        one_add = λ n. omega (arith, s.one_add n);
        alone = s.alone;
        unqueued = s.unqueued;
        rested = rested_did config.flash older call reply key;
      };
      there_is = there ∙ sym (same_there config older newer key refl (same key));
      number = refl;
    }
  where
    by : (v : Option FlashEntry) → option_map (λ (e : FlashEntry). e.value) v ≡ value_at config.flash older key → IsAnswer config.flash older call (Find key) (find_reply v)
    by None e = sym e
    by (Some x) e = sym e

kept_entry : (now : ℕ) (handle : Handle) (k : List ℕ) (was : Option Entry) → (bytes_eq handle.key k ≡ true → IsSome (unexpired now was)) → entry_after now (Add handle.key handle.value handle.expiry) k was ≡ was
kept_entry now handle k was h = step (bytes_eq handle.key k) (unexpired now was) h
  where
    step : (b : Bool) (u : Option (List ℕ)) → (b ≡ true → IsSome u) → (if b && not (is_some u) then Some (record { value = handle.value; expiry = handle.expiry }) else was) ≡ was
    step true None h = absurd (let x = h refl in cc)
    step true (Some x) h = refl
    step false u h = refl

is_there : (v : Option (List ℕ)) (e : FlashEntry) → Some e.value ≡ v → IsSome v
is_there None e h = absurd cc
is_there (Some x) e h = refl

-- an add whose key has a value: its charge goes
serve_exists : (config : Config) (older : List Note) (cache : Cache) (handle : Handle) (call : ℕ) (waiters : List Waiter) (more : List Owed) (entry : FlashEntry)
    → Serving config older cache handle.key (record { call = call; wish = ToAdd handle } ∷ waiters) more → IsThere config older cache handle.key (Some entry) → live cache.now (Some entry) ≡ Some entry
    → ServedOne config older handle.key waiters more cache (Some entry) (and_then (free handle.number cache) (answer call Exists))
serve_exists config older cache handle call waiters more entry s there again =
    let key = handle.key in
    let n = handle.number in
    let fills = fills_of cache.nvm in
    let mid : List Note = Freed n ∷ older in
    let newer : List Note = Did call Exists ∷ mid in
    let freed : Cache = with_memory (after_free cache.memory n) cache in
    let t : CallsTell mid cache.calls (cache.owed ++ more) (ghost key (record { call = call; wish = ToAdd handle } ∷ waiters) ∷ fills) = calls_over older mid cache.calls (cache.owed ++ more) (ghost key (record { call = call; wish = ToAdd handle } ∷ waiters) ∷ fills) refl refl refl s.calls in
    let asks = asked mid cache.calls cache.owed more key call (ToAdd handle) waiters fills t s.answered in
    let own : ◌≡◌ {A = ℕ} (cond (n == n) 1 0) 1 = ap {B = ℕ} (λ b. cond b 1 0) (same_number n) in
    let others : count (adds n) (waiters ++ waiters_of fills) ≡ 0 = omega (arith, s.one_add n, own) in
    let sum = tally-append (λ (w : Waiter). cond (adds n w) 1 0) waiters (waiters_of fills) in
    let value : Some entry.value ≡ value_at config.flash older key = ap (option_map (λ (e : FlashEntry). e.value)) (sym again) ∙ there in
    let has : IsSome (value_at config.flash older key) = is_there (value_at config.flash older key) entry value in
    let same : (k : List ℕ) → entry_at config.flash newer k ≡ entry_at config.flash older k = λ k. done_as (now_at older) (Add handle.key handle.value handle.expiry) k (entry_at config.flash older k) (open_call call (open_calls older)) asks
    ∙ kept_entry (now_at older) handle k (entry_at config.flash older k) (λ e. subst (λ (x : List ℕ). IsSome (value_at config.flash older x)) (same_bytes handle.key k e) has) in
    let rest = freed_rest config older cache handle (items_of cache.memory.pools) none_moves s.wishes.0.1 (omega (arith, others, sum)) s.rest in
    let charges : ChargesTell newer (items_of cache.memory.pools) freed.memory.charges cache.memory.made = record { one_key = rest.charges.one_key; one_number = rest.charges.one_number; fresh = rest.charges.fresh; same = rest.charges.same } in
    record {
      lawful = λ tail. (free_allowed config older cache handle (items_of cache.memory.pools) none_moves (Did call Exists ∷ tail) s.wishes.0.1 s.rest, (answered_by config mid call (Add handle.key handle.value handle.expiry) Exists (open_call call (open_calls older)) asks has, tt));
      serving = record {
        rest = rest_calls config newer freed (items_of cache.memory.pools) none_moves cache.calls (owed_with call Exists cache.owed) (rest_still config mid newer freed (items_of cache.memory.pools) (items_of cache.memory.pools) none_moves (quiet_did mid call Exists) same refl charges rest);
        calls = next_calls mid cache.calls cache.owed more key call (ToAdd handle) waiters fills t s.answered Exists;
        answered = s.answered;
        wishes = wishes_stay n cache.memory key waiters s.rest.sound.unique (omega (arith, others, sum)) s.wishes.1;
        sized = s.sized.1;
        one_add = λ m. omega (arith, s.one_add m);
        alone = s.alone;
        unqueued = s.unqueued;
        rested = rested_did config.flash mid call Exists key;
      };
      there_is = there ∙ sym (same_there config older newer key refl (same key));
      number = refl;
    }

-- ---- an add that stores

pub unkept_by : (n : ℕ) (fills : List Fill) → count (adds n) (waiters_of fills) ≡ 0 → list_any (λ (fill : Fill). list_any (adds n) fill.waiters) fills ≡ false
unkept_by n [] z = refl
unkept_by n (fill ∷ fills) z =
    let sum = tally-append (λ (w : Waiter). cond (adds n w) 1 0) fill.waiters (waiters_of fills) in
    both (list_any (adds n) fill.waiters) (list_any (λ (fill : Fill). list_any (adds n) fill.waiters) fills) (none fill.waiters (omega (arith, z, sum))) (unkept_by n fills (omega (arith, z, sum)))
  where
    both : (a b : Bool) → a ≡ false → b ≡ false → (a || b) ≡ false
    both true b h k = h
    both false b h k = k

    none : (waiters : List Waiter) → count (adds n) waiters ≡ 0 → list_any (adds n) waiters ≡ false
    none [] z = refl
    none (w ∷ ws) z = step (adds n w) (none ws) z
      where
        step : (b : Bool) → (count (adds n) ws ≡ 0 → list_any (adds n) ws ≡ false) → cond b 1 0 + count (adds n) ws ≡ 0 → (b || list_any (adds n) ws) ≡ false
        step true rest z = absurd (omega arith)
        step false rest z = rest (omega arith)

-- no add that waits in a fill keeps the charge
pub unkept : (n : ℕ) (nvm : Option Nvm) → count (adds n) (waiters_of (fills_of nvm)) ≡ 0 → is_kept_in nvm n ≡ false
unkept n None z = refl
unkept n (Some nvm) z = unkept_by n nvm.fills z

call_counts : (test p : Call → Bool) (xs : List Call) (x : Call) → find test xs ≡ Some x → p x ≡ true → 0 < count p xs
call_counts test p [] x e h = absurd cc
call_counts test p (y ∷ xs) x e h = step (test y) (call_counts test p xs x) e
  where
    step : (b : Bool) → (find test xs ≡ Some x → p x ≡ true → 0 < count p xs) → cond b (Some y) (find test xs) ≡ Some x → 0 < cond (p y) 1 0 + count p xs
    step true rest e = let same : y ≡ x = cc in let one : ◌≡◌ {A = ℕ} (cond (p y) 1 0) 1 = ap {B = ℕ} (λ b. cond b 1 0) (ap p same ∙ h) in omega (arith, one)
    step false rest e = omega (arith, rest e h)

-- the call that is answered next adds the key
changes_by : (call : ℕ) (handle : Handle) (xs : List Call) (o : Option Call) → open_call call xs ≡ o → option_map (λ (c : Call). c.op) o ≡ Some (Add handle.key handle.value handle.expiry)
    → 0 < count (λ (c : Call). (c.number == call) && changes c.op Stored handle.key) xs
changes_by call handle xs None e h = absurd cc
changes_by call handle xs (Some c) e h =
    let op : c.op ≡ Add handle.key handle.value handle.expiry = cc in
    call_counts (λ (c : Call). c.number == call) (λ (c : Call). (c.number == call) && changes c.op Stored handle.key) xs c e
    (both (c.number == call) (changes c.op Stored handle.key) (found-passes (λ (c : Call). c.number == call) xs c e) (ap (λ (x : Op). changes x Stored handle.key) op ∙ bytes_eq-refl handle.key))
  where
    both : (a b : Bool) → a ≡ true → b ≡ true → (a && b) ≡ true
    both true b h k = k
    both false b h k = absurd cc

pub wishes_by : (memory memory' : Memory) (key : List ℕ) (waiters : List Waiter) → memory'.charges ≡ memory.charges → AllWish memory key waiters → AllWish memory' key waiters
wishes_by memory memory' key [] e h = tt
wishes_by memory memory' key (w ∷ ws) e h = (one w.wish h.0, wishes_by memory memory' key ws e h.1)
  where
    one : (wish : Wish) → WishHolds memory key wish → WishHolds memory' key wish
    one ToFind h = tt
    one (ToAdd handle) h = (h.0, rw e h.1)

linked_alone : (i : Option Item) (x : Item) (q w : Option FlashEntry) (b : Bool) (s l : Option FlashEntry) (m : Option Entry) → i ≡ Some x → Placed i q w b s l m → q ≡ None
linked_alone i x q w b s l m e h = grind arith

stored_entry : (now : ℕ) (handle : Handle) (was : Option Entry) → unexpired now was ≡ None → entry_after now (Add handle.key handle.value handle.expiry) handle.key was ≡ Some (record { value = handle.value; expiry = handle.expiry })
stored_entry now handle was h = step (bytes_eq handle.key handle.key) (unexpired now was) (bytes_eq-refl handle.key) h
  where
    step : (b : Bool) (u : Option (List ℕ)) → b ≡ true → u ≡ None → (if b && not (is_some u) then Some (record { value = handle.value; expiry = handle.expiry }) else was) ≡ Some (record { value = handle.value; expiry = handle.expiry })
    step true None h k = refl
    step true (Some x) h k = absurd cc
    step false u h k = absurd cc

pub other_entry : (now : ℕ) (handle : Handle) (k : List ℕ) (was : Option Entry) → bytes_eq handle.key k ≡ false → entry_after now (Add handle.key handle.value handle.expiry) k was ≡ was
other_entry now handle k was h = ap (λ b. if b && not (is_some (unexpired now was)) then Some (record { value = handle.value; expiry = handle.expiry }) else was) h

-- Behind the Did of what was planted, for a map that has it now: the key stands again.
pub planted_rest : (config : Config) (older : List Note) (cache : Cache) (handle : Handle) (call : ℕ) (reply : Reply) (items : List Item) → Rest config older cache items (only handle.key) → IsSized handle.key handle.value handle.expiry
    → PlacedFor (Some (record { value = handle.value; expiry = handle.expiry })) older cache handle.key
    → entry_at config.flash (Did call reply ∷ older) handle.key ≡ Some (record { value = handle.value; expiry = handle.expiry })
    → ((k : List ℕ) → bytes_eq k handle.key ≡ false → entry_at config.flash (Did call reply ∷ older) k ≡ entry_at config.flash older k)
    → Rest config (Did call reply ∷ older) cache items (only handle.key) × PlacedAt config.flash (Did call reply ∷ older) cache handle.key
planted_rest config older cache handle call reply items r sized stands own others = (
  record {
    own = r.own;
    sizes = r.sizes;
    flash_is = r.flash_is;
    sound = r.sound;
    charges = record { one_key = r.charges.one_key; one_number = r.charges.one_number; fresh = r.charges.fresh; same = r.charges.same };
    placed = λ k still. placed_quiet config.flash older (Did call reply ∷ older) cache k (quiet_did older call reply) (others k still) (r.placed k still);
    sized = at_key (λ k. EntrySized k (entry_at config.flash (Did call reply ∷ older) k)) handle.key (rw own sized) (λ k o. rw (others k o) (r.sized k));
    clock = r.clock;
    flash = flash_still config.flash older (Did call reply ∷ older) cache.memory cache.nvm (only handle.key) (quiet_did older call reply) r.flash;
  },
  subst (λ (m : Option Entry). PlacedFor m older cache handle.key) (sym own) stands,
)

serve_store : (plants : PlantKeeps) (config : Config) (older : List Note) (cache : Cache) (handle : Handle) (call : ℕ) (waiters : List Waiter) (more : List Owed)
    → Serving config older cache handle.key (record { call = call; wish = ToAdd handle } ∷ waiters) more → IsThere config older cache handle.key None
    → ServedOne config older handle.key waiters more cache (Some (entry_of_handle handle)) (and_then (plant handle cache) (answer call Stored))
serve_store plants config older cache handle call waiters more s there =
    let key = handle.key in
    let n = handle.number in
    let op : Op = Add handle.key handle.value handle.expiry in
    let fills = fills_of cache.nvm in
    let now_has : Entry = record { value = handle.value; expiry = handle.expiry } in
    let own : ◌≡◌ {A = ℕ} (cond (n == n) 1 0) 1 = ap {B = ℕ} (λ b. cond b 1 0) (same_number n) in
    let others : count (adds n) (waiters ++ waiters_of fills) ≡ 0 = omega (arith, s.one_add n, own) in
    let sum = tally-append (λ (w : Waiter). cond (adds n w) 1 0) waiters (waiters_of fills) in
    let asks = asked older cache.calls cache.owed more key call (ToAdd handle) waiters fills s.calls s.answered in
    let planted : (tail : List Note) → Planted config older handle call tail cache (plant handle cache) = λ tail. plants config older cache handle call tail
    (rest_moves config older cache (items_of cache.memory.pools) (only key) s.rest) (s.rest.placed key refl) (λ h. absurd (let e = ap is_some s.unqueued in cc)) s.rested s.wishes.0.1 (unkept n cache.nvm (omega (arith, others, sum))) s.sized.0.0
    (changes_by call handle (open_calls older) (open_call call (open_calls older)) refl asks) in
    let p = planted [] in
    let part = (plant handle cache).part in
    let after = (plant handle cache).cache in
    let mid : List Note = past older part in
    let newer : List Note = Did call Stored ∷ mid in
    let items = items_of after.memory.pools in
    let t : CallsTell mid after.calls (after.owed ++ more) (ghost key (record { call = call; wish = ToAdd handle } ∷ waiters) ∷ fills_of after.nvm) =
    rw (p.calls.calls, p.calls.owes, p.fills) (calls_over older mid cache.calls (cache.owed ++ more) (ghost key (record { call = call; wish = ToAdd handle } ∷ waiters) ∷ fills) p.calls.begun p.calls.open_ones p.calls.owed s.calls) in
    let asks_now = asked mid after.calls after.owed more key call (ToAdd handle) waiters (fills_of after.nvm) t s.answered in
    let clock : now_at mid ≡ now_at older = p.rest.clock ∙ p.same_clock ∙ sym s.rest.clock in
    let nothing : unexpired (now_at mid) (entry_at config.flash mid key) ≡ None = same_there config older mid key clock p.entry ∙ sym there in
    let each : (k : List ℕ) → entry_at config.flash newer k ≡ entry_after (now_at mid) op k (entry_at config.flash mid k) = λ k. done_as (now_at mid) op k (entry_at config.flash mid k) (open_call call (open_calls mid)) asks_now in
    let has : entry_at config.flash newer key ≡ Some now_has = each key ∙ stored_entry (now_at mid) handle (entry_at config.flash mid key) nothing in
    let both = planted_rest config mid after handle call Stored items p.rest s.sized.0.0 p.stands has (λ k o. each k ∙ other_entry (now_at mid) handle k (entry_at config.flash mid k) (bytes_eq-sym handle.key k ∙ o)) in
    let alone : fill_at key (fills_of after.nvm) ≡ None = ap (fill_at key) p.fills ∙ s.alone in
    let pools : length cache.memory.pools ≡ length after.memory.pools = sym (length-map cache.memory.pools (λ (pool : Pool). pool.size)) ∙ ap length (s.rest.sizes ∙ sym p.rest.sizes) ∙ length-map after.memory.pools (λ (pool : Pool). pool.size) in
    let left : Serving config newer (record after { owed = owed_with call Stored after.owed }) key waiters more = record {
      rest = rest_calls config newer after items none_moves after.calls (owed_with call Stored after.owed) (rest_stands config newer after items key both.0 both.1 alone);
      calls = next_calls mid after.calls after.owed more key call (ToAdd handle) waiters (fills_of after.nvm) t s.answered Stored;
      answered = s.answered;
      wishes = wishes_by (after_free cache.memory n) after.memory key waiters p.charges (wishes_stay n cache.memory key waiters s.rest.sound.unique (omega (arith, others, sum)) s.wishes.1);
      sized = subst (λ (pools : ℕ). AllSized pools waiters) pools s.sized.1;
      one_add = λ m. rw p.fills (omega (arith, s.one_add m));
      alone = alone;
      unqueued = linked_alone (linked_at key after.memory.pools) (item_by false handle) (waiting_at after.nvm key) _ _ _ _ _ p.linked p.stands;
      rested = rested_did config.flash mid call Stored key;
    } in
    record {
      lawful = λ tail. pieces-both config older part (Did call Stored ∷ []) tail (planted tail).lawful (answered_by config mid call op Stored (open_call call (open_calls mid)) asks_now nothing, tt);
      serving = subst (λ (h : List Note). Serving config h (record after { owed = owed_with call Stored after.owed }) key waiters more) (sym (past-append older part (Did call Stored ∷ []))) left;
      there_is = subst (λ (h : List Note). IsThere config h (record after { owed = owed_with call Stored after.owed }) key (Some (entry_of_handle handle))) (sym (past-append older part (Did call Stored ∷ [])))
          (live-is after.now (Some (entry_of_handle handle)) ∙ (λ i. unexpired (sym p.rest.clock i) (sym has i)));
      number = p.calls.calls;
    }

-- ---- all of them

serve_one : (plants : PlantKeeps) (config : Config) (older : List Note) (cache : Cache) (key : List ℕ) (call : ℕ) (wish : Wish) (waiters : List Waiter) (more : List Owed) (v : Option FlashEntry)
    → Serving config older cache key (record { call = call; wish = wish } ∷ waiters) more → IsThere config older cache key v → live cache.now v ≡ v → ServedOne config older key waiters more cache (there_after wish v) (serve call wish v cache)
serve_one plants config older cache key call ToFind waiters more v s there again = serve_find config older cache key call waiters more v s there again
serve_one plants config older cache key call (ToAdd handle) waiters more (Some entry) s there again =
    let same : handle.key ≡ key = s.wishes.0.0 in
    subst (λ (k : List ℕ). ServedOne config older k waiters more cache (Some entry) (and_then (free handle.number cache) (answer call Exists))) same
    (serve_exists config older cache handle call waiters more entry (subst (λ (k : List ℕ). Serving config older cache k (record { call = call; wish = ToAdd handle } ∷ waiters) more) (sym same) s) (subst (λ (k : List ℕ). IsThere config older cache k (Some entry)) (sym same) there) again)
serve_one plants config older cache key call (ToAdd handle) waiters more None s there again =
    let same : handle.key ≡ key = s.wishes.0.0 in
    subst (λ (k : List ℕ). ServedOne config older k waiters more cache (Some (entry_of_handle handle)) (and_then (plant handle cache) (answer call Stored))) same
    (serve_store plants config older cache handle call waiters more (subst (λ (k : List ℕ). Serving config older cache k (record { call = call; wish = ToAdd handle } ∷ waiters) more) (sym same) s) (subst (λ (k : List ℕ). IsThere config older cache k None) (sym same) there))

served_then : (config : Config) (older : List Note) (key : List ℕ) (waiters : List Waiter) (more : List Owed) (cache : Cache) (there : Option FlashEntry) (told : Told) (f : Cache → Told) → ServedOne config older key waiters more cache there told
    → Served config (past older told.part) more told.cache (f told.cache) → Served config older more cache (and_then told f)
served_then config older key waiters more cache there told f one rest = record {
  lawful = λ tail. pieces-both config older told.part (f told.cache).part tail (one.lawful ((f told.cache).part ++ tail)) (rest.lawful tail);
  rest = subst (λ (h : List Note). Rest config h (f told.cache).cache (items_of (f told.cache).cache.memory.pools) none_moves) (sym (past-append older told.part (f told.cache).part)) rest.rest;
  calls = subst (λ (h : List Note). CallsTell h (f told.cache).cache.calls ((f told.cache).cache.owed ++ more) (fills_of (f told.cache).cache.nvm)) (sym (past-append older told.part (f told.cache).part)) rest.calls;
  number = rest.number ∙ one.number;
}

pub serve_all_keeps : PlantKeeps → ServeAllKeeps
serve_all_keeps plants config older cache key [] there more s t = record { lawful = λ tail. tt; rest = s.rest; calls = books.asks_anew older cache.calls (cache.owed ++ more) (ghost key [] ∷ fills_of cache.nvm) (fills_of cache.nvm) s.calls (λ n. refl) (λ n. refl); number = refl }
serve_all_keeps plants config older cache key (waiter ∷ waiters) there more s t =
    let v = live cache.now there in
    let again = live-again cache.now there in
    let one = serve_one plants config older cache key waiter.call waiter.wish waiters more v s (ap (option_map (λ (e : FlashEntry). e.value)) again ∙ t) again in
    let told = serve waiter.call waiter.wish v cache in
    served_then config older key waiters more cache (there_after waiter.wish v) told (serve_all waiters (there_after waiter.wish v)) one
    (serve_all_keeps plants config (past older told.part) told.cache key waiters (there_after waiter.wish v) more one.serving one.there_is)
