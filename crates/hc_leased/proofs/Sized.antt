-- What calls are handed is within its limits: by the types of their arguments, and since no charge is open for a longer
-- item.
use Rattle.std.proofs.Common.{◌≡◌, ℕ, ◌+◌, ◌-◌, ◌≤◌, ◌^◌, ◌==◌, nat_lt, min, Bool, true, false, cond, List, [], ◌∷◌, ◌++◌, length, Option, Some, None, refl, subst, arith}
use Rattle.std.specs.Prelude.{if◌then◌else◌, is_some}
use Rattle.hc_types.specs.declared.refusal.Refusal.{Refusal}
use Rattle.hc_types.specs.declared.refusal.Refusal.TheVariants.{ForeignHandle, Exists as AlreadyExists}
use Rattle.hc_memory.specs.Item.{Open, Handle, charge_by}
use Rattle.hc_memory.specs.Charges.{is_open}
use Rattle.hc_memory.proofs.Books.{is_open-found, count-closed}
use Rattle.hc_history.specs.Note as note
use Rattle.hc_history.specs.Note.{Insert}
use Rattle.hc_machine.specs.Cache.{Cache, Answer, Opened, Refused, Replied, answers, stays, and_then}
use Rattle.hc_machine.specs.Evicting.{allocate_by, allocate, handle_for}
use Rattle.hc_machine.specs.items.Allocating.{refusal_of, expiry_of}
use Rattle.hc_machine.specs.Waiting.{live}
use Rattle.hc_machine.specs.Calls.{begin, is_known, is_kept_in, store, insert_or_replace, in_memory, add, insert}
use Rattle.hc_invariant.specs.Good.{IsSized}
use Rattle.hc_proof.proofs.calls.Adds.{and_both}
use Rattle.hc_calls.specs.declared.answers.Inserted.{Inserted}
use Rattle.hc_calls.specs.declared.answers.Inserted.TheVariants as inserted
use Rattle.hc_core.specs.Answers.{inserted_answer}
use Rattle.hc_core.specs.Arguments.{CallFits}
use Rattle.hc_core.specs.Holds.{is_long, AreShort}
use Rattle.hc_core.proofs.Short.{stays-short}
use Rattle.hc_machine.specs.Call.{CacheCall, Allocates, Inserts, Adds, Discards, act, acts}
use Rattle.hc_theorem.specs.runs.Honesty.{CallSized, AllCallSized}
use Rattle.hc_theorem.proofs.runs.Running.{short_value, second_by, within}
use Rattle.hc_leased.specs.Leased.{Leased}
use Rattle.hc_leased.specs.Runs.{Call, Looks, Stores, Sets, GivesUp, Puts, Tries, Fails, Deletes, Takes, Forgets, Nothing, IsLook, Does, IsKey, Fits, with_handle, events_of}

-- ---- a handle that is known is within the limits of an item

not_long : (size : ℕ) (b : Bool) → nat_lt 1048576 size ≡ b → ◌≡◌ {A = ℕ} (cond b 1 0) 0 → size ≤ 1048576
not_long size true e none = absurd cc
not_long size false e none = grind (arith, e)

short_one : (charges : List Open) (charge : Open) → is_open charge charges ≡ true → AreShort charges → charge.size ≤ 1048576
short_one charges charge there short =
    let one = count-closed is_long charge.number charges charge (is_open-found charge charges there) in
    not_long charge.size (is_long charge) refl (omega (arith, one, short))

known-sized : (cache : Cache) (handle : Handle) → IsSized handle.key [] handle.expiry → AreShort cache.memory.charges → is_known cache handle ≡ true → IsSized handle.key handle.value handle.expiry
known-sized cache handle fits short known =
    let there = (and_both (is_open (charge_by handle) cache.memory.charges) (is_kept_in cache.nvm handle.number) known).0 in
    record { some_key = fits.some_key; short_key = fits.short_key; short_value = short_one cache.memory.charges (charge_by handle) there short; second = fits.second }

-- one that was stored was known
stored-known : (client : ℕ) (handle : Handle) (cache : Cache) → Replied note.Stored ≡ (insert_or_replace client handle cache).answer → is_known cache handle ≡ true
stored-known client handle cache e = go (is_known cache handle) e
  where
    go : (b : Bool) → Replied note.Stored ≡ (if b then answers (Replied note.Stored) (and_then (begin client (Insert handle.key handle.value handle.expiry) cache) (store handle)) else stays (Refused ForeignHandle) cache).answer → b ≡ true
    go true e = refl
    go false e = absurd cc

-- and one that was added, or waits
put-known : (client : ℕ) (handle : Handle) (cache : Cache) (done : Inserted) → inserted_answer done ≡ (insert client handle cache).answer → is_known cache handle ≡ true
put-known client handle cache done e = go (is_some (live cache.now (in_memory cache handle.key))) (is_known cache handle) done e
  where
    go : (a b : Bool) (done : Inserted) → inserted_answer done ≡ (if a then stays (Refused AlreadyExists) cache else (if b then add client handle cache else stays (Refused ForeignHandle) cache)).answer → b ≡ true
    go a true done e = refl
    go true false inserted.Stored e = absurd cc
    go true false (inserted.Waiting n) e = absurd cc
    go false false inserted.Stored e = absurd cc
    go false false (inserted.Waiting n) e = absurd cc

-- ---- an item that is allocated is within them

pub opened-sized : (pool : ℕ) (key value : List ℕ) (ttl : ℕ) (cache : Cache) (handle : Handle) → IsKey key → (allocate pool key value ttl cache).answer ≡ Opened handle → IsSized handle.key handle.value handle.expiry
opened-sized pool key value ttl cache handle fits e = go (refusal_of cache.memory pool key (length value)) refl e
  where
    go : (o : Option Refusal) → refusal_of cache.memory pool key (length value) ≡ o → (allocate_by o pool key value ttl cache).answer ≡ Opened handle → IsSized handle.key handle.value handle.expiry
    go None f e =
        let is : handle_for cache pool key value (expiry_of cache.now ttl) ≡ handle = cc in
        subst (λ (h : Handle). IsSized h.key h.value h.expiry) is (record {
          some_key = fits.0;
          short_key = fits.1;
          short_value = short_value cache.memory pool key (length value) f;
          second = second_by (ttl == 0) (min (cache.now + ttl) (2 ^ 64 - 1)) (within (cache.now + ttl));
        })
    go (Some refusal) f e = absurd cc

key-sized : (key : List ℕ) → IsKey key → IsSized key [] 0
key-sized key fits = record { some_key = fits.0; short_key = fits.1; short_value = omega arith; second = omega arith }

-- what is done with its handle
handle-sized : (pool : ℕ) (key value : List ℕ) (ttl : ℕ) (cache : Cache) (f : Handle → List CacheCall) → IsKey key → ((handle : Handle) → IsSized handle.key handle.value handle.expiry → AllCallSized (f handle))
    → AllCallSized (Allocates pool key value ttl ∷ with_handle (allocate pool key value ttl cache).answer f)
handle-sized pool key value ttl cache f fits sized = (key-sized key fits, go (allocate pool key value ttl cache).answer refl)
  where
    go : (a : Answer) → (allocate pool key value ttl cache).answer ≡ a → AllCallSized (with_handle a f)
    go (Opened handle) e = sized handle (opened-sized pool key value ttl cache handle fits e)
    go a e = tt

-- ---- calls one after the other

look-sized : (event : CacheCall) → IsLook event → CallFits event → CallSized event
look-sized (Allocates pool key value ttl) look fits = fits
look-sized (Inserts client handle) look fits = absurd look
look-sized (Adds client handle) look fits = absurd look
look-sized event look fits = tt

pub call-sized : (call : Call) (old new : Leased) → Does call old new → Fits call → AreShort old.logged.cache.memory.charges → AllCallSized (events_of call old.logged.cache)
call-sized (Looks event answer) old new does fits short = (look-sized event does.0 fits, tt)
call-sized (Stores client handle) old new does fits short = (known-sized old.logged.cache handle fits short (stored-known client handle old.logged.cache does.0.answer_is), tt)
call-sized (Sets pool key value ttl) old new does fits short = handle-sized pool key value ttl old.logged.cache (λ handle. Inserts 0 handle ∷ []) fits (λ handle sized. (sized, tt))
call-sized (GivesUp pool key value ttl) old new does fits short = handle-sized pool key value ttl old.logged.cache (λ handle. Discards handle ∷ []) fits (λ handle sized. (tt, tt))
call-sized (Puts client handle done) old new does fits short = (known-sized old.logged.cache handle fits short (put-known client handle old.logged.cache done does.0.answer_is), tt)
call-sized (Tries pool key value ttl done) old new does fits short = handle-sized pool key value ttl old.logged.cache (λ handle. Adds 0 handle ∷ []) fits (λ handle sized. (sized, tt))
call-sized (Fails pool key value ttl) old new does fits short = handle-sized pool key value ttl old.logged.cache (λ handle. Adds 0 handle ∷ Discards handle ∷ []) fits (λ handle sized. (sized, (tt, tt)))
call-sized (Deletes client key answer) old new does fits short = (tt, tt)
call-sized (Takes call reply) old new does fits short = (tt, tt)
call-sized Forgets old new does fits short = tt
call-sized Nothing old new does fits short = tt

pub acts-short : (events : List CacheCall) (cache : Cache) → AreShort cache.memory.charges → AreShort (acts events cache).cache.memory.charges
acts-short [] cache short = short
acts-short (event ∷ events) cache short = acts-short events (act event cache).cache (stays-short event cache short)

pub sized-append : (one two : List CacheCall) → AllCallSized one → AllCallSized two → AllCallSized (one ++ two)
sized-append [] two h k = k
sized-append (event ∷ one) two h k = (h.0, sized-append one two h.1 k)
