-- Two calls, one after the other, are a step that the machine takes at once.
use Rattle.std.proofs.Common.{◌≡◌, ◌≢◌, ◌⊎◌, inl, inr, ℕ, ◌+◌, Bool, true, false, List, Option, Some, None, if◌then◌else◌, refl, sym, ap, ◌∙◌, subst}
use Rattle.std.proofs.lemmas.Result.{on_ok_weaker}
use Rattle.std.specs.Prelude.{not, nat_lt, length, is_some, Result, Ok, Err, IfOk, OnOk, OnErr, IfErr}
use Rattle.hc_types.specs.Charge.{charge_of}
use Rattle.hc_types.specs.Limits.{key_refusal}
use Rattle.hc_types.specs.declared.refusal.Refusal.{Refusal}
use Rattle.hc_types.specs.declared.refusal.Refusal.TheVariants.{NoPool, ValueTooLong, NoRoom, ForeignHandle, Exists, NoMemory}
use Rattle.hc_memory.specs.Item.{Handle}
use Rattle.hc_memory.specs.Memory.{is_hopeless}
use Rattle.hc_history.specs.Told.{told_more}
use Rattle.hc_history.specs.Note as note
use Rattle.hc_history.specs.Note.{Add}
use Rattle.hc_history.proofs.Telling.{told-twice}
use Rattle.hc_machine.specs.Nvm.{ToAdd}
use Rattle.hc_machine.specs.Cache.{Cache, Moved, Answer, Refused, Opened, Discarded, Replied, Waits, answers, stays, and_then}
use Rattle.hc_machine.specs.Evicting.{allocate_by, allocate}
use Rattle.hc_machine.specs.Waiting.{live}
use Rattle.hc_machine.specs.Calls.{begin, store, wait_for, in_memory, must_wait, is_known, discard, insert_or_replace, insert}
use Rattle.hc_machine.specs.World.{then_inserted, inserted, given_up, put_new}
use Rattle.hc_state.specs.Answers.{refusal_in, IsReason}
use Rattle.hc_state.specs.store.Insert.{inserted_answer}
use Rattle.hc_calls.specs.declared.answers.Inserted.{Inserted}
use Rattle.hc_calls.specs.declared.answers.Inserted.TheVariants.{Stored, Waiting}
use Rattle.hc_core.specs.Logged.{Logged, IsCall}
use Rattle.hc_core.specs.Plain.{set_step, add_step, give_up_step, MayRefuse, MayRefuseNew}

-- an item is allocated, and something is done with its handle
pub then-call : (f : Handle → Cache → Moved) (opened : Moved) (handle : Handle) (answer : Answer) (old mid new : Logged) → IsCall opened (Opened handle) old mid
    → IsCall (f handle mid.cache) answer mid new → IsCall (inserted f opened) answer old new
then-call f opened handle answer old mid new first second =
    subst (λ (a : Answer). IsCall (then_inserted f a opened) answer old new) first.answer_is (record {
      cache = second.cache ∙ ap (λ c. (f handle c).cache) first.cache;
      answer_is = second.answer_is ∙ ap (λ c. (f handle c).answer) first.cache;
      log = second.log ∙ (λ i. told_more (first.log i) (f handle (first.cache i)).part) ∙ told-twice old.log opened.part (f handle opened.cache).part;
    })

-- what came back is what was handed in, and the cache is as it was
pub discarded-so : (handle back : Handle) (old mid new : Logged) → back ≡ handle → mid ≡ old → IsCall (discard back mid.cache) Discarded mid new → IsCall (discard handle old.cache) Discarded old new
discarded-so handle back old mid new b m call =
    subst (λ (h : Handle). IsCall (discard h old.cache) Discarded old new) b (subst (λ (o : Logged). IsCall (discard back o.cache) Discarded o new) m call)

-- ---- an item of this cache that isn't inserted

-- a known handle is refused only when out of memory
pub known-stores : (handle : Handle) (cache : Cache) (refusal : Refusal) → is_known cache handle ≡ true → IsReason (insert_or_replace 0 handle cache).answer refusal → refusal ≡ NoMemory
known-stores handle cache refusal known why =
    by (is_known cache handle) known why
  where
    by : (b : Bool) → b ≡ true
        → IsReason (if b then answers (Replied note.Stored) (and_then (begin 0 (note.Insert handle.key handle.value handle.expiry) cache) (store handle)) else stays (Refused ForeignHandle) cache).answer refusal → refusal ≡ NoMemory
    by true k (inl h) = absurd cc
    by true k (inr h) = h.1
    by false k h = absurd cc

-- an add by what decides it
abbrev insert_by : (taken known waits : Bool) → Handle → Cache → Moved
insert_by taken known waits handle cache =
    if taken then stays (Refused Exists) cache
    else (if known
    then (if waits then answers (Waits (cache.calls + 1)) (and_then (begin 0 (Add handle.key handle.value handle.expiry) cache) (wait_for handle.key (ToAdd handle)))
    else answers (Replied note.Stored) (and_then (begin 0 (Add handle.key handle.value handle.expiry) cache) (store handle)))
    else stays (Refused ForeignHandle) cache)

-- an item that isn't added is given up
pub left-new : (handle : Handle) (refusal : Refusal) (old new : Logged) → is_known old.cache handle ≡ true → IsReason (insert 0 handle old.cache).answer refusal → IsCall (discard handle old.cache) Discarded old new
    → (IsCall (put_new handle old.cache) (Refused Exists) old new × (refusal ≡ Exists)) ⊎ (IsCall (discard handle old.cache) Discarded old new × (refusal ≡ NoMemory))
left-new handle refusal old new known why call =
    by (is_some (live old.cache.now (in_memory old.cache handle.key))) (is_known old.cache handle) (must_wait old.cache handle.key) known why
  where
    by : (taken known waits : Bool) → known ≡ true → IsReason (insert_by taken known waits handle old.cache).answer refusal
        → (IsCall (given_up handle (insert_by taken known waits handle old.cache).answer (insert_by taken known waits handle old.cache)) (Refused Exists) old new × (refusal ≡ Exists)) ⊎ (IsCall (discard handle old.cache) Discarded old new × (refusal ≡ NoMemory))
    by taken known waits k (inr h) = inr (call, h.1)
    by true known waits k (inl h) = inl (record { cache = call.cache; answer_is = refl; log = call.log }, cc)
    by false false waits k (inl h) = absurd cc
    by false true true k (inl h) = absurd cc
    by false true false k (inl h) = absurd cc

-- one that is added isn't given up
pub added-new : (handle : Handle) (done : Inserted) (old new : Logged) → IsCall (insert 0 handle old.cache) (inserted_answer done) old new → IsCall (put_new handle old.cache) (inserted_answer done) old new
added-new handle Stored old new call = subst (λ (a : Answer). IsCall (given_up handle a (insert 0 handle old.cache)) (Replied note.Stored) old new) call.answer_is call
added-new handle (Waiting n) old new call = subst (λ (a : Answer). IsCall (given_up handle a (insert 0 handle old.cache)) (Waits n) old new) call.answer_is call

-- ---- why an item isn't allocated

abbrev reason_by : Bool → Bool → Bool → Option Refusal
reason_by none long hopeless = if none then Some NoPool else (if long then Some ValueTooLong else (if hopeless then Some NoRoom else None))

-- and never since the key has a value
pub never-exists : (pool : ℕ) (key value : List ℕ) (ttl : ℕ) (cache : Cache) (refusal : Refusal) → IsReason (allocate pool key value ttl cache).answer refusal → refusal ≢ Exists
never-exists pool key value ttl cache refusal (inr h) e = absurd cc
never-exists pool key value ttl cache refusal (inl h) e =
    by (not (nat_lt pool (length cache.memory.pools))) (nat_lt 1048576 (length value)) (is_hopeless cache.memory pool (charge_of key (length value))) h
  where
    by : (none long hopeless : Bool) → refusal_in (allocate_by (reason_by none long hopeless) pool key value ttl cache).answer ≡ Some refusal → ⊥
    by true long hopeless h = absurd cc
    by false true hopeless h = absurd cc
    by false false true h = absurd cc
    by false false false h = absurd cc

-- what was allocated wasn't refused
pub opened-why : (opened : Moved) (handle : Handle) (refusal : Refusal) (old new : Logged) → IsCall opened (Opened handle) old new → refusal ≡ NoMemory → IsReason opened.answer refusal
opened-why opened handle refusal old new call is = inr (ap refusal_in (sym call.answer_is), is)

-- ---- an item is allocated by the bytes of a key, and inserted or given up

module _ (pool : ℕ) (key bytes value : List ℕ) (ttl : ℕ) (handle : Handle) (old mid new : Logged) (is : key ≡ bytes) (first : IsCall (allocate pool key value ttl old.cache) (Opened handle) old mid) where
  then-done : (f : Handle → Cache → Moved) (answer : Answer) → IsCall (f handle mid.cache) answer mid new → IsCall (inserted f (allocate pool bytes value ttl old.cache)) answer old new
  then-done f answer second =
      subst (λ (k : List ℕ). IsCall (inserted f (allocate pool k value ttl old.cache)) answer old new) is (then-call f (allocate pool key value ttl old.cache) handle answer old mid new first second)

  pub then-set : {T E : Type 0} (result : Result T E) → OnOk result (IsCall (insert_or_replace 0 handle mid.cache) (Replied note.Stored) mid new) → OnOk result (IsCall (set_step pool bytes value ttl old.cache) (Replied note.Stored) old new)
  then-set result done = on_ok_weaker result (then-done (insert_or_replace 0) (Replied note.Stored)) done

  pub then-left : {T : Type 0} (result : Result T Refusal) → OnErr result (IsCall (discard handle mid.cache) Discarded mid new) → IfErr result (λ refusal. refusal ≡ NoMemory)
      → IfErr result (λ refusal. (new ≡ old) ⊎ (IsCall (give_up_step pool bytes value ttl old.cache) Discarded old new × (refusal ≡ NoMemory)))
  then-left (Ok x) left memory = tt
  then-left (Err refusal) left memory = inr (then-done discard Discarded left, memory)

  pub then-added : {E : Type 0} (result : Result Inserted E) → IfOk result (λ done. IsCall (put_new handle mid.cache) (inserted_answer done) mid new)
      → IfOk result (λ done. IsCall (add_step pool bytes value ttl old.cache) (inserted_answer done) old new)
  then-added (Ok x) done = then-done put_new (inserted_answer x) done
  then-added (Err e) done = tt

  -- an item that isn't added: why, and what is left of it
  abbrev LeftNew : Refusal → Type 0
  LeftNew refusal = (IsCall (put_new handle mid.cache) (Refused Exists) mid new × (refusal ≡ Exists)) ⊎ (IsCall (discard handle mid.cache) Discarded mid new × (refusal ≡ NoMemory))

  pub then-left-new : {T : Type 0} (result : Result T Refusal) → IfErr result LeftNew
      → IfErr result (λ refusal. ((new ≡ old) × (refusal ≢ Exists)) ⊎ ((IsCall (add_step pool bytes value ttl old.cache) (Refused Exists) old new × (refusal ≡ Exists)) ⊎ (IsCall (give_up_step pool bytes value ttl old.cache) Discarded old new × (refusal ≡ NoMemory))))
  then-left-new (Ok x) h = tt
  then-left-new (Err refusal) (inl h) = inr (inl (then-done put_new (Refused Exists) h.0, h.1))
  then-left-new (Err refusal) (inr h) = inr (inr (then-done discard Discarded h.0, h.1))

  pub then-why-new : {T : Type 0} (result : Result T Refusal) → key_refusal bytes ≡ None → IfErr result LeftNew
      → IfErr result (λ refusal. (key_refusal bytes ≡ Some refusal) ⊎ ((key_refusal bytes ≡ None) × MayRefuseNew (allocate pool bytes value ttl old.cache).answer refusal))
  then-why-new (Ok x) fits h = tt
  then-why-new (Err refusal) fits (inl h) = inr (fits, inr (inl h.1))
  then-why-new (Err refusal) fits (inr h) = inr (fits, inr (inr h.1))

-- ---- a value is stored under the bytes of a key

module _ (pool : ℕ) (key bytes value : List ℕ) (ttl : ℕ) (old new : Logged) (is : key ≡ bytes) where
  pub set-as : {T E : Type 0} (result : Result T E) → OnOk result (IsCall (set_step pool key value ttl old.cache) (Replied note.Stored) old new) → OnOk result (IsCall (set_step pool bytes value ttl old.cache) (Replied note.Stored) old new)
  set-as result done = on_ok_weaker result (subst (λ (k : List ℕ). IsCall (set_step pool k value ttl old.cache) (Replied note.Stored) old new) is) done

  pub left-as : {T : Type 0} (result : Result T Refusal) → IfErr result (λ refusal. (new ≡ old) ⊎ (IsCall (give_up_step pool key value ttl old.cache) Discarded old new × (refusal ≡ NoMemory)))
      → IfErr result (λ refusal. (new ≡ old) ⊎ (IsCall (give_up_step pool bytes value ttl old.cache) Discarded old new × (refusal ≡ NoMemory)))
  left-as result left =
      subst (λ (k : List ℕ). IfErr result (λ refusal. (new ≡ old) ⊎ (IsCall (give_up_step pool k value ttl old.cache) Discarded old new × (refusal ≡ NoMemory)))) is left

  pub why-as : {T : Type 0} (result : Result T Refusal) → key_refusal bytes ≡ None → IfErr result (λ refusal. MayRefuse (allocate pool key value ttl old.cache).answer refusal)
      → IfErr result (λ refusal. (key_refusal bytes ≡ Some refusal) ⊎ ((key_refusal bytes ≡ None) × MayRefuse (allocate pool bytes value ttl old.cache).answer refusal))
  why-as (Ok x) fits why = tt
  why-as (Err refusal) fits why = inr (fits, subst (λ (k : List ℕ). MayRefuse (allocate pool k value ttl old.cache).answer refusal) is why)

pub fits-so : {T E P : Type 0} (result : Result T E) → P → OnOk result P
fits-so (Ok x) p = p
fits-so (Err e) p = tt
