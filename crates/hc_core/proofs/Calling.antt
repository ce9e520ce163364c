-- What a step of the state is of the cache as it is seen.
use Rattle.std.proofs.Common.{◌≡◌, ◌⊎◌, inl, inr, List, ℕ, length, Option, Some, None, refl, sym, ap, ◌∙◌, subst}
use Rattle.std.specs.Prelude.{Result, Ok, Err, IfOk, OnOk, OnErr, IfErr}
use Rattle.hc_types.specs.declared.refusal.Refusal.{Refusal}
use Rattle.hc_types.specs.declared.refusal.Refusal.TheVariants.{NoMemory}
use Rattle.hc_memory.specs.Item.{Handle}
use Rattle.hc_memory.specs.Memory.{handle_for}
use Rattle.hc_machine.specs.items.Allocating.{refusal_of, expiry_of}
use Rattle.hc_machine.specs.Cache.{Cache, Moved, Answer, Opened, Discarded}
use Rattle.hc_machine.specs.Evicting.{make_charge, allocate_by, allocate}
use Rattle.hc_state.specs.allocate.Charge.{Opens}
use Rattle.hc_state.specs.Answers.{refusal_in, IsReason}
use Rattle.hc_state.specs.Whole.{Whole, Stays, IsStep, IsUnchanged}
use Rattle.hc_core.specs.Logged.{IsCall, logged_of}

is_call : (moved : Moved) (answer : Answer) (old new : Whole) → IsStep moved answer old new → IsCall moved answer (logged_of old) (logged_of new)
is_call moved answer old new step = record { cache = step.cache; answer_is = step.answer_is; log = step.log }

pub called : {T E : Type 0} (answer : T → Answer) (moved : Moved) (old new : Whole) (result : Result T E) → IfOk result (λ x. IsStep moved (answer x) old new) → IfOk result (λ x. IsCall moved (answer x) (logged_of old) (logged_of new))
called answer moved old new (Ok x) ok = is_call moved (answer x) old new ok
called answer moved old new (Err e) ok = tt

-- where the answer tells no more
pub called-so : {T E : Type 0} (answer : Answer) (moved : Moved) (old new : Whole) (result : Result T E) → OnOk result (IsStep moved answer old new) → OnOk result (IsCall moved answer (logged_of old) (logged_of new))
called-so answer moved old new (Ok x) ok = is_call moved answer old new ok
called-so answer moved old new (Err e) ok = tt

pub unchanged : {T E : Type 0} (old new : Whole) (result : Result T E) → OnErr result (IsUnchanged old new) → OnErr result (logged_of new ≡ logged_of old)
unchanged old new (Ok x) err = tt
unchanged old new (Err e) err = λ i. record { cache = err.cache i; log = err.log i }

pub calm : {T E : Type 0} (old new : Whole) (result : Result T E) → OnErr result (Stays old new) → OnErr result (logged_of new ≡ logged_of old)
calm old new (Ok x) err = tt
calm old new (Err e) err = λ i. record { cache = err.cache i; log = err.log i }

-- where room may have been made, and the item given up
pub calm-or-given : {T : Type 0} (moved : Moved) (old new : Whole) (result : Result T Refusal) → IfErr result (λ refusal. Stays old new ⊎ (IsStep moved Discarded old new × (refusal ≡ NoMemory)))
    → IfErr result (λ refusal. (logged_of new ≡ logged_of old) ⊎ (IsCall moved Discarded (logged_of old) (logged_of new) × (refusal ≡ NoMemory)))
calm-or-given moved old new (Ok x) err = tt
calm-or-given moved old new (Err refusal) (inl stays) = inl (λ i. record { cache = stays.cache i; log = stays.log i })
calm-or-given moved old new (Err refusal) (inr given) = inr (is_call moved Discarded old new given.0, given.1)

-- ---- an item is allocated

module _ (pool : ℕ) (key value : List ℕ) (ttl : ℕ) where
  opened_step : (blank : Handle) (old new : Whole) → Opens (make_charge pool key (length value) old.cache) blank old new → blank ≡ handle_for old.cache.memory pool key value (expiry_of old.cache.now ttl)
      → refusal_of old.cache.memory pool key (length value) ≡ None → IsStep (allocate pool key value ttl old.cache) (Opened blank) old new
  opened_step blank old new opens is none =
      subst (λ (o : Option Refusal). IsStep (allocate_by o pool key value ttl old.cache) (Opened blank) old new) (sym none) (record {
        cache = opens.cache;
        answer_is = ap (λ h. Opened h) is;
        log = opens.log;
        ready = opens.ready;
      })

  pub opened-steps : {E : Type 0} (old new : Whole) (result : Result Handle E) → IfOk result (λ blank. Opens (make_charge pool key (length value) old.cache) blank old new)
      → IfOk result (λ blank. blank ≡ handle_for old.cache.memory pool key value (expiry_of old.cache.now ttl)) → OnOk result (refusal_of old.cache.memory pool key (length value) ≡ None)
      → IfOk result (λ blank. IsStep (allocate pool key value ttl old.cache) (Opened blank) old new)
  opened-steps old new (Ok blank) ok is none = opened_step blank old new ok is none
  opened-steps old new (Err e) ok is none = tt

  refused : (cache : Cache) → refusal_in (allocate pool key value ttl cache).answer ≡ refusal_of cache.memory pool key (length value)
  refused cache = go (refusal_of cache.memory pool key (length value))
    where
      go : (o : Option Refusal) → refusal_in (allocate_by o pool key value ttl cache).answer ≡ o
      go None = refl
      go (Some refusal) = refl

  pub reason : (cache : Cache) (refusal : Refusal) → (refusal_of cache.memory pool key (length value) ≡ Some refusal) ⊎ ((refusal_of cache.memory pool key (length value) ≡ None) × (refusal ≡ NoMemory))
      → IsReason (allocate pool key value ttl cache).answer refusal
  reason cache refusal (inl h) = inl (refused cache ∙ h)
  reason cache refusal (inr h) = inr (refused cache ∙ h.0, h.1)
