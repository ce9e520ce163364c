-- The walk over the calls of clients.
use Rattle.std.proofs.Common.{◌≡◌, ℕ, ◌+◌, Bool, true, false, List, [], ◌∷◌, length, Option, Some, None, refl}
use Rattle.std.specs.Prelude.{if◌then◌else◌, is_some, nat_lt}
use Rattle.hc_types.specs.declared.refusal.Refusal.{Refusal}
use Rattle.hc_memory.specs.Item.{Handle}
use Rattle.hc_history.specs.Note.{Note, Op, Insert, Add, Find, Remove, Reply, Stored, Begin, Did, End, Freed, Now}
use Rattle.hc_machine.specs.items.Allocating.{refusal_of}
use Rattle.hc_machine.specs.Nvm.{Nvm, Wish, ToFind, ToAdd, joined_by}
use Rattle.hc_machine.specs.Cache.{Cache, Owed, Told, Moved, tells, and_then, owed_at}
use Rattle.hc_machine.specs.Evicting.{allocate_by, allocate}
use Rattle.hc_machine.specs.Waiting.{plant, uproot, entry_of_handle, end_fill, live, find_reply}
use Rattle.hc_machine.specs.Calls.{begin, replies_then, wait_in, wait_for, is_known, discard, store, insert_or_replace, in_memory, must_wait, add, insert, used, find_by, find, remove_by, take_of, take_reply, tick}
use Rattle.hc_laws.specs.First.{NonePasses}
use Rattle.hc_laws.specs.Walking.{is_called, Asked, Leaves, LeavesCalls, LeavesStep}
use Rattle.hc_laws.proofs.walk.Parts.{none_both, none_one, as_aside, as_served, same_across, across_from, same_calls, both_calls, make_charge_leaves, uproot_leaves, plant_leaves, end_fill_leaves}

module _ {test : Note → Bool} {R : Nvm → Nvm → Type 0} (a : Asked is_called test R) where
  abbrev Step : Cache → Moved → Type 0
  Step cache moved = LeavesStep test R cache moved.part moved.cache

  stay : (cache : Cache) → LeavesStep test R cache [] cache
  stay cache = record { none = refl; flash = same_across a cache.nvm; clock = refl }

  step_if : (t : Bool) (cache : Cache) (x y : Moved) → Step cache x → Step cache y → Step cache (if t then x else y)
  step_if true cache x y p q = p
  step_if false cache x y p q = q

  -- a call begins, and goes on so
  begins : (client : ℕ) (op : Op) (cache : Cache) (f : Cache → Told) → ((c : Cache) → LeavesCalls test R c (f c)) → LeavesStep test R cache (and_then (begin client op cache) f).part (and_then (begin client op cache) f).cache
  begins client op cache f q =
      let r = q (begin client op cache).cache in
      record { none = none_both test (Begin (cache.calls + 1) client op ∷ []) (f (begin client op cache).cache).part (none_one a (Begin (cache.calls + 1) client op) refl) r.none; flash = r.flash; clock = r.clock }

  replies_leave : (reply : Reply) (f : Cache → Told) → ((c : Cache) → LeavesCalls test R c (f c)) → (cache : Cache) → LeavesCalls test R cache (replies_then reply f cache)
  replies_leave reply f q cache =
      let r = both_calls a cache (f cache) (tells (End cache.calls ∷ [])) (q cache) (λ c. same_calls a (End cache.calls ∷ []) c c (none_one a (End cache.calls) refl) refl refl refl) in
      record { none = none_both test (Did cache.calls reply ∷ []) _ (none_one a (Did cache.calls reply) refl) r.none; flash = r.flash; calls = r.calls; clock = r.clock }

  pub store_leaves : (handle : Handle) (cache : Cache) → LeavesCalls test R cache (store handle cache)
  store_leaves handle cache =
      let there = Some (entry_of_handle handle) in
      both_calls a cache (plant handle cache) (replies_then Stored (end_fill handle.key there)) (plant_leaves (as_aside (as_served a)) handle cache) (replies_leave Stored (end_fill handle.key there) (end_fill_leaves (as_served a) handle.key there))

  wait_leaves : (key : List ℕ) (wish : Wish) (cache : Cache) → LeavesCalls test R cache (wait_for key wish cache)
  wait_leaves key wish cache = go cache.nvm refl
    where
      go : (o : Option Nvm) → cache.nvm ≡ o → LeavesCalls test R cache (tells [] (wait_in o key wish cache))
      go None e = same_calls a [] cache cache refl refl refl refl
      go (Some nvm) e = record { none = refl; flash = across_from R cache.nvm nvm _ e (a.fills nvm (joined_by key (record { call = cache.calls; wish = wish }) nvm.fills)); calls = refl; clock = refl }

  -- ---- the calls

  pub allocate_leaves : (pool : ℕ) (key value : List ℕ) (ttl : ℕ) (cache : Cache) → Step cache (allocate pool key value ttl cache)
  allocate_leaves pool key value ttl cache = go (refusal_of cache.memory pool key (length value))
    where
      go : (o : Option Refusal) → Step cache (allocate_by o pool key value ttl cache)
      go None = let q = make_charge_leaves (as_aside (as_served a)) pool key (length value) cache in record { none = q.none; flash = q.flash; clock = q.clock }
      go (Some refusal) = stay cache

  pub discard_leaves : (handle : Handle) (cache : Cache) → Step cache (discard handle cache)
  discard_leaves handle cache = step_if (is_known cache handle) cache _ _ (record { none = none_one a (Freed handle.number) refl; flash = same_across a cache.nvm; clock = refl }) (stay cache)

  pub insert_leaves : (client : ℕ) (handle : Handle) (cache : Cache) → Step cache (insert_or_replace client handle cache)
  insert_leaves client handle cache = step_if (is_known cache handle) cache _ _ (begins client (Insert handle.key handle.value handle.expiry) cache (store handle) (store_leaves handle)) (stay cache)

  add_leaves : (client : ℕ) (handle : Handle) (cache : Cache) → Step cache (add client handle cache)
  add_leaves client handle cache =
      step_if (must_wait cache handle.key) cache _ _ (begins client (Add handle.key handle.value handle.expiry) cache (wait_for handle.key (ToAdd handle)) (wait_leaves handle.key (ToAdd handle)))
      (begins client (Add handle.key handle.value handle.expiry) cache (store handle) (store_leaves handle))

  pub new_leaves : (client : ℕ) (handle : Handle) (cache : Cache) → Step cache (insert client handle cache)
  new_leaves client handle cache = step_if (is_some (live cache.now (in_memory cache handle.key))) cache _ _ (stay cache) (step_if (is_known cache handle) cache _ _ (add_leaves client handle cache) (stay cache))

  pub find_leaves : (client : ℕ) (key : List ℕ) (cache : Cache) → Step cache (find client key cache)
  find_leaves client key cache =
      let c = (begin client (Find key) cache).cache in
      let reply = find_reply (live c.now (in_memory c key)) in
      let waits = wait_leaves key ToFind c in
      let hits = replies_leave reply (tells []) (λ c. same_calls a [] c c refl refl refl refl) (used key c) in
      let q = step_if (must_wait c key) c _ _ (record { none = waits.none; flash = waits.flash; clock = waits.clock }) (record { none = hits.none; flash = hits.flash; clock = hits.clock }) in
      record { none = none_both test (Begin (cache.calls + 1) client (Find key) ∷ []) (find_by key c).part (none_one a (Begin (cache.calls + 1) client (Find key)) refl) q.none; flash = q.flash; clock = q.clock }

  pub remove_leaves : (reply : Reply) (client : ℕ) (key : List ℕ) (cache : Cache) → Step cache (remove_by reply client key cache)
  remove_leaves reply client key cache =
      begins client (Remove key) cache (λ c. and_then (uproot key c) (replies_then reply (end_fill key None)))
      (λ c. both_calls a c (uproot key c) (replies_then reply (end_fill key None)) (uproot_leaves (as_aside (as_served a)) key c) (replies_leave reply (end_fill key None) (end_fill_leaves (as_served a) key None)))

  pub reply_leaves : (call : ℕ) (cache : Cache) → Step cache (take_reply call cache)
  reply_leaves call cache = go (owed_at call cache.owed)
    where
      taken : (n : ℕ) (reply : Option Reply) → Step cache (take_of (Some (record { call = n; reply = reply })) cache)
      taken n None = stay cache
      taken n (Some reply) = record { none = none_one a (End n) refl; flash = same_across a cache.nvm; clock = refl }

      go : (o : Option Owed) → Step cache (take_of o cache)
      go None = stay cache
      go (Some owed) = taken owed.call owed.reply

  pub tick_leaves : (moment : ℕ) (cache : Cache) → Leaves test R cache.nvm (tick moment cache).part (tick moment cache).cache.nvm
  tick_leaves moment cache = record { none = go (nat_lt cache.now moment); flash = same_across a cache.nvm }
    where
      go : (t : Bool) → NonePasses test (if t then Now moment ∷ [] else [])
      go true = none_one a (Now moment) refl
      go false = refl
