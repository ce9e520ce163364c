-- A call that is answered at once tells its begin, its answer and its end.
use Rattle.std.proofs.Common.{◌≡◌, ℕ, ◌+◌, Bool, true, false, List, [], ◌∷◌, ◌++◌, Some, None, refl, ◌∙◌, subst}
use Rattle.std.specs.Prelude.{if◌then◌else◌, is_some}
use Rattle.hc_types.specs.declared.refusal.Refusal.TheVariants.{ForeignHandle, Exists}
use Rattle.hc_memory.specs.Item.{Handle}
use Rattle.hc_memory.specs.Memory.{linked_at}
use Rattle.hc_history.specs.Note.{Note, Op, Insert, Add, Find, Remove, Reply, Stored, Begin, Did, End}
use Rattle.hc_machine.specs.Nvm.{ToFind, ToAdd}
use Rattle.hc_machine.specs.Cache.{Cache, Moved, Told, Refused, Replied, Waits, and_then, answers, stays}
use Rattle.hc_machine.specs.Waiting.{uproot, plant, entry_of_handle, live, find_reply, end_fill}
use Rattle.hc_machine.specs.Calls.{begin, replies_then, wait_for, is_known, store, must_wait, in_memory, used, find_now, remove_reply}
use Rattle.hc_laws.specs.Walking.{is_aside, is_served, Asked, AnyFlash, LeavesCalls}
use Rattle.hc_laws.specs.Telling.{begins_or_ends, is_of_call, Framed, CallsAreFramed, AnswersAreFramed}
use Rattle.hc_laws.proofs.walk.Parts.{any_flash, uproot_leaves, plant_leaves, end_fill_leaves}

-- ---- what is asked of the pieces of a call

tells_no_call : (note : Note) → is_aside note ≡ true → is_of_call note ≡ false
tells_no_call (Begin call client op) h = absurd cc
tells_no_call (Did call reply) h = absurd cc
tells_no_call (End call) h = absurd cc
tells_no_call note h = refl

tells_no_frame : (note : Note) → is_served note ≡ true → begins_or_ends note ≡ false
tells_no_frame (Begin call client op) h = absurd cc
tells_no_frame (End call) h = absurd cc
tells_no_frame note h = refl

first_asked : Asked is_aside is_of_call AnyFlash
first_asked = any_flash is_aside is_of_call tells_no_call

rest_asked : Asked is_served begins_or_ends AnyFlash
rest_asked = any_flash is_served begins_or_ends tells_no_frame

-- ---- the calls

module _ (client : ℕ) (cache : Cache) where
  abbrev begun : Cache
  begun = record cache { calls = cache.calls + 1 }

  abbrev replied : Op → Reply → (Cache → Told) → (Cache → Told) → Moved
  replied op reply first rest = answers (Replied reply) (and_then (begin client op cache) (λ c. and_then (first c) (replies_then reply rest)))

  framed : (op : Op) (reply : Reply) (first rest : Cache → Told) → LeavesCalls is_of_call AnyFlash begun (first begun) → ((c : Cache) → LeavesCalls begins_or_ends AnyFlash c (rest c)) → Framed client op reply cache (replied op reply first rest)
  framed op reply first rest p q = let r = q (first begun).cache in record {
    before = (first begun).part;
    behind = (rest (first begun).cache).part;
    part = λ i. Begin (cache.calls + 1) client op ∷ ((first begun).part ++ Did (p.calls i) reply ∷ ((rest (first begun).cache).part ++ End (p.calls i) ∷ []));
    no_call = p.none;
    no_frame = r.none;
    counted = r.calls ∙ p.calls;
  }

  -- the reply is the one that it was answered
  framed_as : (op : Op) (reply other : Reply) (moved : Moved) → Framed client op reply cache moved → Replied reply ≡ Replied other → Framed client op other cache moved
  framed_as op reply other moved f h = let same : reply ≡ other = cc in subst (λ r. Framed client op r cache moved) same f

  stored : (op : Op) (handle : Handle) → Framed client op Stored cache (answers (Replied Stored) (and_then (begin client op cache) (store handle)))
  stored op handle = framed op Stored (plant handle) (end_fill handle.key (Some (entry_of_handle handle))) (plant_leaves first_asked handle begun) (end_fill_leaves rest_asked handle.key (Some (entry_of_handle handle)))

  replaces : (handle : Handle) (t : Bool) (reply : Reply) → (if t then answers (Replied Stored) (and_then (begin client (Insert handle.key handle.value handle.expiry) cache) (store handle)) else stays (Refused ForeignHandle) cache).answer ≡ Replied reply
      → Framed client (Insert handle.key handle.value handle.expiry) reply cache (if t then answers (Replied Stored) (and_then (begin client (Insert handle.key handle.value handle.expiry) cache) (store handle)) else stays (Refused ForeignHandle) cache)
  replaces handle true reply h = framed_as (Insert handle.key handle.value handle.expiry) Stored reply _ (stored (Insert handle.key handle.value handle.expiry) handle) h
  replaces handle false reply h = absurd cc

  abbrev waits_so : Handle → Moved
  waits_so handle = answers (Waits (cache.calls + 1)) (and_then (begin client (Add handle.key handle.value handle.expiry) cache) (wait_for handle.key (ToAdd handle)))

  abbrev stores_so : Handle → Moved
  stores_so handle = answers (Replied Stored) (and_then (begin client (Add handle.key handle.value handle.expiry) cache) (store handle))

  abbrev settled : Handle → Bool → Bool → Bool → Moved
  settled handle lives known waits = if lives then stays (Refused Exists) cache else (if known then (if waits then waits_so handle else stores_so handle) else stays (Refused ForeignHandle) cache)

  adds : (handle : Handle) (lives known waits : Bool) (reply : Reply) → (settled handle lives known waits).answer ≡ Replied reply → Framed client (Add handle.key handle.value handle.expiry) reply cache (settled handle lives known waits)
  adds handle true known waits reply h = absurd cc
  adds handle false false waits reply h = absurd cc
  adds handle false true true reply h = absurd cc
  adds handle false true false reply h = framed_as (Add handle.key handle.value handle.expiry) Stored reply _ (stored (Add handle.key handle.value handle.expiry) handle) h

  abbrev found_so : List ℕ → Reply → Cache → Bool → Moved
  found_so key there after waits = let moved = (if waits then answers (Waits (cache.calls + 1)) (wait_for key ToFind begun) else find_now there after) in record moved { part = Begin (cache.calls + 1) client (Find key) ∷ moved.part }

  finds : (key : List ℕ) (there : Reply) (after : Cache) (waits : Bool) (reply : Reply) → after.calls ≡ cache.calls + 1 → (found_so key there after waits).answer ≡ Replied reply → Framed client (Find key) reply cache (found_so key there after waits)
  finds key there after true reply e h = absurd cc
  finds key there after false reply e h = framed_as (Find key) there reply _ (record { before = []; behind = []; part = λ i. Begin (cache.calls + 1) client (Find key) ∷ (Did (e i) there ∷ (End (e i) ∷ [])); no_call = refl; no_frame = refl; counted = e }) h

  all_framed : CallsAreFramed client cache
  all_framed = record {
    replaces = λ handle reply h. replaces handle (is_known cache handle) reply h;
    adds = λ handle reply h. adds handle (is_some (live cache.now (in_memory cache handle.key))) (is_known cache handle) (must_wait cache handle.key) reply h;
    finds = λ key reply h. finds key (find_reply (live cache.now (in_memory cache key))) (used key begun) (must_wait cache key) reply refl h;
    removes = λ key. framed (Remove key) (remove_reply (linked_at key cache.memory.pools)) (uproot key) (end_fill key None) (uproot_leaves first_asked key begun) (end_fill_leaves rest_asked key None);
  }

pub frames : AnswersAreFramed
frames = all_framed
