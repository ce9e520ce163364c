-- An add follows: it is refused, it waits and its charge with it, or it is stored.
use Rattle.std.proofs.Common.{◌≡◌, ℕ, ◌+◌, ◌≤◌, ◌<◌, ◌==◌, Bool, true, false, not, ◌&&◌, List, [], ◌∷◌, ◌++◌, Option, Some, None, refl, ap, sym, ◌∙◌, subst, arith, cond}
use Rattle.std.specs.Prelude.{if◌then◌else◌, find, option_map, is_some, IsSome}
use Rattle.std.proofs.lemmas.Bool.{eqb-true}
use Rattle.hc_types.specs.Tally.{count}
use Rattle.hc_types.specs.Config.{Config}
use Rattle.hc_types.specs.declared.refusal.Refusal.TheVariants.{ForeignHandle, Exists as AlreadyExists}
use Rattle.hc_types.specs.FlashEntry.{FlashEntry}
use Rattle.hc_memory.specs.Memory.{Memory}
use Rattle.hc_machine.specs.items.Items.{items_of}
use Rattle.hc_history.specs.Note as note
use Rattle.hc_history.specs.Note.{Note, Op}
use Rattle.hc_history.specs.Books.{value_at}
use Rattle.hc_history.specs.Lawful.{past}
use Rattle.hc_machine.specs.Nvm.{Waiter, ToAdd, Fill, joined_by, adds}
use Rattle.hc_machine.specs.Cache.{Cache, Owed, Moved, Refused, Replied, Waits, and_then, answers, stays, owed_at}
use Rattle.hc_machine.specs.World.{Says, by_call}
use Rattle.hc_machine.specs.Waiting.{live}
use Rattle.hc_machine.specs.Calls.{begin, wait_for, store, is_known, in_memory, must_wait, must_wait_in}
use Rattle.hc_machine.specs.Schedule.{Slot, Scene, PutNew, NoSlot, Tells, slot_at, without_slot, in_world, left_after, puts_new}
use Rattle.hc_invariant.specs.Tells.{CallsTell, waiters_of, asked_in, is_unanswered, is_call}
use Rattle.hc_invariant.specs.Good.{Agrees, fills_of}
use Rattle.hc_proof.specs.frames.Midst.{none_moves}
use Rattle.hc_proof.proofs.frames.ByNumber.{same_number, flipped, none-counted}
use Rattle.hc_proof.proofs.frames.BetweenSteps.{good_is_rest}
use Rattle.hc_proof.proofs.calls.CallBooks.{unasked_in}
use Rattle.hc_proof.proofs.calls.NoWaiting.{memory_tells}
use Rattle.hc_proof.proofs.calls.Serving.{there_by_map}
use Rattle.hc_follows.specs.Desk.{Desk, Kept, Adding, without_kept}
use Rattle.hc_follows.specs.Clients.{PutNewPart, adds_by}
use Rattle.hc_theorem.specs.clients.Matches.{charge_kept, charge_of_wish, AllTold, SlotsMatch, AddsMatch, Matches}
use Rattle.hc_theorem.specs.slots.Opens.{holds}
use Rattle.hc_theorem.specs.clients.Deeds.{Followed, DeedFollows}
use Rattle.hc_theorem.proofs.slots.Opens.{slot_counts, some_open}
use Rattle.hc_theorem.proofs.clients.Adds.{joined_told}
use Rattle.hc_theorem.proofs.slots.Serving.{joined_counts}
use Rattle.hc_theorem.proofs.clients.Stepping.{good_at, slot_number, called_matches}
use Rattle.hc_theorem.proofs.clients.Waiting.{waits_by_books, waits_in, waited}
use Rattle.hc_theorem.proofs.clients.Changing.{known_at, stored, slots_less, one_less}
use Rattle.hc_theorem.proofs.clients.Putting.{kept_is, nothing_matches, empty_less, stored_matches}

-- ---- the key has an unexpired value

some_value : (o : Option FlashEntry) (v : Option (List ℕ)) → option_map (λ (e : FlashEntry). e.value) o ≡ v → is_some o ≡ true → IsSome v
some_value None v e h = absurd cc
some_value (Some x) None e h = absurd cc
some_value (Some x) (Some y) e h = refl

no_wait : (now : ℕ) (o : Option FlashEntry) (b : Bool) → is_some (live now o) ≡ true → (not (is_some o) && b) ≡ false
no_wait now None b h = absurd cc
no_wait now (Some e) b h = refl

has_value : (config : Config) (older : List Note) (cache : Cache) (key : List ℕ) → Agrees config older cache → is_some (live cache.now (in_memory cache key)) ≡ true → IsSome (value_at config.flash older key)
has_value config older cache key g h =
    let r = good_is_rest config older cache g in
    let w = no_wait cache.now (in_memory cache key) (must_wait_in cache.nvm key) h in
    let has = there_by_map config older cache key (in_memory cache key) (items_of cache.memory.pools) none_moves r (memory_tells config older cache none_moves key r.flash (g.placed key) w) in
    some_value (live cache.now (in_memory cache key)) (value_at config.flash older key) has h

-- ---- the desk has one add more

unasked : (calls : ℕ) (all : List Owed) (a : Bool) → is_unanswered (owed_at (calls + 1) all) ≡ a → owed_at (calls + 1) all ≡ None → a ≡ false
unasked calls all a e none = sym e ∙ ap is_unanswered none

nobody : (o : Option Op) → false ≡ is_some o → o ≡ None
nobody None h = refl
nobody (Some x) h = absurd cc

-- no call that waits has the number of the next
none_waits : (older : List Note) (calls : ℕ) (all : List Owed) (fills : List Fill) → CallsTell older calls all fills → count (is_call (calls + 1)) (waiters_of fills) ≡ 0
none_waits older calls all fills t =
    unasked_in (calls + 1) fills (nobody (asked_in (calls + 1) fills) (sym (unasked calls all (is_some (asked_in (calls + 1) fills)) (t.owes (calls + 1)) (t.fresh (calls + 1) (omega arith)))))

told_more : (c charge : ℕ) (all : List Adding) (waiters : List Waiter) → count (is_call c) waiters ≡ 0 → AllTold all waiters → AllTold (record { call = c; charge = charge } ∷ all) waiters
told_more c charge all [] none h = tt
told_more c charge all (w ∷ ws) none h = go (w.call == c) refl none (λ z. told_more c charge all ws z h.1)
  where
    go : (t : Bool) → (w.call == c) ≡ t → cond t 1 0 + count (is_call c) ws ≡ 0 → (count (is_call c) ws ≡ 0 → AllTold (record { call = c; charge = charge } ∷ all) ws) → AllTold (record { call = c; charge = charge } ∷ all) (w ∷ ws)
    go true e none rest = absurd (omega (arith, none))
    go false e none rest = (ap (λ b. option_map (λ (adding : Adding). adding.charge) (cond b (Some (record { call = c; charge = charge })) (find (λ (adding : Adding). adding.call == w.call) all))) (flipped w.call c e) ∙ h.0, rest (omega (arith, none)))

none_added : (n : ℕ) (all : List Adding) → charge_kept n all ≡ None → count (λ (adding : Adding). adding.call == n) all ≡ 0
none_added n all e = none-counted (λ (adding : Adding). adding.call == n) all (none_mapped (find (λ (adding : Adding). adding.call == n) all) e)
  where
    none_mapped : (o : Option Adding) → option_map (λ (adding : Adding). adding.charge) o ≡ None → o ≡ None
    none_mapped None e = refl
    none_mapped (Some x) e = absurd cc

one_more : (c charge : ℕ) (all : List Adding) → charge_kept c all ≡ None → ((n : ℕ) → count (λ (adding : Adding). adding.call == n) all ≤ 1) → (n : ℕ) → count (λ (adding : Adding). adding.call == n) (record { call = c; charge = charge } ∷ all) ≤ 1
one_more c charge all fresh one n = go (c == n) refl
  where
    go : (t : Bool) → (c == n) ≡ t → cond t 1 0 + count (λ (adding : Adding). adding.call == n) all ≤ 1
    go true e = let z = subst (λ (k : ℕ). count (λ (adding : Adding). adding.call == k) all ≡ 0) (eqb-true c n e) (none_added c all fresh) in omega (arith, z)
    go false e = omega (arith, one n)

still_fresh : (c charge : ℕ) (all : List Adding) (n : ℕ) → c < n → charge_kept n all ≡ None → charge_kept n (record { call = c; charge = charge } ∷ all) ≡ None
still_fresh c charge all n later h = ap (λ b. option_map (λ (adding : Adding). adding.charge) (cond b (Some (record { call = c; charge = charge })) (find (λ (adding : Adding). adding.call == n) all))) (other (c == n) refl) ∙ h
  where
    other : (t : Bool) → (c == n) ≡ t → (c == n) ≡ false
    other true e = absurd (let same = eqb-true c n e in omega (arith, same, later))
    other false e = e

adds_more : (older : List Note) (all : List Adding) (calls number : ℕ) (owed : List Owed) (fills : List Fill) (key : List ℕ) (w : Waiter) → w.call ≡ calls + 1 → charge_of_wish w.wish ≡ Some number → CallsTell older calls owed fills → AddsMatch all calls fills
    → AddsMatch (record { call = calls + 1; charge = number } ∷ all) (calls + 1) (joined_by key w fills)
adds_more older all calls number owed fills key w its wish t a =
    let c = calls + 1 in
    let more : List Adding = record { call = c; charge = number } ∷ all in
    record {
      told = joined_told more key w fills (ap (λ n. charge_kept n more) its ∙ ap (λ b. option_map (λ (adding : Adding). adding.charge) (cond b (Some (record { call = c; charge = number })) (find (λ (adding : Adding). adding.call == c) all))) (same_number c) ∙ sym wish) (told_more c number all (waiters_of fills) (none_waits older calls owed fills t) a.told);
      one_add = one_more c number all (a.fresh c (omega arith)) a.one_add;
      fresh = λ n later. still_fresh c number all n later (a.fresh n (omega (arith, later)));
    }

-- ---- the ways of an add

module _ (config : Config) (log : List Note) (scene : Scene) (desk : Desk) (m : Matches log desk scene) (g : Agrees config desk.older scene.world.cache) (client number : ℕ) (slot : Slot) (at : slot_at number scene.slots ≡ Some slot) where
  abbrev cache : Cache
  cache = scene.world.cache

  abbrev op : Op
  op = note.Add slot.handle.key slot.handle.value slot.handle.expiry

  abbrev add_if : Bool → Moved
  add_if t =
      if t then answers (Waits (cache.calls + 1)) (and_then (begin client op cache) (wait_for slot.handle.key (ToAdd slot.handle)))
      else answers (Replied note.Stored) (and_then (begin client op cache) (store slot.handle))

  abbrev known_if : Bool → Moved
  known_if t = if t then add_if (must_wait cache slot.handle.key) else stays (Refused ForeignHandle) cache

  abbrev new_if : Bool → Moved
  new_if t = if t then stays (Refused AlreadyExists) cache else known_if (is_known cache slot.handle)

  -- this is what is done, and told
  abbrev Goes : Moved → Type 0
  Goes moved = Followed config log desk client (PutNew number) (in_world (left_after moved.answer slot.number scene.slots) (by_call scene.world moved))

  slots_wait : (call : ℕ) → SlotsMatch (without_kept number desk.slots) (without_slot number scene.slots) cache.memory.charges (joined_by slot.handle.key (record { call = call; wish = ToAdd slot.handle }) (fills_of cache.nvm))
  slots_wait call = record {
    same = slots_less config log scene desk m g number slot at;
    one_slot = one_less config log scene desk m g number;
    known = some_open number cache.memory.charges scene.slots m.slots.known;
    held = λ n. omega (arith, m.slots.held n, slot_counts number scene.slots slot at (m.slots.one_slot number) (λ (s : Slot). cond (holds n s) 1 0), joined_counts (adds n) slot.handle.key (record { call = call; wish = ToAdd slot.handle }) (fills_of cache.nvm));
  }

  add_by : (t : Bool) → must_wait cache slot.handle.key ≡ t → Goes (add_if t)
  add_by true h =
      let w = waited (begin client op cache).cache cache.nvm slot.handle.key (ToAdd slot.handle) refl (waits_in cache slot.handle.key h) in
      let moved = add_if true in
      let fills = fills_of moved.cache.nvm in
      let call = cache.calls + 1 in
      let waiter : Waiter = record { call = call; wish = ToAdd slot.handle } in
      let kept = kept_is log desk scene number (Some slot) m at in
      record {
        part = subst (λ (k : Option Kept). PutNewPart config desk.older client k (Tells (Says (Waits call))) moved.part) (sym kept) (waits_by_books config desk.older cache client op g h);
        matches =
            subst (λ (k : Option Kept). Matches (log ++ moved.part) (record { older = past desk.older moved.part; slots = without_kept number desk.slots; jobs = desk.jobs; adds = adds_by k call desk.adds; pages = desk.pages; failures = desk.failures }) (in_world (without_slot slot.number scene.slots) (by_call scene.world moved)).scene) (sym kept)
            (called_matches log desk scene (without_slot slot.number scene.slots) moved (without_kept number desk.slots) (record { call = call; charge = slot.handle.number } ∷ desk.adds) m w.jobs
            (subst (λ (memory : Memory). SlotsMatch (without_kept number desk.slots) (without_slot slot.number scene.slots) memory.charges fills) (sym w.memory)
            (subst (SlotsMatch (without_kept number desk.slots) (without_slot slot.number scene.slots) cache.memory.charges) (sym w.fills)
            (subst (λ (n : ℕ). SlotsMatch (without_kept number desk.slots) (without_slot n scene.slots) cache.memory.charges (joined_by slot.handle.key waiter (fills_of cache.nvm))) (sym (slot_number number scene.slots slot at)) (slots_wait call))))
            (subst (λ (calls : ℕ). AddsMatch (record { call = call; charge = slot.handle.number } ∷ desk.adds) calls fills) (sym w.calls)
            (subst (AddsMatch (record { call = call; charge = slot.handle.number } ∷ desk.adds) call) (sym w.fills) (adds_more desk.older desk.adds cache.calls slot.handle.number cache.owed (fills_of cache.nvm) slot.handle.key waiter refl refl g.calls m.adds))));
      }
  add_by false h =
      let e = stored config log scene desk m g client number slot op at in
      record {
        part = subst (λ (k : Option Kept). PutNewPart config desk.older client k (Tells (Says (Replied note.Stored))) (add_if false).part) (sym (kept_is log desk scene number (Some slot) m at)) (e.answers desk.older (ap (λ n. n + 1) (sym g.calls.number)));
        matches = stored_matches config log scene desk m g client number slot op at;
      }

  known_by : (t : Bool) → is_known cache slot.handle ≡ t → Goes (known_if t)
  known_by true k = add_by (must_wait cache slot.handle.key) refl
  known_by false k = absurd (let known = known_at config desk.older cache desk.slots scene.slots number slot g m.slots at in cc)

  pub new_by : (t : Bool) → is_some (live cache.now (in_memory cache slot.handle.key)) ≡ t → Goes (new_if t)
  new_by true h = record {
    part = subst (λ (k : Option Kept). PutNewPart config desk.older client k (Tells (Says (Refused AlreadyExists))) []) (sym (kept_is log desk scene number (Some slot) m at)) (has_value config desk.older cache slot.handle.key g h, refl);
    matches = called_matches log desk scene scene.slots (stays (Refused AlreadyExists) cache) desk.slots desk.adds m refl m.slots m.adds;
  }
  new_by false h = known_by (is_known cache slot.handle) refl

put_new_at : (config : Config) (log : List Note) (scene : Scene) (desk : Desk) (client number : ℕ) (o : Option Slot) → Matches log desk scene → Agrees config desk.older scene.world.cache → slot_at number scene.slots ≡ o → Followed config log desk client (PutNew number) (puts_new o client scene)
put_new_at config log scene desk client number None m g at = record {
  part = subst (λ (kept : Option Kept). PutNewPart config desk.older client kept NoSlot []) (sym (kept_is log desk scene number None m at)) refl;
  matches = nothing_matches log desk scene (without_kept number desk.slots) m (empty_less log desk scene number m at);
}
put_new_at config log scene desk client number (Some slot) m g at = new_by config log scene desk m g client number slot at (is_some (live scene.world.cache.now (in_memory scene.world.cache slot.handle.key))) refl

pub put_new_follows : (slot : ℕ) → DeedFollows (PutNew slot)
put_new_follows slot config log scene desk client before after m = put_new_at config log scene desk client slot (slot_at slot scene.slots) m (good_at config log desk scene before m).agrees refl
