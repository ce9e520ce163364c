-- An item is added: it is there already, or the call waits, or it stores as an insert does.
use Rattle.std.proofs.Common.{◌≡◌, inr, ℕ, ◌+◌, Bool, true, false, not, ◌&&◌, List, [], ◌∷◌, Option, Some, None, refl, ap, sym, arith, cond, subst, eqb-true}
use Rattle.std.specs.Prelude.{is_some, option_map, if◌then◌else◌}
use Rattle.std.specs.List.{list_any}
use Rattle.hc_types.specs.Tally.{count}
use Rattle.hc_types.specs.Config.{Config}
use Rattle.hc_types.proofs.Tallies.{tally-append}
use Rattle.hc_types.specs.declared.refusal.Refusal.TheVariants.{ForeignHandle, Exists as AlreadyExists}
use Rattle.hc_types.specs.FlashEntry.{FlashEntry}
use Rattle.hc_memory.specs.Item.{Handle, charge_by}
use Rattle.hc_memory.specs.Charges.{is_open}
use Rattle.hc_memory.proofs.Handing.{known-place}
use Rattle.hc_machine.specs.items.Items.{items_of}
use Rattle.hc_history.specs.Note.{Note, Add, Stored}
use Rattle.hc_history.specs.Books.{value_at}
use Rattle.hc_machine.specs.Nvm.{Nvm, ToAdd, Waiter, Fill, adds}
use Rattle.hc_machine.specs.Cache.{Cache, Moved, Waits, Replied, Refused, and_then, answers, stays}
use Rattle.hc_machine.specs.Waiting.{live}
use Rattle.hc_machine.specs.Calls.{begin, in_memory, must_wait, wait_for, store, is_known, is_kept_in, add}
use Rattle.hc_invariant.specs.Tells.{waiters_of}
use Rattle.hc_invariant.specs.Good.{Agrees, IsSized, fills_of}
use Rattle.hc_invariant.specs.Laws.{Steady, Keeps, AddKeeps}
use Rattle.hc_proof.specs.frames.Midst.{none_moves}
use Rattle.hc_proof.specs.calls.Storing.{StoreKeeps}
use Rattle.hc_proof.proofs.frames.BetweenSteps.{good_is_rest}
use Rattle.hc_proof.proofs.calls.NoWaiting.{memory_tells}
use Rattle.hc_proof.proofs.calls.Waits.{wait_good}
use Rattle.hc_proof.proofs.calls.Serving.{there_by_map}
use Rattle.hc_proof.proofs.frames.Lists.{any-counts, or_false}

kept_none : (n : ℕ) (fills : List Fill) → list_any (λ (fill : Fill). list_any (adds n) fill.waiters) fills ≡ false → count (adds n) (waiters_of fills) ≡ 0
kept_none n [] h = refl
kept_none n (fill ∷ fills) h =
    let both = or_false (list_any (adds n) fill.waiters) (list_any (λ (fill : Fill). list_any (adds n) fill.waiters) fills) h in
    omega (arith, tally-append (λ (w : Waiter). cond (adds n w) 1 0) fill.waiters (waiters_of fills), any-counts (adds n) fill.waiters both.0, kept_none n fills both.1)

pub unkept_none : (n : ℕ) (nvm : Option Nvm) → is_kept_in nvm n ≡ false → count (adds n) (waiters_of (fills_of nvm)) ≡ 0
unkept_none n None h = refl
unkept_none n (Some nvm) h = kept_none n nvm.fills h

pub and_both : (a b : Bool) → (a && not b) ≡ true → (a ≡ true) × (b ≡ false)
and_both true true h = absurd cc
and_both true false h = (refl, refl)
and_both false b h = absurd cc

-- ---- the ways of an add

stands_still : (config : Config) (older : List Note) (cache : Cache) → Agrees config older cache → Steady config older [] cache
stands_still config older cache g = record { lawful = tt; good = g }

-- the map has no unexpired value
no_value : (o : Option FlashEntry) (v : Option (List ℕ)) → option_map (λ (e : FlashEntry). e.value) o ≡ v → is_some o ≡ false → v ≡ None
no_value None v e h = sym e
no_value (Some x) v e h = absurd cc

abbrev add_if : Bool → ℕ → Handle → Cache → Moved
add_if t client handle cache =
    if t then answers (Waits (cache.calls + 1)) (and_then (begin client (Add handle.key handle.value handle.expiry) cache) (wait_for handle.key (ToAdd handle)))
    else answers (Replied Stored) (and_then (begin client (Add handle.key handle.value handle.expiry) cache) (store handle))

module _ (stores : StoreKeeps) (config : Config) (older : List Note) (cache : Cache) (client : ℕ) (handle : Handle) (g : Agrees config older cache) (sized : IsSized handle.key handle.value handle.expiry) where
  added_by : (t : Bool) → must_wait cache handle.key ≡ t → is_some (live cache.now (in_memory cache handle.key)) ≡ false → is_known cache handle ≡ true → Keeps config older (add_if t client handle cache)
  added_by true w free known =
      let both = and_both (is_open (charge_by handle) cache.memory.charges) (is_kept_in cache.nvm handle.number) known in
      let none = unkept_none handle.number cache.nvm both.1 in
      record {
        lawful = (ap (λ n. n + 1) (sym g.calls.number), tt);
        good = wait_good config older cache client handle.key (ToAdd handle) (record {
          good = g;
          waits = w;
          holds = (refl, both.0);
          sized = (sized, known-place cache.memory.pools cache.memory.charges cache.memory.made handle g.memory.sound both.0);
          one_add = λ n h. subst (λ (m : ℕ). count (adds m) (waiters_of (fills_of cache.nvm)) ≡ 0) (eqb-true handle.number n h) none;
        });
      }
  added_by false w free known =
      let r = good_is_rest config older cache g in
      let has = there_by_map config older cache handle.key (in_memory cache handle.key) (items_of cache.memory.pools) none_moves r (memory_tells config older cache none_moves handle.key r.flash (g.placed handle.key) w) in
      stores config older cache client handle (Add handle.key handle.value handle.expiry) g sized known (inr (refl, no_value (live cache.now (in_memory cache handle.key)) (value_at config.flash older handle.key) has free))

  known_by : (t : Bool) → is_known cache handle ≡ t → is_some (live cache.now (in_memory cache handle.key)) ≡ false → Keeps config older (if t then add client handle cache else stays (Refused ForeignHandle) cache)
  known_by true known free = added_by (must_wait cache handle.key) refl free known
  known_by false known free = stands_still config older cache g

  exists_by : (t : Bool) → is_some (live cache.now (in_memory cache handle.key)) ≡ t
      → Keeps config older (if t then stays (Refused AlreadyExists) cache else (if is_known cache handle then add client handle cache else stays (Refused ForeignHandle) cache))
  exists_by true free = stands_still config older cache g
  exists_by false free = known_by (is_known cache handle) refl free

pub add_keeps : StoreKeeps → AddKeeps Agrees Agrees
add_keeps stores config older cache client handle g sized = exists_by stores config older cache client handle g sized (is_some (live cache.now (in_memory cache handle.key))) refl
