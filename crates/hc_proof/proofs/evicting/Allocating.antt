-- An item is allocated, or a handle is given up.
use Rattle.std.proofs.Common.{◌≡◌, ℕ, Bool, true, false, not, ◌&&◌, ◌||◌, List, [], ◌∷◌, length, Option, Some, None, refl, ap, sym, ◌∙◌, subst, arith, ◌+◌}
use Rattle.std.specs.Prelude.{if◌then◌else◌}
use Rattle.std.specs.List.{list_any}
use Rattle.hc_types.specs.Config.{Config}
use Rattle.hc_types.specs.Tally.{count}
use Rattle.hc_types.proofs.Tallies.{tally-append}
use Rattle.hc_types.specs.declared.refusal.Refusal.{Refusal}
use Rattle.hc_types.specs.declared.refusal.Refusal.TheVariants.{ForeignHandle}
use Rattle.hc_memory.specs.Item.{charge_by}
use Rattle.hc_memory.specs.Charges.{is_open}
use Rattle.hc_machine.specs.items.Items.{items_of}
use Rattle.hc_machine.specs.items.Allocating.{refusal_of}
use Rattle.hc_history.specs.Note.{Note, Freed}
use Rattle.hc_history.specs.Lawful.{past}
use Rattle.hc_machine.specs.Nvm.{Nvm, Waiter, Fill, adds}
use Rattle.hc_machine.specs.Cache.{Cache, Refused, Discarded, answers, stays}
use Rattle.hc_machine.specs.Evicting.{make_charge, allocate_by}
use Rattle.hc_machine.specs.Waiting.{free}
use Rattle.hc_machine.specs.Calls.{is_kept_in, is_known}
use Rattle.hc_invariant.specs.Tells.{CallsTell, waiters_of}
use Rattle.hc_invariant.specs.Good.{Agrees, fills_of}
use Rattle.hc_invariant.specs.Laws.{Keeps, AllocateKeeps, DiscardKeeps}
use Rattle.hc_proof.proofs.evicting.CallsStand.{calls_same, fills_queue}
use Rattle.hc_proof.proofs.evicting.Charging.{make_charge_keeps}
use Rattle.hc_proof.proofs.frames.BetweenSteps.{good_is_rest, rest_is_good}
use Rattle.hc_proof.proofs.frames.OpenCharges.{freed_rest, free_allowed}
use Rattle.hc_proof.proofs.frames.Lists.{or_false}

allocated : (config : Config) (older : List Note) (cache : Cache) (pool : ℕ) (key value : List ℕ) (ttl : ℕ) → Agrees config older cache → (o : Option Refusal) → refusal_of cache.memory pool key (length value) ≡ o → Keeps config older (allocate_by o pool key value ttl cache)
allocated config older cache pool key value ttl g (Some refusal) e = record { lawful = tt; good = g }
allocated config older cache pool key value ttl g None e =
    let c = make_charge_keeps config older cache pool key (length value) (good_is_rest config older cache g) e in
    let told = make_charge pool key (length value) cache in
    let fills : fills_of told.cache.nvm ≡ fills_of cache.nvm = ap fills_of c.nvm.1 ∙ fills_queue c.nvm.0 cache.nvm in
    record {
      lawful = c.lawful;
      good = rest_is_good config (past older told.part) told.cache c.rest
          (subst (λ (fs : List Fill). CallsTell (past older told.part) told.cache.calls told.cache.owed fs) (sym fills) (calls_same older (past older told.part) cache told.cache (fills_of cache.nvm) c.calls g.calls));
    }

pub allocate_steady : AllocateKeeps Agrees Agrees
allocate_steady config older cache pool key value ttl g sized = allocated config older cache pool key value ttl g (refusal_of cache.memory pool key (length value)) refl

-- ---- a handle is given up

any_none : (test : Waiter → Bool) (waiters : List Waiter) → list_any test waiters ≡ false → count test waiters ≡ 0
any_none test [] h = refl
any_none test (w ∷ waiters) h = step (test w) h (any_none test waiters)
  where
    step : (b : Bool) → (b || list_any test waiters) ≡ false → (list_any test waiters ≡ false → count test waiters ≡ 0) → (if b then 1 else 0) + count test waiters ≡ 0
    step true h ih = absurd cc
    step false h ih = omega (arith, ih h)

none_adds : (n : ℕ) (fills : List Fill) → list_any (λ (fill : Fill). list_any (adds n) fill.waiters) fills ≡ false → count (adds n) (waiters_of fills) ≡ 0
none_adds n [] h = refl
none_adds n (fill ∷ fills) h =
    let two = or_false (list_any (adds n) fill.waiters) (list_any (λ (fill : Fill). list_any (adds n) fill.waiters) fills) h in
    omega (arith, tally-append (λ (w : Waiter). if adds n w then 1 else 0) fill.waiters (waiters_of fills), any_none (adds n) fill.waiters two.0, none_adds n fills two.1)

-- no add that waits has a charge that isn't kept
pub not_kept : (nvm : Option Nvm) (n : ℕ) → is_kept_in nvm n ≡ false → count (adds n) (waiters_of (fills_of nvm)) ≡ 0
not_kept None n h = refl
not_kept (Some nvm) n h = none_adds n nvm.fills h

and_not : (a b : Bool) → (a && not b) ≡ true → (a ≡ true) × (b ≡ false)
and_not true true h = absurd cc
and_not true false h = (refl, refl)
and_not false b h = absurd cc

pub discard_steady : DiscardKeeps Agrees Agrees
discard_steady config older cache handle g = go (is_known cache handle) refl
  where
    go : (b : Bool) → is_known cache handle ≡ b → Keeps config older (if b then answers Discarded (free handle.number cache) else stays (Refused ForeignHandle) cache)
    go false e = record { lawful = tt; good = g }
    go true e =
        let two = and_not (is_open (charge_by handle) cache.memory.charges) (is_kept_in cache.nvm handle.number) e in
        let r = good_is_rest config older cache g in
        let c = g.calls in
        record {
          lawful = (free_allowed config older cache handle (items_of cache.memory.pools) _ [] two.0 r, tt);
          good = rest_is_good config (Freed handle.number ∷ older) (free handle.number cache).cache (freed_rest config older cache handle (items_of cache.memory.pools) _ two.0 (not_kept cache.nvm handle.number two.1) r)
              (record { number = c.number; open_ones = c.open_ones; one_open = c.one_open; one_waiter = c.one_waiter; owes = c.owes; replies = c.replies; one_reply = c.one_reply; one_owed = c.one_owed; fresh = c.fresh });
        }
