-- The clients' calls leave each open charge a slot's or a waiting add's.
use Rattle.std.proofs.Common.{◌≡◌, ℕ, ◌+◌, ◌≤◌, ◌==◌, Bool, true, false, not, ◌&&◌, List, [], ◌∷◌, ◌++◌, length, Option, Some, None, refl, ap, sym, subst, arith, cond}
use Rattle.std.specs.Prelude.{if◌then◌else◌, is_some}
use Rattle.std.proofs.lemmas.Bool.{eqb-true}
use Rattle.std.proofs.lemmas.Option.{same_Some}
use Rattle.hc_types.specs.Config.{Config}
use Rattle.hc_types.specs.Charge.{charge_of}
use Rattle.hc_types.specs.Tally.{count}
use Rattle.hc_types.specs.declared.refusal.Refusal.TheVariants.{ForeignHandle, Exists as AlreadyExists}
use Rattle.hc_memory.specs.Item.{Open, charge_by}
use Rattle.hc_memory.specs.Charges.{is_open}
use Rattle.hc_machine.specs.items.Items.{open_has}
use Rattle.hc_machine.specs.items.Allocating.{expiry_of}
use Rattle.hc_history.specs.Note as note
use Rattle.hc_history.specs.Note.{Note, Op}
use Rattle.hc_machine.specs.Nvm.{Nvm, ToFind, ToAdd, Fill, is_fill_of, adds}
use Rattle.hc_machine.specs.Cache.{Cache, Owed, Moved, Refused, Replied, Waits, Discarded, and_then, answers, stays, owed_at}
use Rattle.hc_machine.specs.Evicting.{allocate_by, make_room, handle_for}
use Rattle.hc_machine.specs.Waiting.{plant, uproot, entry_of_handle, free, live, find_reply}
use Rattle.hc_machine.specs.Calls as calls
use Rattle.hc_machine.specs.Calls.{begin, wait_in, wait_for, store, is_known, is_kept_in, in_memory, must_wait, must_wait_in, used}
use Rattle.hc_machine.specs.Schedule.{Slot, is_slot, slot_at, without_slot, with_slot, left_after}
use Rattle.hc_invariant.specs.Good.{Agrees, fills_of}
use Rattle.hc_proof.proofs.frames.ByNumber.{same_number, count-fewer, none-counted}
use Rattle.hc_proof.proofs.frames.Lists.{found-counts}
use Rattle.hc_proof.proofs.calls.Serving.{unkept_by}
use Rattle.hc_proof.proofs.fresh.Freshness.{waits_of}
use Rattle.hc_theorem.specs.slots.Opens.{holds, AllOpen, Opens, adds_in, SlotsHold}
use Rattle.hc_proof.proofs.shapes.Asides.{plant_aside, uproot_aside, room_aside}
use Rattle.hc_theorem.proofs.slots.Opens.{slot_goes, slot_comes, slot_counts, some_open, with_counts}
use Rattle.hc_theorem.proofs.slots.Serving.{fill_ended, joined_counts}
use Rattle.hc_theorem.proofs.slots.Takes.{OpensIn}

-- what slots are over this cache
abbrev pub HoldIn : List Slot → Cache → Type 0
HoldIn slots cache = SlotsHold slots cache.memory.charges (fills_of cache.nvm)

pub opens_of : (config : Config) (older : List Note) (cache : Cache) (slots : List Slot) → Agrees config older cache → HoldIn slots cache → OpensIn slots cache
opens_of config older cache slots g h = record { held = h.held; unique = λ n. omega (arith, g.memory.charges.one_number n); known = h.known }

pub holds_by : (slots : List Slot) (cache : Cache) → ((n : ℕ) → count (is_slot n) slots ≤ 1) → OpensIn slots cache → HoldIn slots cache
holds_by slots cache one o = record { one_slot = one; known = o.known; held = o.held }

one_less : (number : ℕ) (slots : List Slot) → ((n : ℕ) → count (is_slot n) slots ≤ 1) → (n : ℕ) → count (is_slot n) (without_slot number slots) ≤ 1
one_less number slots one n = omega (arith, count-fewer (is_slot n) (λ slot. not (is_slot number slot)) slots, one n)

-- ---- what fills a slot is known

pub open_in : (number : ℕ) (charges : List Open) (slots : List Slot) (slot : Slot) → slot_at number slots ≡ Some slot → AllOpen charges slots → is_open (charge_by slot.handle) charges ≡ true
open_in number charges [] slot at h = absurd cc
open_in number charges (x ∷ slots) slot at h = go (is_slot number x) at (λ e. open_in number charges slots slot e h.1)
  where
    go : (t : Bool) → (if t then Some x else slot_at number slots) ≡ Some slot → (slot_at number slots ≡ Some slot → is_open (charge_by slot.handle) charges ≡ true) → is_open (charge_by slot.handle) charges ≡ true
    go true e rest = subst (λ (s : Slot). is_open (charge_by s.handle) charges ≡ true) (same_Some x slot e) h.0
    go false e rest = rest e

pub not_kept : (n : ℕ) (nvm : Option Nvm) → adds_in (fills_of nvm) n ≡ 0 → is_kept_in nvm n ≡ false
not_kept n None h = refl
not_kept n (Some nvm) h = unkept_by n nvm.fills h

pub slot_known : (config : Config) (older : List Note) (cache : Cache) (slots : List Slot) (number : ℕ) (slot : Slot) → Agrees config older cache → HoldIn slots cache → slot_at number slots ≡ Some slot → is_known cache slot.handle ≡ true
slot_known config older cache slots number slot g h at =
    let n = slot.handle.number in
    let own = found-counts (is_slot number) (holds n) slots slot at (same_number n) in
    let opened = open_in number cache.memory.charges slots slot at h.known in
    let unkept = not_kept n cache.nvm (omega (arith, h.held n, g.memory.charges.one_number n, own)) in
    λ i. opened i && not (unkept i)

-- what is refused stays in its slot
abbrev LeftBy : List Slot → ℕ → Moved → Type 0
LeftBy slots number moved = HoldIn (left_after moved.answer number slots) moved.cache

-- ---- by any answer

if_left : (slots : List Slot) (t : Bool) (a b : Moved) → HoldIn slots a.cache → HoldIn slots b.cache → HoldIn slots (if t then a else b).cache
if_left slots true a b p q = p
if_left slots false a b p q = q

module _ (config : Config) (older : List Note) (cache : Cache) (slots : List Slot) (g : Agrees config older cache) (h : HoldIn slots cache) where
  opens : OpensIn slots cache
  opens = opens_of config older cache slots g h

  one_fill : (key : List ℕ) → count (is_fill_of key) (fills_of cache.nvm) ≤ 1
  one_fill = (waits_of config older cache g).one

  -- ---- an item is allocated

  pub allocated : (number pool : ℕ) (key value : List ℕ) (ttl : ℕ) → slot_at number slots ≡ None
      → HoldIn (with_slot (record { number = number; handle = handle_for cache pool key value (expiry_of cache.now ttl) }) slots) (allocate_by None pool key value ttl cache).cache
  allocated number pool key value ttl empty =
      let slot : Slot = record { number = number; handle = handle_for cache pool key value (expiry_of cache.now ttl) } in
      let room = room_aside pool (charge_of key (length value)) cache in
      let left = (make_room pool (charge_of key (length value)) cache).cache in
      let none : count (open_has (cache.memory.made + 1)) cache.memory.charges ≡ 0 = (let z = g.memory.charges.fresh (cache.memory.made + 1) (omega arith) in omega (arith, z)) in
      let comes = slot_comes slots slot (adds_in (fills_of cache.nvm)) cache.memory.charges none opens in
      let charged : (made : ℕ) (xs : List Open) → made ≡ cache.memory.made → xs ≡ cache.memory.charges → Opens (with_slot slot slots) (adds_in (fills_of cache.nvm)) (xs ++ record { number = made + 1; pool = pool; key = key; size = length value } ∷ []) =
      λ made xs m e. subst (λ (n : ℕ). Opens (with_slot slot slots) (adds_in (fills_of cache.nvm)) (xs ++ record { number = n + 1; pool = pool; key = key; size = length value } ∷ [])) (sym m)
      (subst (λ (ys : List Open). Opens (with_slot slot slots) (adds_in (fills_of cache.nvm)) (ys ++ record { number = cache.memory.made + 1; pool = pool; key = key; size = length value } ∷ [])) (sym e) comes) in
      let o = subst (λ (fs : List Fill). Opens (with_slot slot slots) (adds_in fs) (allocate_by None pool key value ttl cache).cache.memory.charges) (sym room.fills) (charged left.memory.made left.memory.charges room.made room.charges) in
      record { one_slot = λ n. one n (number == n) refl; known = o.known; held = o.held }
    where
      one : (n : ℕ) (t : Bool) → (number == n) ≡ t → count (is_slot n) (with_slot (record { number = number; handle = handle_for cache pool key value (expiry_of cache.now ttl) }) slots) ≤ 1
      one n true e =
          let none = subst (λ (m : ℕ). count (is_slot m) slots ≡ 0) (eqb-true number n e) (none-counted (is_slot number) slots empty) in
          let more = with_counts (record { number = number; handle = handle_for cache pool key value (expiry_of cache.now ttl) }) slots (λ (s : Slot). cond (is_slot n s) 1 0) in
          let own : ◌≡◌ {A = ℕ} (cond (number == n) 1 0) 1 = ap {B = ℕ} (λ b. cond b 1 0) e in
          omega (arith, none, more, own)
      one n false e =
          let more = with_counts (record { number = number; handle = handle_for cache pool key value (expiry_of cache.now ttl) }) slots (λ (s : Slot). cond (is_slot n s) 1 0) in
          let own : ◌≡◌ {A = ℕ} (cond (number == n) 1 0) 0 = ap {B = ℕ} (λ b. cond b 1 0) e in
          omega (arith, h.one_slot n, more, own)

  -- ---- what fills a slot goes

  module _ (slot : Slot) (at : slot_at slot.number slots ≡ Some slot) where
    stored : (client : ℕ) (op : Op) → HoldIn (without_slot slot.number slots) (store slot.handle (begin client op cache).cache).cache
    stored client op =
        let c = (begin client op cache).cache in
        let p = plant_aside slot.handle c in
        let less = slot_goes slots slot.number slot (adds_in (fills_of cache.nvm)) cache.memory.charges at (h.one_slot slot.number) opens in
        let before = subst (λ (fs : List Fill). Opens (without_slot slot.number slots) (adds_in fs) (plant slot.handle c).cache.memory.charges) (sym p.fills) (subst (Opens (without_slot slot.number slots) (adds_in (fills_of cache.nvm))) (sym p.charges) less) in
        let e = fill_ended (without_slot slot.number slots) slot.handle.key (Some (entry_of_handle slot.handle)) (plant slot.handle c).cache (subst (λ (fs : List Fill). count (is_fill_of slot.handle.key) fs ≤ 1) (sym p.fills) (one_fill slot.handle.key)) before in
        holds_by (without_slot slot.number slots) (store slot.handle c).cache (one_less slot.number slots h.one_slot)
        (subst (λ (fs : List Fill). Opens (without_slot slot.number slots) (adds_in fs) (store slot.handle c).cache.memory.charges) (sym e.fills) e.opens)

    pub inserted : (client : ℕ) → HoldIn (without_slot slot.number slots) (calls.insert_or_replace client slot.handle cache).cache
    inserted client = go (is_known cache slot.handle) refl
      where
        go : (t : Bool) → is_known cache slot.handle ≡ t
            → HoldIn (without_slot slot.number slots) (if t then answers (Replied note.Stored) (and_then (begin client (note.Insert slot.handle.key slot.handle.value slot.handle.expiry) cache) (store slot.handle)) else stays (Refused ForeignHandle) cache).cache
        go true e = stored client (note.Insert slot.handle.key slot.handle.value slot.handle.expiry)
        go false e = absurd (let known = slot_known config older cache slots slot.number slot g h at in cc)

    pub discarded : HoldIn (without_slot slot.number slots) (calls.discard slot.handle cache).cache
    discarded = go (is_known cache slot.handle) refl
      where
        go : (t : Bool) → is_known cache slot.handle ≡ t → HoldIn (without_slot slot.number slots) (if t then answers Discarded (free slot.handle.number cache) else stays (Refused ForeignHandle) cache).cache
        go true e = holds_by (without_slot slot.number slots) (free slot.handle.number cache).cache (one_less slot.number slots h.one_slot) (slot_goes slots slot.number slot (adds_in (fills_of cache.nvm)) cache.memory.charges at (h.one_slot slot.number) opens)
        go false e = absurd (let known = slot_known config older cache slots slot.number slot g h at in cc)

    waits : (client : ℕ) (op : Op) (nvm : Option Nvm) → cache.nvm ≡ nvm → must_wait_in nvm slot.handle.key ≡ true → HoldIn (without_slot slot.number slots) (wait_in nvm slot.handle.key (ToAdd slot.handle) (begin client op cache).cache)
    waits client op None e m = absurd cc
    waits client op (Some nvm) e m =
        let same : (n : ℕ) → adds_in (fills_of cache.nvm) n ≡ adds_in nvm.fills n = λ n. ap (λ o. adds_in (fills_of o) n) e in
        record {
          one_slot = one_less slot.number slots h.one_slot;
          known = some_open slot.number cache.memory.charges slots h.known;
          held = λ n. omega (arith, h.held n, same n, slot_counts slot.number slots slot at (h.one_slot slot.number) (λ (s : Slot). cond (holds n s) 1 0), joined_counts (adds n) slot.handle.key (record { call = cache.calls + 1; wish = ToAdd slot.handle }) nvm.fills);
        }

    pub added : (client : ℕ) → HoldIn (left_after (calls.insert client slot.handle cache).answer slot.number slots) (calls.insert client slot.handle cache).cache
    added client = first (is_some (live cache.now (in_memory cache slot.handle.key)))
      where
        both : (a b : Bool) → (not a && b) ≡ true → b ≡ true
        both true b e = absurd cc
        both false b e = e

        by : (t : Bool) → must_wait cache slot.handle.key ≡ t
            → LeftBy slots slot.number (if t then answers (Waits (cache.calls + 1)) (and_then (begin client (note.Add slot.handle.key slot.handle.value slot.handle.expiry) cache) (wait_for slot.handle.key (ToAdd slot.handle)))
            else answers (Replied note.Stored) (and_then (begin client (note.Add slot.handle.key slot.handle.value slot.handle.expiry) cache) (store slot.handle)))
        by true e = waits client (note.Add slot.handle.key slot.handle.value slot.handle.expiry) cache.nvm refl (both (is_some (in_memory cache slot.handle.key)) (must_wait_in cache.nvm slot.handle.key) e)
        by false e = stored client (note.Add slot.handle.key slot.handle.value slot.handle.expiry)

        second : (t : Bool) → LeftBy slots slot.number (if t then calls.add client slot.handle cache else stays (Refused ForeignHandle) cache)
        second true = by (must_wait cache slot.handle.key) refl
        second false = h

        first : (t : Bool) → LeftBy slots slot.number (if t then stays (Refused AlreadyExists) cache else (if is_known cache slot.handle then calls.add client slot.handle cache else stays (Refused ForeignHandle) cache))
        first true = h
        first false = second (is_known cache slot.handle)

  -- ---- finds, removes, replies

  pub found_left : (client : ℕ) (key : List ℕ) → HoldIn slots (calls.find client key cache).cache
  found_left client key = if_left slots (must_wait c key) (answers (Waits c.calls) (wait_for key ToFind c)) (calls.find_now (find_reply (live c.now (in_memory c key))) (used key c)) (waits cache.nvm refl) h
    where
      c : Cache
      c = (begin client (note.Find key) cache).cache

      waits : (nvm : Option Nvm) → cache.nvm ≡ nvm → HoldIn slots (wait_in nvm key ToFind (begin client (note.Find key) cache).cache)
      waits None e = h
      waits (Some nvm) e =
          let same : (n : ℕ) → adds_in (fills_of cache.nvm) n ≡ adds_in nvm.fills n = λ n. ap (λ o. adds_in (fills_of o) n) e in
          record { one_slot = h.one_slot; known = h.known; held = λ n. omega (arith, h.held n, same n, joined_counts (adds n) key (record { call = cache.calls + 1; wish = ToFind }) nvm.fills) }

  pub removed_left : (client : ℕ) (key : List ℕ) → HoldIn slots (calls.remove client key cache).cache
  removed_left client key =
      let c = (begin client (note.Remove key) cache).cache in
      let u = uproot_aside key c in
      let before = subst (λ (fs : List Fill). Opens slots (adds_in fs) (uproot key c).cache.memory.charges) (sym u.fills) (subst (Opens slots (adds_in (fills_of cache.nvm))) (sym u.charges) opens) in
      let e = fill_ended slots key None (uproot key c).cache (subst (λ (fs : List Fill). count (is_fill_of key) fs ≤ 1) (sym u.fills) (one_fill key)) before in
      holds_by slots (calls.remove client key cache).cache h.one_slot (subst (λ (fs : List Fill). Opens slots (adds_in fs) (calls.remove client key cache).cache.memory.charges) (sym e.fills) e.opens)

  pub reply_left : (call : ℕ) → HoldIn slots (calls.take_reply call cache).cache
  reply_left call = go (owed_at call cache.owed)
    where
      taken : (n : ℕ) (reply : Option note.Reply) → HoldIn slots (calls.take_of (Some (record { call = n; reply = reply })) cache).cache
      taken n None = h
      taken n (Some reply) = h

      go : (o : Option Owed) → HoldIn slots (calls.take_of o cache).cache
      go None = h
      go (Some owed) = taken owed.call owed.reply
