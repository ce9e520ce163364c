-- What comes from flash is linked, and the calls of its fill are served: their charges are closed, and no other.
use Rattle.std.proofs.Common.{◌≡◌, ℕ, ◌+◌, ◌<◌, ◌≤◌, ◌==◌, cond, Bool, true, false, List, [], ◌∷◌, ◌++◌, length, Option, Some, None, refl, ap, sym, ◌∙◌, subst, arith}
use Rattle.std.specs.Prelude.{if◌then◌else◌}
use Rattle.hc_types.specs.Tally.{count}
use Rattle.hc_types.proofs.Tallies.{tally-push}
use Rattle.hc_types.specs.Charge.{charge_of}
use Rattle.hc_types.specs.FlashEntry.{FlashEntry}
use Rattle.hc_memory.specs.Item.{Open, Handle}
use Rattle.hc_memory.specs.Memory.{Memory}
use Rattle.hc_machine.specs.items.Items.{open_has}
use Rattle.hc_history.specs.Note.{Note, Lose}
use Rattle.hc_machine.specs.Nvm.{Nvm, Fill, adds}
use Rattle.hc_machine.specs.Takes.{Filled, Taken}
use Rattle.hc_machine.specs.Cache.{Cache, Told, tells, and_then, unmarked_by, takes_in}
use Rattle.hc_machine.specs.Evicting.{make_room, make_charge, handle_for}
use Rattle.hc_machine.specs.Workers.{can_link, link_clean, bring, fill, after_take}
use Rattle.hc_machine.specs.Schedule.{Slot}
use Rattle.hc_invariant.specs.Tells.{waiters_of}
use Rattle.hc_invariant.specs.Good.{fills_of}
use Rattle.hc_follows.specs.Desk.{Kept, Adding}
use Rattle.hc_theorem.specs.clients.Matches.{AllTold, SlotsMatch, AddsMatch}
use Rattle.hc_theorem.specs.slots.Opens.{holds, Opens, adds_in}
use Rattle.hc_proof.specs.shapes.Asides.{AsidePart}
use Rattle.hc_proof.proofs.shapes.Asides.{room_aside}
use Rattle.hc_theorem.proofs.slots.Opens.{opens_more, other_goes}
use Rattle.hc_theorem.proofs.slots.Serving.{more_is, all_served}
use Rattle.hc_theorem.proofs.clients.Stepping.{slots_by}
use Rattle.hc_theorem.proofs.workers.Filled.{FillsTaken}

-- ---- marks go, and no charge

unmarked_charges : (part : List Note) (memory : Memory) → ((unmarked_by part memory).charges ≡ memory.charges) × ((unmarked_by part memory).made ≡ memory.made)
unmarked_charges [] memory = (refl, refl)
unmarked_charges (Lose scope cause ∷ part) memory = let rest = unmarked_charges part _ in (rest.0, rest.1)
unmarked_charges (note ∷ part) memory = unmarked_charges part memory

-- ---- one charge more, and it is closed

other_comes : (slots : List Slot) (c : Open) (more : ℕ → ℕ) (xs : List Open) → count (open_has c.number) xs ≡ 0 → Opens slots more xs → Opens slots (λ n. cond (c.number == n) 1 0 + more n) (xs ++ c ∷ [])
other_comes slots c more xs none h =
    let push : (n : ℕ) → count (open_has n) (xs ++ c ∷ []) ≡ count (open_has n) xs + cond (c.number == n) 1 0 = λ n. tally-push (λ (x : Open). cond (open_has n x) 1 0) xs c in
    record {
      held = λ n. omega (arith, push n, h.held n);
      unique = λ n. once n (c.number == n) refl;
      known = opens_more c xs slots h.known;
    }
  where
    once : (n : ℕ) (t : Bool) → (c.number == n) ≡ t → count (open_has n) (xs ++ c ∷ []) ≤ 1
    once n true e =
        let same : c.number ≡ n = grind (arith, e) in
        let zero_there : count (open_has n) xs ≡ 0 = subst (λ (k : ℕ). count (open_has k) xs ≡ 0) same none in
        let one : ◌≡◌ {A = ℕ} (cond (c.number == n) 1 0) 1 = ap {B = ℕ} (λ b. cond b 1 0) e in
        omega (arith, tally-push (λ (x : Open). cond (open_has n x) 1 0) xs c, zero_there, one)
    once n false e =
        let zero_own : ◌≡◌ {A = ℕ} (cond (c.number == n) 1 0) 0 = ap {B = ℕ} (λ b. cond b 1 0) e in
        omega (arith, tally-push (λ (x : Open). cond (open_has n x) 1 0) xs c, h.unique n, zero_own)

-- ---- what was found is linked

pub record Brought (slots : List Slot) (more : ℕ → ℕ) (cache : Cache) (told : Told) : Type 0 where
  pub calls : told.cache.calls ≡ cache.calls
  pub opens : Opens slots more told.cache.memory.charges
  pub fills : fills_of told.cache.nvm ≡ fills_of cache.nvm

bring_so : (slots : List Slot) (more : ℕ → ℕ) (entry : Option FlashEntry) (cache : Cache) → count (open_has (cache.memory.made + 1)) cache.memory.charges ≡ 0 → Opens slots more cache.memory.charges → Brought slots more cache (bring entry cache)
bring_so slots more None cache fresh h = record { calls = refl; opens = h; fills = refl }
bring_so slots more (Some entry) cache fresh h = go (can_link cache entry)
  where
    handle : Handle
    handle = handle_for cache entry.pool entry.key entry.value entry.expiry

    room : AsidePart cache (make_room entry.pool (charge_of entry.key (length entry.value)) cache)
    room = room_aside entry.pool (charge_of entry.key (length entry.value)) cache

    linked : Brought slots more cache (and_then (make_charge entry.pool entry.key (length entry.value) cache) (link_clean handle))
    linked =
        let roomy = (make_room entry.pool (charge_of entry.key (length entry.value)) cache).cache in
        let c : Open = record { number = roomy.memory.made + 1; pool = entry.pool; key = entry.key; size = length entry.value } in
        let none : count (open_has (roomy.memory.made + 1)) roomy.memory.charges ≡ 0 = (λ i. count (open_has (room.made i + 1)) (room.charges i)) ∙ fresh in
        let before : Opens slots more roomy.memory.charges = subst (Opens slots more) (sym room.charges) h in
        let after = other_comes slots c more roomy.memory.charges none before in
        let same : roomy.memory.made + 1 ≡ cache.memory.made + 1 = ap (λ n. n + 1) room.made in
        let closed = other_goes slots (cache.memory.made + 1) (λ n. cond (c.number == n) 1 0 + more n) more (roomy.memory.charges ++ c ∷ []) (λ n. ap (λ k. cond (k == n) 1 0 + more n) same) after in
        record { calls = room.calls; opens = closed; fills = room.fills }

    go : (t : Bool) → Brought slots more cache (if t then and_then (make_charge entry.pool entry.key (length entry.value) cache) (link_clean handle) else tells [] cache)
    go true = linked
    go false = record { calls = refl; opens = h; fills = refl }

-- ---- a fill that is over

filled_so : (slots : List Slot) (more : ℕ → ℕ) (filled : Filled) (cache : Cache) → count (open_has (cache.memory.made + 1)) cache.memory.charges ≡ 0
    → Opens slots (λ n. count (adds n) filled.waiters + more n) cache.memory.charges → Brought slots more cache (fill (Some filled) cache)
filled_so slots more filled cache fresh h =
    let first = bring_so slots (λ n. count (adds n) filled.waiters + more n) filled.entry cache fresh h in
    let rest = all_served slots more filled.waiters filled.entry (bring filled.entry cache).cache first.opens in
    record { calls = rest.calls ∙ first.calls; opens = rest.opens; fills = rest.fills ∙ first.fills }

-- ---- what a take or a result leaves of slots and adds

pub record Settled (kept : List Kept) (slots : List Slot) (all : List Adding) (cache : Cache) : Type 0 where
  pub slots_match : SlotsMatch kept slots cache.memory.charges (fills_of cache.nvm)
  pub adds_match : AddsMatch all cache.calls (fills_of cache.nvm)

pub taken_settles : (kept : List Kept) (slots : List Slot) (all : List Adding) (cache : Cache) (nvm : Nvm) (taken : Taken) → cache.nvm ≡ Some nvm → ((n : ℕ) → cache.memory.made < n → count (open_has n) cache.memory.charges ≡ 0)
    → ((n : ℕ) → count (open_has n) cache.memory.charges ≤ 1) → FillsTaken nvm.fills taken.filled taken.nvm.fills → Settled kept slots all cache → Settled kept slots all (after_take taken cache).cache
taken_settles kept slots all cache nvm taken e fresh unique f s = go taken.filled f
  where
    base : Cache
    base = (takes_in taken.part taken.nvm cache).cache

    marks : ((unmarked_by taken.part cache.memory).charges ≡ cache.memory.charges) × ((unmarked_by taken.part cache.memory).made ≡ cache.memory.made)
    marks = unmarked_charges taken.part cache.memory

    none : count (open_has (base.memory.made + 1)) base.memory.charges ≡ 0
    none = (λ i. count (open_has (marks.1 i + 1)) (marks.0 i)) ∙ fresh (cache.memory.made + 1) (omega arith)

    opens : Opens slots (adds_in nvm.fills) base.memory.charges
    opens = subst (Opens slots (adds_in nvm.fills)) (sym marks.0) (record { held = λ n. s.slots_match.held n ∙ ap (λ o. count (holds n) slots + adds_in (fills_of o) n) e; unique = unique; known = s.slots_match.known })

    told : AllTold all (waiters_of nvm.fills)
    told = subst (λ (o : Option Nvm). AllTold all (waiters_of (fills_of o))) e s.adds_match.told

    joined : (filled : Option Filled) → Brought slots (adds_in taken.nvm.fills) base (fill filled base) → AllTold all (waiters_of taken.nvm.fills) → Settled kept slots all (fill filled base).cache
    joined filled b t = record {
      slots_match = slots_by kept slots (fill filled base).cache.memory.charges (fills_of (fill filled base).cache.nvm) s.slots_match.same s.slots_match.one_slot
          (subst (λ (fs : List Fill). Opens slots (adds_in fs) (fill filled base).cache.memory.charges) (sym b.fills) b.opens);
      adds_match = record {
        told = subst (λ (fs : List Fill). AllTold all (waiters_of fs)) (sym b.fills) t;
        one_add = s.adds_match.one_add;
        fresh = λ n l. s.adds_match.fresh n (subst (λ (c : ℕ). c < n) b.calls l);
      };
    }

    go : (filled : Option Filled) → FillsTaken nvm.fills filled taken.nvm.fills → Settled kept slots all (fill filled base).cache
    go None f = joined None (record { calls = refl; opens = more_is slots (adds_in nvm.fills) (adds_in taken.nvm.fills) base.memory.charges (λ n. ap (count (adds n)) (sym f)) opens; fills = refl }) (subst (AllTold all) (sym f) told)
    go (Some filled) f = joined (Some filled)
        (filled_so slots (adds_in taken.nvm.fills) filled base none (more_is slots (adds_in nvm.fills) (λ n. count (adds n) filled.waiters + adds_in taken.nvm.fills n) base.memory.charges (λ n. f.0 n) opens))
        (f.1 all told)
