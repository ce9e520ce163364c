-- Once a fill ended there is at most one open charge more: so there is room to give each up.
use Rattle.std.proofs.Common.{◌≡◌, ℕ, ◌+◌, ◌≤◌, ◌++◌, Bool, true, false, List, [], ◌∷◌, Option, Some, None, length, refl, sym, ap, arith, if◌then◌else◌}
use Rattle.hc_types.specs.Tally.{tally}
use Rattle.hc_types.specs.FlashEntry.{FlashEntry}
use Rattle.hc_types.specs.Charge.{charge_of}
use Rattle.hc_types.proofs.Tallies.{tally-append}
use Rattle.hc_memory.specs.Item.{Open}
use Rattle.hc_memory.specs.Charges.{closed}
use Rattle.hc_memory.specs.Memory.{Memory, victims_of, after_room}
use Rattle.hc_memory.proofs.Making.{closed-less}
use Rattle.hc_machine.specs.Nvm.{Waiter, Wish, ToFind, ToAdd}
use Rattle.hc_machine.specs.Takes.{Filled, Taken}
use Rattle.hc_machine.specs.Cache.{Cache, tells, and_then, with_memory, takes_in}
use Rattle.hc_machine.specs.Evicting.{all_leave, make_charge, handle_for}
use Rattle.hc_machine.specs.Waiting.{clear, live, serve, there_after, serve_all}
use Rattle.hc_machine.specs.Workers.{can_link, link_clean, bring, fill, after_take}
use Rattle.hc_proof.proofs.shapes.Asides.{unmarked_charges}
use Rattle.hc_proof.proofs.structure.Pieces.{clear_passes}
use Rattle.hc_state.proofs.allocate.Evicts.{all_leave-stays}

ones : (charges : List Open) → tally (λ (c : Open). 1) charges ≡ length charges
ones [] = refl
ones (c ∷ charges) = omega (arith, ones charges)

few_closed : (number : ℕ) (charges : List Open) → length (closed number charges) ≤ length charges
few_closed number charges = omega (arith, closed-less (λ (c : Open). 1) number charges, ones (closed number charges), ones charges)

-- ---- the calls that wait

few_served : (call : ℕ) (wish : Wish) (there : Option FlashEntry) (c : Cache) → length (serve call wish there c).cache.memory.charges ≤ length c.memory.charges
few_served call ToFind there c = omega arith
few_served call (ToAdd handle) (Some entry) c = few_closed handle.number c.memory.charges
few_served call (ToAdd handle) None c = omega (arith, few_closed handle.number (clear handle.key c).cache.memory.charges, ap (λ (xs : List Open). length xs) (clear_passes handle.key c).charges)

few_all_served : (waiters : List Waiter) (there : Option FlashEntry) (c : Cache) → length (serve_all waiters there c).cache.memory.charges ≤ length c.memory.charges
few_all_served [] there c = omega arith
few_all_served (waiter ∷ waiters) there c =
    let given = live c.now there in
    omega (arith, few_all_served waiters (there_after waiter.wish given) (serve waiter.call waiter.wish given c).cache, few_served waiter.call waiter.wish given c)

-- ---- what was found

few_linked : (entry : FlashEntry) (c : Cache) → length (and_then (make_charge entry.pool entry.key (length entry.value) c) (link_clean (handle_for c entry.pool entry.key entry.value entry.expiry))).cache.memory.charges ≤ length c.memory.charges + 1
few_linked entry c =
    let want = charge_of entry.key (length entry.value) in
    let room = with_memory (after_room c.memory entry.pool want) c in
    let left = (all_leave entry.pool want (victims_of c.memory entry.pool want) room).cache.memory in
    let made : Open = record { number = left.made + 1; pool = entry.pool; key = entry.key; size = length entry.value } in
    let same : length left.charges ≡ length c.memory.charges = ap (λ (m : Memory). length m.charges) (all_leave-stays entry.pool want (victims_of c.memory entry.pool want) room) in
    omega (arith, same, few_closed (c.memory.made + 1) (left.charges ++ made ∷ []), sym (ones (left.charges ++ made ∷ [])), tally-append (λ (o : Open). 1) left.charges (made ∷ []), ones left.charges)

few_brought : (entry : Option FlashEntry) (c : Cache) → length (bring entry c).cache.memory.charges ≤ length c.memory.charges + 1
few_brought None c = omega arith
few_brought (Some entry) c = by (can_link c entry)
  where
    by : (b : Bool) → length (if b then and_then (make_charge entry.pool entry.key (length entry.value) c) (link_clean (handle_for c entry.pool entry.key entry.value entry.expiry)) else tells [] c).cache.memory.charges ≤ length c.memory.charges + 1
    by true = few_linked entry c
    by false = omega arith

few_filled : (filled : Option Filled) (c : Cache) → length (fill filled c).cache.memory.charges ≤ length c.memory.charges + 1
few_filled None c = omega arith
few_filled (Some filled) c = omega (arith, few_all_served filled.waiters filled.entry (bring filled.entry c).cache, few_brought filled.entry c)

-- there is at most one open charge more, whatever a take was answered
pub few-taken : (taken : Taken) (c : Cache) → length (after_take taken c).cache.memory.charges ≤ length c.memory.charges + 1
few-taken taken c = omega (arith, few_filled taken.filled (takes_in taken.part taken.nvm c).cache, ap (λ (xs : List Open). length xs) (unmarked_charges taken.part c.memory))
