-- What is known of an entry that can be linked, and of the charges once it is.
use Rattle.std.proofs.Common.{◌≡◌, ◌+◌, ◌<◌, ◌≤◌, ◌&&◌, not, nat_lt, Bool, true, false, Option, Some, None, is_some, length, refl, arith, eq-eqb, if◌then◌else◌}
use Rattle.hc_types.specs.Charge.{charge_of}
use Rattle.hc_types.specs.FlashEntry.{FlashEntry}
use Rattle.hc_types.specs.declared.refusal.Refusal.{Refusal}
use Rattle.hc_types.specs.declared.refusal.Refusal.TheVariants.{NoPool, ValueTooLong, NoRoom}
use Rattle.hc_types.proofs.Tallies.{find-none}
use Rattle.hc_memory.specs.Item.{Open}
use Rattle.hc_memory.specs.Charges.{has_number}
use Rattle.hc_memory.specs.Memory.{Memory, is_hopeless}
use Rattle.hc_memory.specs.Sound.{Sound}
use Rattle.hc_memory.proofs.Bringing.{closed-push}
use Rattle.hc_machine.specs.items.Allocating.{refusal_of}
use Rattle.hc_machine.specs.Cache.{Cache}
use Rattle.hc_machine.specs.Waiting.{live}
use Rattle.hc_machine.specs.Workers.{can_link}
use Rattle.hc_state.specs.fill.Link.{brought_in}

-- the pools have what they need to link it
pub record MayLink (memory : Memory) (entry : FlashEntry) : Type 0 where
  pub pool : entry.pool < length memory.pools
  pub size : length entry.value ≤ 1048576
  pub room : is_hopeless memory entry.pool (charge_of entry.key (length entry.value)) ≡ false

unrefused : (alive : Bool) (refusal : Option Refusal) → (alive && not (is_some refusal)) ≡ true → refusal ≡ None
unrefused true None can = refl
unrefused true (Some refusal) can = absurd cc
unrefused false refusal can = absurd cc

may_link : (memory : Memory) (entry : FlashEntry) → refusal_of memory entry.pool entry.key (length entry.value) ≡ None → MayLink memory entry
may_link memory entry none = by (nat_lt entry.pool (length memory.pools)) (nat_lt 1048576 (length entry.value)) (is_hopeless memory entry.pool (charge_of entry.key (length entry.value))) refl refl refl none
  where
    by : (there long hopeless : Bool) → nat_lt entry.pool (length memory.pools) ≡ there → nat_lt 1048576 (length entry.value) ≡ long → is_hopeless memory entry.pool (charge_of entry.key (length entry.value)) ≡ hopeless
        → (if not there then Some NoPool else (if long then Some ValueTooLong else (if hopeless then Some NoRoom else None))) ≡ None → MayLink memory entry
    by false long hopeless p q r none = absurd cc
    by true true hopeless p q r none = absurd cc
    by true false true p q r none = absurd cc
    by true false false p q r none = record { pool = grind (arith, p); size = grind (arith, q); room = r }

pub can-room : (c : Cache) (entry : FlashEntry) → can_link c entry ≡ true → MayLink c.memory entry
can-room c entry can = may_link c.memory entry (unrefused (is_some (live c.now (Some entry))) (refusal_of c.memory entry.pool entry.key (length entry.value)) can)

-- the same charges are open once it is linked
pub brought-charges : (entry : FlashEntry) (m : Memory) → Sound m.pools m.charges m.made → (brought_in entry m).charges ≡ m.charges
brought-charges entry m sound =
    let new : Open = record { number = m.made + 1; pool = entry.pool; key = entry.key; size = length entry.value } in
    closed-push (m.made + 1) m.charges new (find-none (has_number (m.made + 1)) m.charges (sound.fresh (m.made + 1) (omega arith))) (eq-eqb (m.made + 1) (m.made + 1) refl)
