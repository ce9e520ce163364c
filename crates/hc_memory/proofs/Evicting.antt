-- Items go one by one, the one that was used longest ago first.
use Rattle.std.proofs.Common.{◌≡◌, ℕ, ◌<◌, ◌≤◌, Bool, true, false, List, [], ◌∷◌, Option, Some, None, length, take, drop, slice_get, slice_set, refl, ap, sym, ◌∙◌, arith, length-set}
use mathlib.Core.Bool.{cond}
use Rattle.std.specs.Option.{option_map_or}
use Rattle.std.proofs.lemmas.List.{set-set}
use Rattle.std.proofs.lemmas.Slice.Eq.{bytes_eq-Decides}
use Rattle.hc_types.specs.declared.config.PoolSize.{PoolSize}
use Rattle.hc_memory.specs.Item.{Item}
use Rattle.hc_memory.specs.Pool.{Pool, is_at, is_full, kept, dropped}
use Rattle.hc_memory.specs.Charges.{usage_of}
use Rattle.hc_memory.specs.Memory.{Memory, victims_of, oldest_of, change_at, after_room, after_evict}
use Rattle.hc_memory.specs.Sound.{items_at}
use Rattle.hc_memory.proofs.Keys.{get-set}
use Rattle.hc_memory.proofs.Rooms.{kept-go, dropped-go, dropped-stop}
use Rattle.hc_memory.proofs.Making.{known}
use Rattle.hc_memory.proofs.Listing.{evicted-single}

first_of : (x : Item) (items : List Item) → Some x ≡ slice_get items 0 → x ∷ [] ≡ take 1 items
first_of x [] first = cc
first_of x (y ∷ items) first = let same : x ≡ y = cc in ap (λ z. z ∷ []) same

-- no other item has the key of the one that went
pub first-single : (pools : List Pool) (i : ℕ) (there new : Pool) (x : Item) → items_at x.key pools ≤ 1 → slice_get pools i ≡ Some there → new ≡ record { size = there.size; items = drop 1 there.items } → Some x ≡ slice_get there.items 0 → items_at x.key (slice_set pools i new) ≡ 0
first-single pools i there new x single at is first =
    let f : Item → ℕ = λ y. cond (is_at x.key y) 1 0 in
    let one : ◌≡◌ {A = ℕ} (cond (is_at x.key x) 1 0) 1 = rw ((bytes_eq-Decides x.key x.key).1 refl) refl in
    omega (arith, one, evicted-single pools i 1 there new (x ∷ []) x.key single at is (first_of x there.items first))

-- it went out of its pool
pub evicted-set : (pools : List Pool) (number i : ℕ) (there new : Pool) → i ≡ number → slice_get pools number ≡ Some there → new ≡ record { size = there.size; items = drop 1 there.items } → slice_set pools i new ≡ change_at number (λ pool. record pool { items = drop 1 pool.items }) pools
evicted-set pools number i there new same at is =
    (λ j. slice_set pools (same j) (is j)) ∙ sym (ap (λ (o : Option Pool). option_map_or (λ (pool : Pool). slice_set pools number (record pool { items = drop 1 pool.items })) o pools) at)

-- ---- the first of those that go

-- where one has to go, it's the first, and the others go after it
pub record Goes (memory : Memory) (number want : ℕ) (item : Item) : Type 0 where
  pub oldest : oldest_of memory number ≡ Some item
  pub victims : victims_of memory number want ≡ item ∷ victims_of (after_evict memory number) number want
  pub room : after_room (after_evict memory number) number want ≡ after_room memory number want

full_step : (memory : Memory) (number want : ℕ) (size : PoolSize) (x : Item) (items : List Item) → slice_get memory.pools number ≡ Some (record { size = size; items = x ∷ items }) → is_full size (usage_of number memory.charges) want (x ∷ items) ≡ true → Goes memory number want x
full_step memory number want size x items at full =
    let usage = usage_of number memory.charges in
    let there : Pool = record { size = size; items = x ∷ items } in
    let left : Pool = record { size = size; items = items } in
    let less : Memory = record memory { pools = slice_set memory.pools number left } in
    let evicted : after_evict memory number ≡ less = rw at refl in
    let k = known memory number want there at in
    let k' = known less number want left (get-set memory.pools number there left at) in
    let stay : Pool = record { size = size; items = kept size usage want items } in
    record {
      oldest = rw at refl;
      victims = k.victims ∙ dropped-go size usage want x items full ∙ ap (λ xs. x ∷ xs) (sym k'.victims ∙ ap (λ (m : Memory). victims_of m number want) (sym evicted));
      room =
          ap (λ (m : Memory). after_room m number want) evicted
          ∙ k'.room
          ∙ ap (λ (ps : List Pool). record memory { pools = ps }) (set-set memory.pools number left stay)
          ∙ (λ i. record memory { pools = slice_set memory.pools number (record { size = size; items = sym (kept-go size usage want x items full) i }) })
          ∙ sym k.room;
    }

goes_by : (memory : Memory) (number want : ℕ) (size : PoolSize) (x : Item) (items : List Item) → slice_get memory.pools number ≡ Some (record { size = size; items = x ∷ items }) → 0 < length (victims_of memory number want) → (b : Bool) → is_full size (usage_of number memory.charges) want (x ∷ items) ≡ b → (item : Item) × Goes memory number want item
goes_by memory number want size x items at some true full = (x, full_step memory number want size x items at full)
goes_by memory number want size x items at some false full =
    absurd (omega (arith, some, ap (λ (l : List Item). length l) ((known memory number want (record { size = size; items = x ∷ items }) at).victims ∙ dropped-stop size (usage_of number memory.charges) want x items full)))

goes_in : (memory : Memory) (number want : ℕ) (size : PoolSize) (items : List Item) → slice_get memory.pools number ≡ Some (record { size = size; items = items }) → 0 < length (victims_of memory number want) → (item : Item) × Goes memory number want item
goes_in memory number want size [] at some = absurd (omega (arith, some, ap (λ (l : List Item). length l) (known memory number want (record { size = size; items = [] }) at).victims))
goes_in memory number want size (x ∷ items) at some = goes_by memory number want size x items at some (is_full size (usage_of number memory.charges) want (x ∷ items)) refl

goes_at : (memory : Memory) (number want : ℕ) (o : Option Pool) → slice_get memory.pools number ≡ o → 0 < length (victims_of memory number want) → (item : Item) × Goes memory number want item
goes_at memory number want None at some = absurd (omega (arith, some, ap (λ (o : Option Pool). length (option_map_or (λ (p : Pool). dropped p.size (usage_of number memory.charges) want p.items) o [])) at))
goes_at memory number want (Some pool) at some = goes_in memory number want pool.size pool.items at some

pub first-goes : (memory : Memory) (number want : ℕ) → 0 < length (victims_of memory number want) → (item : Item) × Goes memory number want item
first-goes memory number want some = goes_at memory number want (slice_get memory.pools number) refl some

length_step : (pools : List Pool) (number : ℕ) (f : Pool → Pool) (o : Option Pool) → length (option_map_or (λ pool. slice_set pools number (f pool)) o pools) ≡ length pools
length_step pools number f None = refl
length_step pools number f (Some pool) = length-set pools number (f pool)

-- there are as many pools as before
pub evict-length : (memory : Memory) (number : ℕ) → length (after_evict memory number).pools ≡ length memory.pools
evict-length memory number = length_step memory.pools number (λ pool. record pool { items = drop 1 pool.items }) (slice_get memory.pools number)
