-- What steps do to pools where some items are without their mark: the same as to those with it.
use Rattle.std.proofs.Common.{◌≡◌, ℕ, zero, suc, ◌+◌, ◌==◌, ◌++◌, nat_lt, ◌||◌, Bool, true, false, List, [], ◌∷◌, Option, Some, None, is_some, map, take, drop, refl, ap, sym, ◌∙◌, length, slice_get, slice_set}
use mathlib.Core.Bool.{cond}
use Rattle.std.specs.Prelude.{option_map}
use Rattle.std.specs.Option.{option_map_or}
use Rattle.std.proofs.lemmas.List.{length-map, map-set}
use Rattle.std.proofs.lemmas.Option.{slice_get-map}
use Rattle.hc_types.specs.Charge.{charge_of}
use Rattle.hc_types.specs.declared.config.PoolSize.{PoolSize}
use Rattle.hc_memory.specs.declared.usage.Usage.{Usage}
use Rattle.hc_memory.specs.Item.{Item, Handle, cost, item_by}
use Rattle.hc_memory.specs.Pool.{Pool, bytes_of, linked_usage, is_at, item_at, without, used, is_expired, unexpired, value_then, is_full, kept, dropped, unmarked_where}
use Rattle.hc_memory.specs.Charges.{closed, usage_of}
use Rattle.hc_memory.specs.Memory.{Memory, has, linked_at, value_at, empty_pool, change_at, change_home, unlinked, used_in, is_hopeless, victims_of, after_room, handle_for, after_charge, after_link}
use Rattle.hc_memory.proofs.Keyed.{tally-unmarked, unmarked-push, is_some-mapped}

-- ---- one item

abbrev pub bare : Item → Item
bare x = record x { clean = false }

pub keeps : {X : Type 0} (f : Item → X) (x : Item) (b : Bool) → f (bare x) ≡ f x → f (cond b (bare x) x) ≡ f x
keeps f x true e = e
keeps f x false e = refl

-- an item that isn't clean stays what it is
pub unclean : (h : Handle) (b : Bool) → cond b (bare (item_by false h)) (item_by false h) ≡ item_by false h
unclean h true = refl
unclean h false = refl

module _ (test : Item → Bool) where
  abbrev pub off : Item → Item
  off x = cond (test x) (bare x) x

  abbrev pub all_off : List Item → List Item
  all_off items = unmarked_where test items

  abbrev pub pool_off : Pool → Pool
  pool_off pool = record pool { items = all_off pool.items }

  at-off : (key : List ℕ) (x : Item) → is_at key (off x) ≡ is_at key x
  at-off key x = keeps (is_at key) x (test x) refl

  -- ---- the items of a pool

  without_step : (key : List ℕ) (x : Item) (items : List Item) (b : Bool) → without key (all_off items) ≡ all_off (without key items) → cond b (all_off items) (off x ∷ without key (all_off items)) ≡ all_off (cond b items (x ∷ without key items))
  without_step key x items true h = refl
  without_step key x items false h = ap (λ ys. off x ∷ ys) h

  pub without-off : (key : List ℕ) (items : List Item) → without key (all_off items) ≡ all_off (without key items)
  without-off key [] = refl
  without-off key (x ∷ items) =
      ap (λ b. cond b (all_off items) (off x ∷ without key (all_off items))) (at-off key x)
      ∙ without_step key x items (is_at key x) (without-off key items)

  module _ {X : Type 0} (f : Item → X) (same : (x : Item) → f (bare x) ≡ f x) where
    found_step : (key : List ℕ) (x : Item) (b : Bool) (old new : Option Item) → option_map f new ≡ option_map f old → option_map f (cond b (Some (off x)) new) ≡ option_map f (cond b (Some x) old)
    found_step key x true old new h = ap Some (keeps f x (test x) (same x))
    found_step key x false old new h = h

    pub found-off : (key : List ℕ) (items : List Item) → option_map f (item_at key (all_off items)) ≡ option_map f (item_at key items)
    found-off key [] = refl
    found-off key (x ∷ items) =
        ap (λ b. option_map f (cond b (Some (off x)) (item_at key (all_off items)))) (at-off key x)
        ∙ found_step key x (is_at key x) (item_at key items) (item_at key (all_off items)) (found-off key items)

  pub has-off : (key : List ℕ) (pool : Pool) → has key (pool_off pool) ≡ has key pool
  has-off key pool =
      sym (is_some-mapped (λ (x : Item). x.number) (item_at key (all_off pool.items)))
      ∙ ap is_some (found-off (λ (x : Item). x.number) (λ x. refl) key pool.items)
      ∙ is_some-mapped (λ (x : Item). x.number) (item_at key pool.items)

  module _ (size : PoolSize) (usage : Usage) (want : ℕ) where
    pub full-off : (items : List Item) → is_full size usage want (all_off items) ≡ is_full size usage want items
    full-off items =
        let bytes : bytes_of (all_off items) ≡ bytes_of items = tally-unmarked cost test (λ y. refl) items in
        let number : length (all_off items) ≡ length items = length-map items off in
        λ i. nat_lt size.bytes (usage.bytes + bytes i + want) || (usage.number + number i == size.items)

    kept_step : (x : Item) (items : List Item) (b : Bool) → kept size usage want (all_off items) ≡ all_off (kept size usage want items) → cond b (kept size usage want (all_off items)) (all_off (x ∷ items)) ≡ all_off (cond b (kept size usage want items) (x ∷ items))
    kept_step x items true h = h
    kept_step x items false h = refl

    pub kept-off : (items : List Item) → kept size usage want (all_off items) ≡ all_off (kept size usage want items)
    kept-off [] = refl
    kept-off (x ∷ items) =
        ap (λ b. cond b (kept size usage want (all_off items)) (all_off (x ∷ items))) (full-off (x ∷ items))
        ∙ kept_step x items (is_full size usage want (x ∷ items)) (kept-off items)

    dropped_step : (x : Item) (items : List Item) (b : Bool) → dropped size usage want (all_off items) ≡ all_off (dropped size usage want items) → cond b (off x ∷ dropped size usage want (all_off items)) [] ≡ all_off (cond b (x ∷ dropped size usage want items) [])
    dropped_step x items true h = ap (λ ys. off x ∷ ys) h
    dropped_step x items false h = refl

    pub dropped-off : (items : List Item) → dropped size usage want (all_off items) ≡ all_off (dropped size usage want items)
    dropped-off [] = refl
    dropped-off (x ∷ items) =
        ap (λ b. cond b (off x ∷ dropped size usage want (all_off items)) []) (full-off (x ∷ items))
        ∙ dropped_step x items (is_full size usage want (x ∷ items)) (dropped-off items)

  -- ---- all pools

  home_step : (key : List ℕ) (f : Pool → Pool) (pool : Pool) (pools : List Pool) (b : Bool) → f (pool_off pool) ≡ pool_off (f pool) → change_home key f (map pool_off pools) ≡ map pool_off (change_home key f pools)
      → cond b (f (pool_off pool) ∷ map pool_off pools) (pool_off pool ∷ change_home key f (map pool_off pools)) ≡ map pool_off (cond b (f pool ∷ pools) (pool ∷ change_home key f pools))
  home_step key f pool pools true e h = ap (λ p. p ∷ map pool_off pools) e
  home_step key f pool pools false e h = ap (λ ps. pool_off pool ∷ ps) h

  pub home-off : (key : List ℕ) (f : Pool → Pool) → ((pool : Pool) → f (pool_off pool) ≡ pool_off (f pool)) → (pools : List Pool) → change_home key f (map pool_off pools) ≡ map pool_off (change_home key f pools)
  home-off key f same [] = refl
  home-off key f same (pool ∷ pools) =
      ap (λ b. cond b (f (pool_off pool) ∷ map pool_off pools) (pool_off pool ∷ change_home key f (map pool_off pools))) (has-off key pool)
      ∙ home_step key f pool pools (has key pool) (same pool) (home-off key f same pools)

  pub unlinked-off : (key : List ℕ) (pools : List Pool) → unlinked key (map pool_off pools) ≡ map pool_off (unlinked key pools)
  unlinked-off key pools = home-off key (λ pool. record pool { items = without key pool.items }) (λ pool i. record { size = pool.size; items = without-off key pool.items i }) pools

  number_step : (n : ℕ) (f : Pool → Pool) → ((pool : Pool) → f (pool_off pool) ≡ pool_off (f pool)) → (pools : List Pool) (o : Option Pool)
      → option_map_or (λ p. slice_set (map pool_off pools) n (f p)) (option_map pool_off o) (map pool_off pools) ≡ map pool_off (option_map_or (λ p. slice_set pools n (f p)) o pools)
  number_step n f same pools None = refl
  number_step n f same pools (Some pool) = ap (slice_set (map pool_off pools) n) (same pool) ∙ sym (map-set pool_off pools n (f pool))

  pub number-off : (n : ℕ) (f : Pool → Pool) → ((pool : Pool) → f (pool_off pool) ≡ pool_off (f pool)) → (pools : List Pool) → change_at n f (map pool_off pools) ≡ map pool_off (change_at n f pools)
  number-off n f same pools =
      ap (λ o. option_map_or (λ p. slice_set (map pool_off pools) n (f p)) o (map pool_off pools)) (slice_get-map pool_off pools n)
      ∙ number_step n f same pools (slice_get pools n)

  -- an item is linked that keeps what mark it has
  pub linked-off : (own : ℕ) (key : List ℕ) (x : Item) → off x ≡ x → (pools : List Pool)
      → change_at own (λ p. record p { items = p.items ++ x ∷ [] }) (unlinked key (map pool_off pools)) ≡ map pool_off (change_at own (λ p. record p { items = p.items ++ x ∷ [] }) (unlinked key pools))
  linked-off own key x stays pools =
      let push : Pool → Pool = λ p. record p { items = p.items ++ x ∷ [] } in
      let each : (p : Pool) → push (pool_off p) ≡ pool_off (push p) = λ p. λ i. record { size = p.size; items = sym (unmarked-push test p.items x ∙ ap (λ y. all_off p.items ++ y ∷ []) stays) i } in
      ap (change_at own push) (unlinked-off key pools) ∙ number-off own push each (unlinked key pools)

  module _ {X : Type 0} (f : Item → X) (same : (x : Item) → f (bare x) ≡ f x) where
    pools_step : (pool : Pool) (b : Bool) (key : List ℕ) (old new : Option Item) → option_map f new ≡ option_map f old → option_map f (cond b (item_at key (all_off pool.items)) new) ≡ option_map f (cond b (item_at key pool.items) old)
    pools_step pool true key old new h = found-off f same key pool.items
    pools_step pool false key old new h = h

    pub pools-found : (key : List ℕ) (pools : List Pool) → option_map f (linked_at key (map pool_off pools)) ≡ option_map f (linked_at key pools)
    pools-found key [] = refl
    pools-found key (pool ∷ pools) =
        ap (λ b. option_map f (cond b (item_at key (all_off pool.items)) (linked_at key (map pool_off pools)))) (has-off key pool)
        ∙ pools_step pool (has key pool) key (linked_at key pools) (linked_at key (map pool_off pools)) (pools-found key pools)

  -- ---- what is seen but for the mark

  at_step-off : (key : List ℕ) (x : Item) (b : Bool) (old new : Option Item) → new ≡ option_map off old → cond b (Some (off x)) new ≡ option_map off (cond b (Some x) old)
  at_step-off key x true old new h = refl
  at_step-off key x false old new h = h

  -- the item under a key
  pub item-off : (key : List ℕ) (items : List Item) → item_at key (all_off items) ≡ option_map off (item_at key items)
  item-off key [] = refl
  item-off key (x ∷ items) =
      ap (λ b. cond b (Some (off x)) (item_at key (all_off items))) (at-off key x)
      ∙ at_step-off key x (is_at key x) (item_at key items) (item_at key (all_off items)) (item-off key items)

  linked_step : (pool : Pool) (b : Bool) (key : List ℕ) (old new : Option Item) → new ≡ option_map off old → cond b (item_at key (all_off pool.items)) new ≡ option_map off (cond b (item_at key pool.items) old)
  linked_step pool true key old new h = item-off key pool.items
  linked_step pool false key old new h = h

  pub item-linked : (key : List ℕ) (pools : List Pool) → linked_at key (map pool_off pools) ≡ option_map off (linked_at key pools)
  item-linked key [] = refl
  item-linked key (pool ∷ pools) =
      ap (λ b. cond b (item_at key (all_off pool.items)) (linked_at key (map pool_off pools))) (has-off key pool)
      ∙ linked_step pool (has key pool) key (linked_at key pools) (linked_at key (map pool_off pools)) (item-linked key pools)

  fresh_step : (now : ℕ) (x : Item) (b : Bool) → cond b None (Some (off x)) ≡ option_map off (cond b None (Some x))
  fresh_step now x true = refl
  fresh_step now x false = refl

  unexpired-off : (now : ℕ) (o : Option Item) → unexpired now (option_map off o) ≡ option_map off (unexpired now o)
  unexpired-off now None = refl
  unexpired-off now (Some x) =
      ap (λ b. cond b None (Some (off x))) (keeps (is_expired now) x (test x) refl)
      ∙ fresh_step now x (is_expired now x)

  valued : (o : Option Item) → option_map (λ (i : Item). i.value) (option_map off o) ≡ option_map (λ (i : Item). i.value) o
  valued None = refl
  valued (Some x) = ap Some (keeps (λ (i : Item). i.value) x (test x) refl)

  -- the value that a find answers
  pub value-off : (now : ℕ) (key : List ℕ) (pools : List Pool) → value_at now key (map pool_off pools) ≡ value_at now key pools
  value-off now key pools =
      ap (value_then now) (item-linked key pools)
      ∙ ap (option_map (λ (i : Item). i.value)) (unexpired-off now (linked_at key pools))
      ∙ valued (unexpired now (linked_at key pools))

  used_step : (key : List ℕ) (items : List Item) (o : Option Item) → used key (option_map off o) (all_off items) ≡ all_off (used key o items)
  used_step key items None = refl
  used_step key items (Some x) = ap (λ ys. ys ++ off x ∷ []) (without-off key items) ∙ sym (unmarked-push test (without key items) x)

  uses-off : (key : List ℕ) (now : ℕ) (items : List Item) → used key (unexpired now (item_at key (all_off items))) (all_off items) ≡ all_off (used key (unexpired now (item_at key items)) items)
  uses-off key now items =
      ap (λ o. used key o (all_off items)) (ap (unexpired now) (item-off key items) ∙ unexpired-off now (item_at key items))
      ∙ used_step key items (unexpired now (item_at key items))

  -- a find
  pub find-off : (now : ℕ) (key : List ℕ) (pools : List Pool) → used_in now key (map pool_off pools) ≡ map pool_off (used_in now key pools)
  find-off now key pools = home-off key (λ pool. record pool { items = used key (unexpired now (item_at key pool.items)) pool.items }) (λ pool i. record { size = pool.size; items = uses-off key now pool.items i }) pools

  -- ---- the items that were used longest ago

  pub drop-off : (n : ℕ) (items : List Item) → drop n (all_off items) ≡ all_off (drop n items)
  drop-off zero items = refl
  drop-off (suc n) [] = refl
  drop-off (suc n) (x ∷ items) = drop-off n items

  pub take-off : (n : ℕ) (items : List Item) → take n (all_off items) ≡ all_off (take n items)
  take-off zero items = refl
  take-off (suc n) [] = refl
  take-off (suc n) (x ∷ items) = ap (λ ys. off x ∷ ys) (take-off n items)

  -- the first goes
  pub evict-off : (n : ℕ) (pools : List Pool) → change_at n (λ pool. record pool { items = drop 1 pool.items }) (map pool_off pools) ≡ map pool_off (change_at n (λ pool. record pool { items = drop 1 pool.items }) pools)
  evict-off n pools = number-off n (λ pool. record pool { items = drop 1 pool.items }) (λ pool i. record { size = pool.size; items = drop-off 1 pool.items i }) pools

  pub keys-off : (items : List Item) → map (λ (x : Item). x.key) (all_off items) ≡ map (λ (x : Item). x.key) items
  keys-off [] = refl
  keys-off (x ∷ items) = λ i. keeps (λ (y : Item). y.key) x (test x) refl i ∷ keys-off items i

  -- what the items come to
  pub usage-off : (items : List Item) → linked_usage (all_off items) ≡ linked_usage items
  usage-off items =
      let bytes : bytes_of (all_off items) ≡ bytes_of items = tally-unmarked cost test (λ y. refl) items in
      let number : length (all_off items) ≡ length items = length-map items off in
      λ i. record { bytes = bytes i; number = number i }

  -- no item is there
  pub none-off : (sizes : List PoolSize) → map pool_off (map empty_pool sizes) ≡ map empty_pool sizes
  none-off [] = refl
  none-off (size ∷ sizes) = ap (λ ps. empty_pool size ∷ ps) (none-off sizes)

  -- ---- a memory

  abbrev pub memory_off : Memory → Memory
  memory_off m = record m { pools = map pool_off m.pools }

  -- an unclean item is linked
  pub link-off : (m : Memory) (h : Handle) → memory_off (after_link m false h) ≡ after_link (memory_off m) false h
  link-off m h =
      let pools = linked-off h.pool h.key (item_by false h) (unclean h (test (item_by false h))) m.pools in
      λ i. record { flash = m.flash; pools = sym pools i; charges = closed h.number m.charges; made = m.made }

  victims_step : (m : Memory) (pool want : ℕ) (o : Option Pool)
      → option_map_or (λ p. dropped p.size (usage_of pool m.charges) want p.items) (option_map pool_off o) [] ≡ all_off (option_map_or (λ p. dropped p.size (usage_of pool m.charges) want p.items) o [])
  victims_step m pool want None = refl
  victims_step m pool want (Some p) = dropped-off p.size (usage_of pool m.charges) want p.items

  -- the items that go where room is made
  pub victims-off : (m : Memory) (pool want : ℕ) → victims_of (memory_off m) pool want ≡ all_off (victims_of m pool want)
  victims-off m pool want =
      ap (λ o. option_map_or (λ (p : Pool). dropped p.size (usage_of pool m.charges) want p.items) o []) (slice_get-map pool_off m.pools pool)
      ∙ victims_step m pool want (slice_get m.pools pool)

  hopeless_step : (m : Memory) (pool want : ℕ) (o : Option Pool)
      → option_map_or (λ p. is_full p.size (usage_of pool m.charges) want []) (option_map pool_off o) true ≡ option_map_or (λ p. is_full p.size (usage_of pool m.charges) want []) o true
  hopeless_step m pool want None = refl
  hopeless_step m pool want (Some p) = refl

  pub hopeless-off : (m : Memory) (pool want : ℕ) → is_hopeless (memory_off m) pool want ≡ is_hopeless m pool want
  hopeless-off m pool want =
      ap (λ o. option_map_or (λ (p : Pool). is_full p.size (usage_of pool m.charges) want []) o true) (slice_get-map pool_off m.pools pool)
      ∙ hopeless_step m pool want (slice_get m.pools pool)

  -- room is made
  pub room-off : (m : Memory) (pool want : ℕ) → memory_off (after_room m pool want) ≡ after_room (memory_off m) pool want
  room-off m pool want =
      let each : (p : Pool) → record (pool_off p) { items = kept p.size (usage_of pool m.charges) want (all_off p.items) } ≡ pool_off (record p { items = kept p.size (usage_of pool m.charges) want p.items }) =
      λ p. λ i. record { size = p.size; items = kept-off p.size (usage_of pool m.charges) want p.items i } in
      let pools = number-off pool (λ (p : Pool). record p { items = kept p.size (usage_of pool m.charges) want p.items }) each m.pools in
      λ i. record { flash = m.flash; pools = sym pools i; charges = m.charges; made = m.made }

  pub charge-off : (m : Memory) (pool : ℕ) (key : List ℕ) (size : ℕ) → memory_off (after_charge m pool key size) ≡ after_charge (memory_off m) pool key size
  charge-off m pool key size = λ i. record {
    flash = m.flash;
    pools = (room-off m pool (charge_of key size) i).pools;
    charges = (after_charge m pool key size).charges;
    made = m.made + 1;
  }

  -- a clean item is linked that keeps its mark
  pub bring-off : (m : Memory) (pool : ℕ) (key value : List ℕ) (expiry : ℕ) → test (item_by true (handle_for m pool key value expiry)) ≡ false
      → memory_off (after_link (after_charge m pool key (length value)) true (handle_for m pool key value expiry)) ≡ after_link (after_charge (memory_off m) pool key (length value)) true (handle_for (memory_off m) pool key value expiry)
  bring-off m pool key value expiry apart =
      let h = handle_for m pool key value expiry in
      let charged = after_charge m pool key (length value) in
      let stays = ap (λ b. cond b (bare (item_by true h)) (item_by true h)) apart in
      let pools = linked-off pool key (item_by true h) stays charged.pools in
      let room = charge-off m pool key (length value) in
      (λ i. record { flash = m.flash; pools = sym pools i; charges = closed h.number charged.charges; made = charged.made })
      ∙ (λ i. after_link (room i) true h)
