-- A pool is full by the books exactly where its items and what is open leave no room.
use Rattle.std.proofs.Common.{◌≡◌, ◌≢◌, ⊎_elim, suc, slice_set, ℕ, ◌+◌, ◌≤◌, ◌++◌, ◌==◌, nat_lt, not, ◌||◌, Bool, true, false, List, [], ◌∷◌, length, Some, refl, ap, sym, ◌∙◌, arith, subst, slice_get}
use mathlib.Core.Bool.{cond}
use Rattle.std.proofs.lemmas.Bool.{eqb-true}
use Rattle.std.proofs.lemmas.Bool.Decides.{eqb_tells}
use Rattle.hc_types.specs.Config.{Config}
use Rattle.hc_types.specs.declared.config.PoolSize.{PoolSize}
use Rattle.hc_types.specs.Tally.{tally, count}
use Rattle.hc_types.proofs.Tallies.{tally-append, tally-where, tally-mono}
use Rattle.hc_memory.specs.Item.{Item, Open, cost}
use Rattle.hc_memory.specs.Pool.{Pool, bytes_of, is_full}
use Rattle.hc_memory.specs.Charges.{usage_of}
use Rattle.hc_memory.specs.Memory.{change_at}
use Rattle.hc_memory.specs.Sound.{Sound}
use Rattle.hc_memory.proofs.Keys.{get-set, get-set-other}
use Rattle.hc_memory.proofs.Linking.{ones}
use Rattle.hc_history.specs.Books.{Charge}
use Rattle.hc_history.specs.Lawful as lawful
use Rattle.hc_history.specs.Lawful.{live_bytes, live_count, is_full_of}
use Rattle.hc_machine.specs.items.Items.{items_of}
use Rattle.hc_machine.proofs.items.Items.{none-summed}
use Rattle.hc_machine.proofs.items.Same.{Same}

whole : (b : Bool) (n : ℕ) → not b ≡ false → cond b n 0 ≡ n
whole true n h = refl
whole false n h = absurd cc

-- where all items are the pool's own, a sum over the pool is one over all
own_sum : (pool : ℕ) (f : Item → ℕ) (items : List Item) → count (λ (item : Item). not (item.pool == pool)) items ≡ 0 → tally (λ (item : Item). cond (item.pool == pool) (f item) 0) items ≡ tally f items
own_sum pool f items own = tally-where (λ (item : Item). not (item.pool == pool)) (λ (item : Item). cond (item.pool == pool) (f item) 0) f (λ x h. whole (x.pool == pool) (f x) h) items own

pub first_own : (x : Item) (pool n : ℕ) (b : Bool) → (x.pool == pool) ≡ b → cond (not b) 1 0 + n ≡ 0 → x.pool ≡ pool
first_own x pool n true e own = eqb-true x.pool pool e
first_own x pool n false e own = absurd (omega (arith, own))

-- the pool is full by the books exactly where its items and what is open leave no room
pub full-same : (config : Config) (size : PoolSize) (pool want : ℕ) (live : List Charge) (items others : List Item) (opens : List Open) → slice_get config.pools pool ≡ Some size
    → count (λ (item : Item). not (item.pool == pool)) items ≡ 0 → count (λ (item : Item). item.pool == pool) others ≡ 0 → Same live (items ++ others) opens
    → lawful.is_full config pool live want ≡ is_full size (usage_of pool opens) want items
full-same config size pool want live items others opens at own none same =
    let f : Item → ℕ = λ item. cond (item.pool == pool) (cost item) 0 in
    let g : Item → ℕ = λ item. cond (item.pool == pool) 1 0 in
    let bytes : live_bytes pool live ≡ (usage_of pool opens).bytes + bytes_of items =
    omega (arith, same (λ charge. cond (charge.pool == pool) charge.bytes 0), tally-append f items others, own_sum pool cost items own, none-summed (λ (item : Item). item.pool == pool) cost others none) in
    let number : live_count pool live ≡ (usage_of pool opens).number + length items =
    omega (arith, same (λ charge. cond (charge.pool == pool) 1 0), tally-append g items others, own_sum pool (λ item. 1) items own, ones items, none) in
    ap (λ o. is_full_of o pool live want) at ∙ (λ i. nat_lt size.bytes (bytes i + want) || (number i == size.items))

none_flat : (test : Item → Bool) (pools : List Pool) → ((i : ℕ) (pool : Pool) → slice_get pools i ≡ Some pool → count test pool.items ≡ 0) → count test (items_of pools) ≡ 0
none_flat test [] none = refl
none_flat test (pool ∷ pools) none = omega (arith, tally-append (λ item. cond (test item) 1 0) pool.items (items_of pools), none 0 pool refl, none_flat test pools (λ i p at. none (suc i) p at))

-- a pool's items taken out
abbrev pub others_of : ℕ → List Pool → List Item
others_of pool pools = items_of (change_at pool (λ p. record p { items = [] }) pools)

other_step : (n i pool : ℕ) (s t : Bool) → (n == pool) ≡ s → (n == i) ≡ t → i ≢ pool → ◌≤◌ (cond s 1 0) (cond (not t) 1 0)
other_step n i pool false t e f other = omega arith
other_step n i pool true false e f other = omega arith
other_step n i pool true true e f other = absurd (other (sym (eqb-true n i f) ∙ eqb-true n pool e))

other_own : (i pool : ℕ) (items : List Item) → i ≢ pool → count (λ (item : Item). not (item.pool == i)) items ≡ 0 → count (λ (item : Item). item.pool == pool) items ≡ 0
other_own i pool items other own = omega (arith, own, tally-mono (λ (item : Item). cond (item.pool == pool) 1 0) (λ (item : Item). cond (not (item.pool == i)) 1 0) (λ x. other_step x.pool i pool (x.pool == pool) (x.pool == i) refl refl other) items)

-- no item of the others is the pool's own
pub others_none : (pools : List Pool) (opens : List Open) (made pool : ℕ) (there : Pool) → Sound pools opens made → slice_get pools pool ≡ Some there → count (λ (item : Item). item.pool == pool) (others_of pool pools) ≡ 0
others_none pools opens made pool there sound at =
    let bare : Pool = record there { items = [] } in
    let set : change_at pool (λ p. record p { items = [] }) pools ≡ slice_set pools pool bare = rw at refl in
    rw set (none_flat (λ (item : Item). item.pool == pool) (slice_set pools pool bare) (λ i p found. ⊎_elim
    (λ same. let now : slice_get (slice_set pools pool bare) i ≡ Some bare = rw same.1 (get-set pools pool there bare at) in let is : bare ≡ p = cc in subst (λ (q : Pool). count (λ (item : Item). item.pool == pool) q.items ≡ 0) is refl)
    (λ other. other_own i pool p.items other.1 (sound.own i p (sym (get-set-other pools pool i bare other.1) ∙ found)))
    (eqb_tells i pool)))
