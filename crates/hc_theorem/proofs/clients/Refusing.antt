-- Why nothing is allocated: by the books as by the memory.
use Rattle.std.proofs.Common.{◌≡◌, ℕ, zero, ◌<◌, Bool, true, false, not, List, [], ◌∷◌, length, map, suc, Option, Some, None, refl, ap, sym, ◌∙◌, arith, cond}
use Rattle.std.specs.Prelude.{if◌then◌else◌, nat_lt, slice_get, option_map}
use Rattle.std.proofs.lemmas.Option.{slice_get-map}
use Rattle.hc_types.specs.Tally.{tally}
use Rattle.hc_types.proofs.Tallies.{tally-filter}
use Rattle.hc_types.specs.Charge.{charge_of}
use Rattle.hc_types.specs.Config.{Config}
use Rattle.hc_types.specs.declared.refusal.Refusal.{Refusal}
use Rattle.hc_types.specs.declared.refusal.Refusal.TheVariants.{NoPool, ValueTooLong, NoRoom}
use Rattle.hc_memory.specs.Item.{Item, Open}
use Rattle.hc_memory.specs.Pool.{Pool}
use Rattle.hc_memory.specs.Memory.{Memory, is_hopeless}
use Rattle.hc_memory.proofs.Making.{known}
use Rattle.hc_machine.specs.items.Items.{items_of, charge_at, open_at}
use Rattle.hc_machine.specs.items.Allocating.{refusal_of}
use Rattle.hc_machine.proofs.items.FullPool.{full-same}
use Rattle.hc_history.specs.Note.{Note}
use Rattle.hc_history.specs.Books.{Charge, charges}
use Rattle.hc_history.specs.Lawful.{is_full}
use Rattle.hc_invariant.specs.Tells.{ChargesTell, MemoryTells}
use Rattle.hc_follows.specs.Desk.{open_charges}
use Rattle.hc_follows.specs.Clients.{open_refusal}

-- ---- the open charges are those of the memory

linked_none : (f : Charge → ℕ) (items : List Item) → tally (λ (item : Item). cond (not (charge_at item).linked) (f (charge_at item)) 0) items ≡ 0
linked_none f [] = refl
linked_none f (item ∷ items) = omega (arith, linked_none f items)

pub open_same : (older : List Note) (items : List Item) (opens : List Open) (made : ℕ) → ChargesTell older items opens made → (f : Charge → ℕ) → tally f (open_charges older) ≡ tally (λ (o : Open). f (open_at o)) opens
open_same older items opens made t f =
    let g : Charge → ℕ = λ c. cond (not c.linked) (f c) 0 in
    omega (arith, tally-filter f (λ (c : Charge). not c.linked) (charges older), t.same g, linked_none f items)

-- ---- a pool is full for what is open

there_at : (i : ℕ) (pools : List Pool) → i < length pools → (pool : Pool) × (slice_get pools i ≡ Some pool)
there_at i [] h = absurd (omega (arith, h))
there_at zero (pool ∷ pools) h = (pool, refl)
there_at (suc i) (pool ∷ pools) h = there_at i pools (omega (arith, h))

full_same : (config : Config) (older : List Note) (memory : Memory) (pool want : ℕ) → MemoryTells config older memory → pool < length memory.pools → is_full config pool (open_charges older) want ≡ is_hopeless memory pool want
full_same config older memory pool want t lt =
    let there = there_at pool memory.pools lt in
    let configured : slice_get config.pools pool ≡ Some there.0.size = sym (ap (λ xs. slice_get xs pool) t.sizes) ∙ slice_get-map (λ (p : Pool). p.size) memory.pools pool ∙ ap (option_map (λ (p : Pool). p.size)) there.1 in
    full-same config there.0.size pool want (open_charges older) [] [] memory.charges configured refl refl (λ f. omega (arith, open_same older (items_of memory.pools) memory.charges memory.made t.charges f))
    ∙ sym (known memory pool want there.0 there.1).hopeless

-- ---- the refusal

abbrev reason : Bool → Bool → Bool → Option Refusal
reason a b c = if not a then Some NoPool else (if b then Some ValueTooLong else (if c then Some NoRoom else None))

same_reason : (a b c d : Bool) → (a ≡ true → c ≡ d) → reason a b c ≡ reason a b d
same_reason false b c d h = refl
same_reason true b c d h = ap (reason true b) (h refl)

sizes_length : {X Y : Type 0} (f : X → Y) (xs : List X) → length (map f xs) ≡ length xs
sizes_length f [] = refl
sizes_length f (x ∷ xs) = ap suc (sizes_length f xs)

lt_of : (a b : ℕ) → nat_lt a b ≡ true → a < b
lt_of a b h = grind (arith, h)

pub refusal_same : (config : Config) (older : List Note) (memory : Memory) (pool : ℕ) (key : List ℕ) (size : ℕ) → MemoryTells config older memory → open_refusal config older pool key size ≡ refusal_of memory pool key size
refusal_same config older memory pool key size t =
    let pools : length config.pools ≡ length memory.pools = ap length (sym t.sizes) ∙ sizes_length (λ (p : Pool). p.size) memory.pools in
    ap (λ n. reason (nat_lt pool n) (nat_lt 1048576 size) (is_full config pool (open_charges older) (charge_of key size))) pools
    ∙ same_reason (nat_lt pool (length memory.pools)) (nat_lt 1048576 size) (is_full config pool (open_charges older) (charge_of key size)) (is_hopeless memory pool (charge_of key size))
    (λ e. full_same config older memory pool (charge_of key size) t (lt_of pool (length memory.pools) e))
