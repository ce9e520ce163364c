-- A good cache stands between two steps.
use Rattle.std.proofs.Common.{◌≡◌, ℕ, ◌+◌, ◌≤◌, Bool, true, false, not, ◌&&◌, ◌||◌, List, [], ◌∷◌, reverse, Option, Some, None, refl, ap, sym, ◌∙◌, arith}
use Rattle.std.specs.Prelude.{is_some, nat_lt, if◌then◌else◌}
use Rattle.std.proofs.lemmas.Grind.{reverse_onto}
use Rattle.hc_types.specs.Config.{Config}
use Rattle.hc_types.specs.Tally.{tally, count}
use Rattle.hc_types.specs.declared.config.FlashConfig.{FlashConfig}
use Rattle.hc_types.proofs.Tallies.{tally-push}
use Rattle.hc_types.specs.FlashEntry.{FlashEntry}
use Rattle.hc_memory.specs.Item.{Item, Open, cost}
use Rattle.hc_memory.specs.Pool.{is_at, item_at}
use Rattle.hc_memory.specs.Memory.{linked_at}
use Rattle.hc_machine.specs.items.Items.{items_of}
use Rattle.hc_machine.proofs.items.Items.{bytes_eq-refl, bytes_eq-sym}
use Rattle.hc_machine.proofs.items.Flat.{linked-flat}
use Rattle.hc_machine.proofs.items.Same.{eqb-same}
use Rattle.hc_history.specs.Note.{Note}
use Rattle.hc_history.specs.Books.{Charge, Entry, charges, waiting, entry_at, is_linked}
use Rattle.hc_history.specs.Lawful.{is_backed, is_stray, AtEnd, Legal, past}
use Rattle.hc_machine.specs.Nvm.{Nvm, put_at}
use Rattle.hc_machine.specs.Cache.{Cache}
use Rattle.hc_invariant.specs.Standing.{map_of, map_of_item, Placed}
use Rattle.hc_machine.specs.items.Items.{charge_at, open_at}
use Rattle.hc_invariant.specs.Tells.{keys_of, ChargesTell}
use Rattle.hc_machine.specs.World.{World}
use Rattle.hc_invariant.specs.Good.{Agrees, GoodRun, FlashPart}
use Rattle.hc_invariant.proofs.Placing.{map_queued, queued_alone}

-- ---- sums

no_sum : {X : Type 0} (f : X → ℕ) → ((x : X) → f x ≡ 0) → (xs : List X) → tally f xs ≡ 0
no_sum f zero [] = refl
no_sum f zero (x ∷ xs) = omega (arith, zero x, no_sum f zero xs)

pub tally-reverse : {X : Type 0} (f : X → ℕ) (xs : List X) → tally f (reverse xs) ≡ tally f xs
tally-reverse f [] = refl
tally-reverse f (x ∷ xs) = ap (tally f) (reverse_onto xs x []) ∙ tally-push f (reverse xs) x ∙ omega (arith, tally-reverse f xs)

-- ---- items

found_step : (x : Item) (items : List Item) (key : List ℕ) (i : Item) (b : Bool) → (item_at key items ≡ Some i → 1 ≤ count (is_at key) items) → (if b then Some x else item_at key items) ≡ Some i → 1 ≤ (if b then 1 else 0) + count (is_at key) items
found_step x items key i true h e = omega arith
found_step x items key i false h e = omega (arith, h e)

found_counts : (key : List ℕ) (items : List Item) (i : Item) → item_at key items ≡ Some i → 1 ≤ count (is_at key) items
found_counts key [] i e = absurd cc
found_counts key (x ∷ items) i e = found_step x items key i (is_at key x) (found_counts key items i) e

pub none_counts : (key : List ℕ) (items : List Item) → item_at key items ≡ None → count (is_at key) items ≡ 0
none_counts key [] e = refl
none_counts key (x ∷ items) e = grind (arith, none_counts key items)

still_found : (key : List ℕ) (x : Item) (items : List Item) (i : Item) (b : Bool) → (if b then 1 else 0) + count (is_at key) items ≤ 1 → item_at key items ≡ Some i → (if b then Some x else item_at key items) ≡ Some i
still_found key x items i true one e = absurd (omega (arith, found_counts key items i e))
still_found key x items i false one e = e

-- 1 where the map's entry isn't what the item was charged for
abbrev unbacked : (List ℕ → Option Entry) → Item → ℕ
unbacked f i = if not (is_backed (f i.key) (charge_at i)) then 1 else 0

backed : (o : Option Entry) (x : Item) → o ≡ Some (map_of_item x) → ◌≡◌ {A = ℕ} (if not (is_backed o (charge_at x)) then 1 else 0) 0
backed o x e = rw (e, eqb-same (cost x)) refl

all_backed : (f : List ℕ → Option Entry) (items : List Item) → ((key : List ℕ) → count (is_at key) items ≤ 1) → ((key : List ℕ) (i : Item) → item_at key items ≡ Some i → f key ≡ Some (map_of_item i)) → tally (unbacked f) items ≡ 0
all_backed f [] one h = refl
all_backed f (x ∷ items) one h =
    let first = backed (f x.key) x (h x.key x (rw (bytes_eq-refl x.key) refl)) in
    let rest = all_backed f items (λ key. omega (arith, one key)) (λ key i e. h key i (still_found key x items i (is_at key x) (one key) e)) in
    omega (arith, first, rest)

linked_count : (key : List ℕ) (items : List Item) → count (λ (i : Item). is_linked key (charge_at i)) items ≡ count (is_at key) items
linked_count key [] = refl
linked_count key (x ∷ items) = omega (arith, linked_count key items, ap {B = ℕ} (λ b. if b then 1 else 0) (bytes_eq-sym x.key key))

-- as many linked charges have a key as items
pub linked_charges : (older : List Note) (items : List Item) (opens : List Open) (made : ℕ) (key : List ℕ) → ChargesTell older items opens made → count (is_linked key) (charges older) ≡ count (is_at key) items
linked_charges older items opens made key t = omega (arith, t.same (λ c. if is_linked key c then 1 else 0), linked_count key items, no_sum (λ (o : Open). if is_linked key (open_at o) then 1 else 0) (λ o. refl) opens)

-- ---- puts that wait

still_queued : (key : List ℕ) (e : FlashEntry) (queue : List FlashEntry) → is_some (put_at key queue) ≡ true → is_some (put_at key (e ∷ queue)) ≡ true
still_queued key e queue h = grind arith

none_stray : (test : List ℕ → Bool) (queue : List FlashEntry) → ((key : List ℕ) → is_some (put_at key queue) ≡ true → test key ≡ false) → count test (keys_of queue) ≡ 0
none_stray test [] h = refl
none_stray test (e ∷ queue) h =
    let first = h e.key (rw (bytes_eq-refl e.key) refl) in
    let rest = none_stray test queue (λ key s. h key (still_queued key e queue s)) in
    omega (arith, rest, ap {B = ℕ} (λ b. if b then 1 else 0) first)

-- a waiting key is in the map, and isn't linked
not_stray : (config : Config) (older : List Note) (cache : Cache) (nvm : Nvm) (key : List ℕ) (o : Option FlashEntry) → Agrees config older cache → cache.nvm ≡ Some nvm → put_at key nvm.queue ≡ o → is_some o ≡ true → is_stray config.flash older key ≡ false
not_stray config older cache nvm key None g n e s = absurd cc
not_stray config older cache nvm key (Some put) g n e s =
    let p : Placed (linked_at key cache.memory.pools) (Some put) _ _ _ _ (entry_at config.flash older key) = rw (n, e) at (g.placed key) in
    let m = map_queued _ put _ _ _ _ _ p in
    let i = (queued_alone _ put _ _ _ _ _ p).0 in
    stray_by (entry_at config.flash older key) (count (is_linked key) (charges older)) (map_of put) m (unlinked i)
  where
    stray_by : (m : Option Entry) (n : ℕ) (x : Entry) → m ≡ Some x → n ≡ 0 → (not (is_some m) || nat_lt 0 n) ≡ false
    stray_by m n x em en = rw (em, en) refl

    none_of : (i : Option Item) → is_some i ≡ false → i ≡ None
    none_of None h = refl
    none_of (Some i) h = absurd cc

    unlinked : is_some (linked_at key cache.memory.pools) ≡ false → count (is_linked key) (charges older) ≡ 0
    unlinked i = linked_charges older (items_of cache.memory.pools) cache.memory.charges cache.memory.made key g.memory.charges ∙ none_counts key (items_of cache.memory.pools) (sym (linked-flat key cache.memory.pools) ∙ none_of _ i)

waits_by : (config : Config) (older : List Note) (cache : Cache) (flash : Option FlashConfig) (nvm : Option Nvm) → Agrees config older cache → cache.nvm ≡ nvm → FlashPart flash older cache.memory nvm → count (is_stray config.flash older) (waiting older) ≡ 0
waits_by config older cache None None g n f = rw f.no_waiting refl
waits_by config older cache None (Some nvm) g n f = absurd f
waits_by config older cache (Some flash) None g n f = absurd f
waits_by config older cache (Some flash) (Some nvm) g n f =
    let test = is_stray config.flash older in
    sym (tally-reverse (λ key. if test key then 1 else 0) (waiting older)) ∙ ap (count test) (sym f.waits.queue)
    ∙ none_stray test nvm.queue (λ key s. not_stray config older cache nvm key (put_at key nvm.queue) g n refl s)

linked_map : (o q : Option Item) (i : Item) (w x s l : Option FlashEntry) (b : Bool) (m : Option Entry) → o ≡ Some i → Placed o w x b s l m → m ≡ Some (map_of_item i)
linked_map o q i w x s l b m e h = grind arith

-- what holds between two steps
pub good_ends : (config : Config) (older : List Note) (cache : Cache) → Agrees config older cache → AtEnd config older
good_ends config older cache g =
    let t = g.memory.charges in
    let items = items_of cache.memory.pools in
    let f : List ℕ → Option Entry = λ key. entry_at config.flash older key in
    let test : Charge → ℕ = λ c. if c.linked && not (is_backed (f c.key) c) then 1 else 0 in
    let each = all_backed f items t.one_key (λ key i e. linked_map (linked_at key cache.memory.pools) None i _ _ _ _ _ _ (linked-flat key cache.memory.pools ∙ e) (g.placed key)) in
    record {
      backed = omega (arith, t.same test, each, no_sum (λ (o : Open). test (open_at o)) (λ o. refl) cache.memory.charges);
      single = λ key. omega (arith, linked_charges older items cache.memory.charges cache.memory.made key t, t.one_key key);
      waits = waits_by config older cache config.flash cache.nvm g refl g.flash;
    }

-- the log of a good run is legal
pub run_legal : (config : Config) (log : List Note) (world : World) → GoodRun config log world → Legal config log
run_legal config log world g = record { lawful = g.lawful; at_end = good_ends config (past [] log) world.cache g.good.agrees }
