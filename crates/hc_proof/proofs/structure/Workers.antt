-- The steps of workers.
use Rattle.std.proofs.Common.{◌≡◌, ℕ, ◌+◌, Bool, true, false, List, [], ◌∷◌, length, map, Option, Some, None, refl, ap, sym, ◌∙◌, arith, cond, subst}
use Rattle.std.specs.Prelude.{if◌then◌else◌}
use Rattle.std.specs.Str.{bytes_eq}
use Rattle.hc_types.specs.Tally.{tally, count}
use Rattle.hc_types.proofs.Tallies.{tally-append}
use Rattle.hc_types.specs.FlashEntry.{FlashEntry}
use Rattle.hc_types.specs.declared.config.PoolSize.{PoolSize}
use Rattle.hc_types.specs.declared.config.FlashConfig.{FlashConfig}
use Rattle.hc_memory.specs.Item.{Item, charge_by}
use Rattle.hc_memory.specs.Pool.{is_at}
use Rattle.hc_memory.specs.Charges.{has_number, is_open}
use Rattle.hc_memory.specs.Memory.{Memory, empty_pool}
use Rattle.hc_machine.specs.items.Items.{items_of, item_has}
use Rattle.hc_machine.proofs.items.Items.{bytes_eq-refl}
use Rattle.hc_machine.specs.Nvm.{Nvm, Wish, ToFind, ToAdd, Waiter, Fill, is_put_of, is_fill_of, adds}
use Rattle.hc_machine.specs.Cache.{Cache, tells, and_then, on_flash_of, new_cache, unmarked_by}
use Rattle.hc_machine.specs.Evicting.{make_charge, handle_for}
use Rattle.hc_machine.specs.Takes as flash
use Rattle.hc_machine.specs.Takes.{Filled, Taken}
use Rattle.hc_machine.specs.Workers.{can_link, link_clean, bring, fill, after_take, take_on, reclaim_on, after_finish, finish_on}
use Rattle.hc_machine.specs.Calls.{queue_of}
use Rattle.hc_invariant.specs.Tells.{waiters_of}
use Rattle.hc_invariant.specs.Jobs.{WishHolds, AllWish, AllWishes}
use Rattle.hc_invariant.specs.Good.{fills_of}
use Rattle.hc_invariant.specs.Structure.{Structured}
use Rattle.hc_proof.specs.calls.Serving.{ghost}
use Rattle.hc_proof.proofs.evicting.LinkedClean.{last_open, not_it}
use Rattle.hc_proof.specs.structure.Parts.{Held, Stands, all_of}
use Rattle.hc_proof.specs.structure.Takes.{EntryIsOf, FilledSo, Leaves}
use Rattle.hc_proof.specs.structure.Steps.{NewIsStructured, WriterIsStructured, FillerIsStructured, ReclaimIsStructured, FinishIsStructured}
use Rattle.hc_proof.proofs.structure.Parts.{parts_of, whole_of, next_open, same_items, same_puts, held_less}
use Rattle.hc_proof.proofs.structure.Pieces.{held_marks, flash_passes, link_stands, unmarked_flash}
use Rattle.hc_proof.proofs.structure.Serving.{stands_less, serve_stands}
use Rattle.hc_proof.proofs.structure.Rooms.{charge_stands}
use Rattle.hc_proof.proofs.structure.Takes.{writer_leaves, filler_leaves, finish_leaves, reclaim_calm}

-- ---- what a fill brings

-- no add that waits keeps a charge that isn't open
unkept_wish : (memory : Memory) (n : ℕ) (key : List ℕ) (call : ℕ) (wish : Wish) → count (has_number n) memory.charges ≡ 0 → WishHolds memory key wish → adds n (record { call = call; wish = wish }) ≡ false
unkept_wish memory n key call ToFind none h = refl
unkept_wish memory n key call (ToAdd handle) none h = not_it memory.charges (charge_by handle) n none h.1

unkept_all : (memory : Memory) (n : ℕ) (key : List ℕ) (ws : List Waiter) → count (has_number n) memory.charges ≡ 0 → AllWish memory key ws → count (adds n) ws ≡ 0
unkept_all memory n key [] none h = refl
unkept_all memory n key (w ∷ ws) none h = omega (arith, unkept_all memory n key ws none h.1, ap {B = ℕ} (λ b. cond b 1 0) (unkept_wish memory n key w.call w.wish none h.0))

unkept_fills : (memory : Memory) (n : ℕ) (fills : List Fill) → count (has_number n) memory.charges ≡ 0 → AllWishes memory fills → count (adds n) (waiters_of fills) ≡ 0
unkept_fills memory n [] none h = refl
unkept_fills memory n (fill ∷ fills) none h = omega (arith, tally-append (λ (w : Waiter). cond (adds n w) 1 0) fill.waiters (waiters_of fills), unkept_all memory n fill.key fill.waiters none h.0, unkept_fills memory n fills none h.1)

-- the key of a fill that has left stands nowhere else
abbrev with_ghost : List ℕ → List Waiter → List Fill → List Fill
with_ghost key ws fills = ghost key ws ∷ fills

record Brought (before after : Cache) (key : List ℕ) (ws : List Waiter) : Type 0 where
  stands : Stands after all_of (ghost key ws ∷ [])
  fills : fills_of after.nvm ≡ fills_of before.nvm

none_brought : (key : List ℕ) (ws : List Waiter) (cache : Cache) → Stands cache (with_ghost key ws) (ghost key ws ∷ []) → Brought cache cache key ws
none_brought key ws cache h = record {
  stands = stands_less cache (with_ghost key ws) all_of (ghost key ws ∷ []) (ghost key ws ∷ []) (λ k. omega arith) (record { wishes = λ memory w. w; adds = λ n. omega arith }) h;
  fills = refl;
}

one_ghost : (key : List ℕ) → ◌≡◌ {A = ℕ} (cond (bytes_eq key key) 1 0) 1
one_ghost key = ap {B = ℕ} (λ b. cond b 1 0) (bytes_eq-refl key)

linked_brought : (key : List ℕ) (ws : List Waiter) (entry : FlashEntry) (cache : Cache) → entry.key ≡ key → Stands cache (with_ghost key ws) (ghost key ws ∷ [])
    → Brought cache (and_then (make_charge entry.pool entry.key (length entry.value) cache) (link_clean (handle_for cache entry.pool entry.key entry.value entry.expiry))).cache key ws
linked_brought key ws entry cache own h =
    let size = length entry.value in
    let handle = handle_for cache entry.pool entry.key entry.value entry.expiry in
    let c = (make_charge entry.pool entry.key size cache).cache in
    let charged = charge_stands entry.pool entry.key size cache (with_ghost key ws) (ghost key ws ∷ []) h in
    let free = next_open cache.memory (items_of cache.memory.pools) (queue_of cache.nvm) (with_ghost key ws (fills_of cache.nvm)) (ghost key ws ∷ fills_of cache.nvm) h.0 in
    let is_there : is_open (charge_by handle) c.memory.charges ≡ true = ap (λ (m : Memory). is_open (charge_by handle) m.charges) charged.memory ∙ last_open cache.memory.charges (charge_by handle) free in
    let no_add : count (adds handle.number) (waiters_of (ghost key ws ∷ fills_of c.nvm)) ≡ 0 =
    subst (λ (fills : List Fill). count (adds handle.number) (waiters_of (ghost key ws ∷ fills)) ≡ 0) (sym charged.fills) (unkept_fills cache.memory handle.number (ghost key ws ∷ fills_of cache.nvm) free h.0.wishes) in
    let at_key : count (is_put_of key) (queue_of c.nvm) + count (is_fill_of key) (fills_of c.nvm) ≡ 0 = omega (arith, charged.stands.0.one_place key, one_ghost key) in
    let nowhere : count (is_put_of handle.key) (queue_of c.nvm) + count (is_fill_of handle.key) (fills_of c.nvm) ≡ 0 = subst (λ (k : List ℕ). count (is_put_of k) (queue_of c.nvm) + count (is_fill_of k) (fills_of c.nvm) ≡ 0) (sym own) at_key in
    record { stands = link_stands handle true c all_of (ghost key ws ∷ []) is_there no_add nowhere (none_brought key ws c charged.stands).stands; fills = charged.fills }

brought : (key : List ℕ) (ws : List Waiter) (entry : Option FlashEntry) (cache : Cache) → EntryIsOf key entry → Stands cache (with_ghost key ws) (ghost key ws ∷ []) → Brought cache (bring entry cache).cache key ws
brought key ws None cache own h = none_brought key ws cache h
brought key ws (Some entry) cache own h = by (can_link cache entry)
  where
    by : (b : Bool) → Brought cache (if b then and_then (make_charge entry.pool entry.key (length entry.value) cache) (link_clean (handle_for cache entry.pool entry.key entry.value entry.expiry)) else tells [] cache).cache key ws
    by true = linked_brought key ws entry cache own h
    by false = none_brought key ws cache h

-- ---- a take

worked : (cache : Cache) (nvm : Nvm) (taken : Taken) → Leaves nvm taken → Structured (record cache { nvm = Some nvm }) → Structured (after_take taken (record cache { nvm = Some nvm })).cache
worked cache nvm taken l s = by taken.filled l.fills
  where
    taken_in : Cache
    taken_in = record cache { memory = unmarked_by taken.part cache.memory; nvm = Some taken.nvm }

    memory : Memory
    memory = unmarked_by taken.part cache.memory

    items : List Item
    items = items_of memory.pools

    held : Held memory items taken.nvm.queue nvm.fills nvm.fills
    held = held_marks taken.part cache.memory nvm.queue taken.nvm.queue nvm.fills nvm.fills l.puts (parts_of cache.memory (Some nvm) s).0

    same_flash : memory.flash ≡ Some taken.nvm.pair.small.flash
    same_flash = unmarked_flash taken.part cache.memory ∙ s.flash ∙ ap Some (sym l.flash)

    by : (filled : Option Filled) → FilledSo nvm.fills taken.nvm.fills filled → Structured (fill filled taken_in).cache
    by None h = whole_of memory (Some taken.nvm) (
      held_less memory memory items items taken.nvm.queue taken.nvm.queue nvm.fills taken.nvm.fills nvm.fills taken.nvm.fills (record { charges = refl; made = refl }) (same_items items) (same_puts taken.nvm.queue) h.0 h.1 held,
      l.beside,
      same_flash,
    )
    by (Some filled) h =
        let key = h.0 in
        let ws = filled.waiters in
        let ghosts = ghost key ws ∷ taken.nvm.fills in
        let less = held_less memory memory items items taken.nvm.queue taken.nvm.queue nvm.fills ghosts nvm.fills ghosts (record { charges = refl; made = refl }) (same_items items) (same_puts taken.nvm.queue) h.1.fills h.1.wait held in
        let b = brought key ws filled.entry taken_in h.1.own (less, l.beside, same_flash) in
        let c = (bring filled.entry taken_in).cache in
        let stands = serve_stands key ws filled.entry c (subst (λ (fills : List Fill). count (is_fill_of key) fills ≡ 0) (sym b.fills) h.1.gone) b.stands in
        whole_of _ _ stands

-- ---- the steps

pub writes : WriterIsStructured
writes cache s = by cache.nvm s
  where
    by : (nvm : Option Nvm) → Structured (record cache { nvm = nvm }) → Structured (take_on nvm flash.writer_take (record cache { nvm = nvm })).cache
    by None s = s
    by (Some nvm) s = worked cache nvm (flash.writer_take nvm) (writer_leaves nvm (parts_of cache.memory (Some nvm) s).1) s

pub fills : FillerIsStructured
fills cache s = by cache.nvm s
  where
    by : (nvm : Option Nvm) → Structured (record cache { nvm = nvm }) → Structured (take_on nvm flash.filler_take (record cache { nvm = nvm })).cache
    by None s = s
    by (Some nvm) s = worked cache nvm (flash.filler_take nvm) (filler_leaves nvm (λ key. omega (arith, s.one_place key)) (parts_of cache.memory (Some nvm) s).1) s

pub reclaims : ReclaimIsStructured
reclaims cache s = by cache.nvm s
  where
    passes : (nvm : Option Nvm) → Structured (record cache { nvm = nvm }) → Structured (on_flash_of nvm (λ n. (flash.reclaim n).change) (record cache { nvm = nvm })).cache
    passes nvm s = whole_of _ _ ((flash_passes (λ n. (flash.reclaim n).change) reclaim_calm (record cache { nvm = nvm })).stands all_of [] (parts_of cache.memory nvm s))

    by : (nvm : Option Nvm) → Structured (record cache { nvm = nvm }) → Structured (reclaim_on nvm (record cache { nvm = nvm })).cache
    by None s = s
    by (Some nvm) s = passes (Some nvm) s

pub finishes : FinishIsStructured
finishes cache number result s = by cache.nvm s
  where
    at : (nvm : Nvm) (o : Option Taken) → flash.finish number result nvm ≡ o → Structured (record cache { nvm = Some nvm }) → Structured (after_finish o (record cache { nvm = Some nvm })).cache
    at nvm None e s = s
    at nvm (Some taken) e s = worked cache nvm taken (finish_leaves nvm number result taken (parts_of cache.memory (Some nvm) s).1 e) s

    by : (nvm : Option Nvm) → Structured (record cache { nvm = nvm }) → Structured (finish_on nvm number result (record cache { nvm = nvm })).cache
    by None s = s
    by (Some nvm) s = at nvm (flash.finish number result nvm) refl s

-- ---- a new cache

no_items : (sizes : List PoolSize) → items_of (map empty_pool sizes) ≡ []
no_items [] = refl
no_items (size ∷ sizes) = no_items sizes

pub begins : NewIsStructured
begins config = by config.flash
  where
    none : (f : Item → ℕ) → tally f (items_of (map empty_pool config.pools)) ≡ 0
    none f = ap (tally f) (no_items config.pools)

    by : (flash : Option FlashConfig) → Structured (new_cache (record config { flash = flash }))
    by None = record {
      one_place = λ key. omega (arith, none (λ i. cond (is_at key i) 1 0));
      one_number = λ n. omega (arith, none (λ i. cond (item_has n i) 1 0));
      fresh = λ n lt. omega (arith, none (λ i. cond (item_has n i) 1 0));
      wishes = tt;
      one_add = λ n. omega arith;
      one_stone = λ key. omega arith;
      jobs = tt;
      flash = refl;
    }
    by (Some flash) = record {
      one_place = λ key. omega (arith, none (λ i. cond (is_at key i) 1 0));
      one_number = λ n. omega (arith, none (λ i. cond (item_has n i) 1 0));
      fresh = λ n lt. omega (arith, none (λ i. cond (item_has n i) 1 0));
      wishes = tt;
      one_add = λ n. omega arith;
      one_stone = λ key. omega arith;
      jobs = record { one_job = λ n. omega arith; one_each = λ n. omega arith; fresh = λ n lt. refl; asks = tt; large = record { current = λ r e. absurd cc; places = λ hash place e. absurd cc } };
      flash = refl;
    }
