-- What is known of the key of a fill that ends, and of the items that go for what it brings.
use Rattle.std.proofs.Common.{◌≡◌, ℕ, ◌+◌, ◌≤◌, ◌++◌, Bool, true, false, List, [], ◌∷◌, Option, Some, None, refl, sym, ap, ◌∙◌, subst, arith}
use mathlib.Core.Bool.{cond}
use Rattle.hc_types.specs.Tally.{count}
use Rattle.hc_types.proofs.Tallies.{tally-append}
use Rattle.hc_engines.specs.Engine.{Loss}
use Rattle.hc_memory.specs.Pool.{is_at}
use Rattle.hc_memory.specs.Memory.{Memory, linked_at, victims_of, after_room}
use Rattle.hc_memory.proofs.Keyed.{count-none}
use Rattle.hc_machine.specs.items.Items.{items_of}
use Rattle.hc_machine.proofs.items.Flat.{linked-flat}
use Rattle.hc_machine.specs.Nvm.{Nvm, Waiter, Fill, is_put_of, is_fill_of, fill_at, put_at, adds}
use Rattle.hc_machine.specs.Takes.{Filled, Taken, loss_notes}
use Rattle.hc_machine.specs.Cache.{Cache, Told, with_memory, unmarked_by, takes_in}
use Rattle.hc_machine.specs.Calls.{queue_of}
use Rattle.hc_invariant.specs.Tells.{waiters_of}
use Rattle.hc_invariant.specs.Structure.{Structured}
use Rattle.hc_proof.specs.structure.Parts.{Held, FewerFills, FewerWait}
use Rattle.hc_proof.specs.structure.Takes.{FilledSo, Leaves}
use Rattle.hc_proof.proofs.structure.Parts.{parts_of, whole_of, same_items, same_puts, held_less}
use Rattle.hc_proof.proofs.structure.Pieces.{held_marks, unmarked_flash}
use Rattle.hc_proof.proofs.structure.Rooms.{evicted_waits}
use Rattle.hc_state.specs.allocate.Evict.{NoneWaits}
use Rattle.hc_state.specs.fill.Link.{all_marked_by}
use Rattle.hc_state.proofs.allocate.Evicts.{all_leave-memory}
use Rattle.hc_state.proofs.fill.Filled.{victims-marks}

-- ---- its key

some_counted : (key : List ℕ) (fills : List Fill) (fill : Fill) → fill_at key fills ≡ Some fill → 1 ≤ count (is_fill_of key) fills
some_counted key [] fill there = absurd cc
some_counted key (first ∷ fills) fill there = by (is_fill_of key first) there (some_counted key fills fill)
  where
    by : (b : Bool) → cond b (Some first) (fill_at key fills) ≡ Some fill → (fill_at key fills ≡ Some fill → 1 ≤ count (is_fill_of key) fills) → 1 ≤ cond b 1 0 + count (is_fill_of key) fills
    by true is more = omega arith
    by false is more = omega (arith, more is)

-- no item is linked under it
pub fill-bare : (key : List ℕ) (cache : Cache) (nvm : Nvm) (fill : Fill) → cache.nvm ≡ Some nvm → fill_at key nvm.fills ≡ Some fill → Structured cache → linked_at key cache.memory.pools ≡ None
fill-bare key cache nvm fill is there s =
    let place : count (is_at key) (items_of cache.memory.pools) + (count (is_put_of key) nvm.queue + count (is_fill_of key) nvm.fills) ≤ 1 = (subst (λ o. Structured (record cache { nvm = o })) is s).one_place key in
    linked-flat key cache.memory.pools ∙ count-none key (items_of cache.memory.pools) (omega (arith, place, some_counted key nvm.fills fill there))

-- ---- as flash tells

-- fewer fills are left, and no call comes to wait
fills_left : (old new : List Fill) (filled : Option Filled) → FilledSo old new filled → FewerFills old new × FewerWait old new
fills_left old new None so = so
fills_left old new (Some filled) so =
    let sum = λ (n : ℕ). tally-append (λ (w : Waiter). cond (adds n w) 1 0) filled.waiters (waiters_of new) in (
      λ key. omega (arith, so.1.fills key),
      record { wishes = λ memory wishes. (so.1.wait.wishes memory wishes).1; adds = λ n. omega (arith, so.1.wait.adds n, sum n) },
    )

-- the cache is sound once flash told what it takes, before what it brings is linked
pub told-structured : (cache : Cache) (nvm : Nvm) (taken : Taken) → Leaves nvm taken → cache.nvm ≡ Some nvm → Structured cache → Structured (takes_in taken.part taken.nvm cache).cache
told-structured cache nvm taken leaves is s =
    let memory = unmarked_by taken.part cache.memory in
    let items = items_of memory.pools in
    let held : Held memory items taken.nvm.queue nvm.fills nvm.fills = held_marks taken.part cache.memory nvm.queue taken.nvm.queue nvm.fills nvm.fills leaves.puts (parts_of cache.memory (Some nvm) (subst (λ o. Structured (record cache { nvm = o })) is s)).0 in
    let left = fills_left nvm.fills taken.nvm.fills taken.filled leaves.fills in
    whole_of memory (Some taken.nvm) (
      held_less memory memory items items taken.nvm.queue taken.nvm.queue nvm.fills taken.nvm.fills nvm.fills taken.nvm.fills (record { charges = refl; made = refl }) (same_items items) (same_puts taken.nvm.queue) left.0 left.1 held,
      leaves.beside,
      unmarked_flash taken.part cache.memory ∙ (subst (λ o. Structured (record cache { nvm = o })) is s).flash ∙ ap Some (sym leaves.flash),
    )

-- no key of an item that goes waits for flash when it leaves, though the pools have linked what comes already
pub told-absent : (cache : Cache) (nvm : Nvm) (taken : Taken) (losses : List Loss) (memory : Memory) (pool want : ℕ) → Leaves nvm taken → cache.nvm ≡ Some nvm → Structured cache → ((m : Memory) → unmarked_by taken.part m ≡ unmarked_by (loss_notes losses) m)
    → NoneWaits pool want (all_marked_by cache.memory.flash losses (victims_of cache.memory pool want)) (takes_in taken.part taken.nvm (with_memory memory cache)).cache
told-absent cache nvm taken losses memory pool want leaves is s same = λ gone left item parts.
    let told = (takes_in taken.part taken.nvm cache).cache in
    let victims : victims_of told.memory pool want ≡ gone ++ item ∷ left = ap (λ (m : Memory). victims_of m pool want) (same cache.memory) ∙ victims-marks losses cache.memory pool want ∙ parts in
    let queued = λ (t : Told). put_at item.key (queue_of t.cache.nvm) in
    ap queued (all_leave-memory (unmarked_by taken.part memory) pool want gone told)
    ∙ sym (ap queued (all_leave-memory (after_room told.memory pool want) pool want gone told))
    ∙ evicted_waits told pool want gone left item (told-structured cache nvm taken leaves is s) victims
