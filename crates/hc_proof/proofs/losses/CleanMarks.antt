-- What losses leave of the clean marks, over all pools.
use Rattle.std.proofs.Common.{◌≡◌, ℕ, Bool, true, false, ◌||◌, List, [], ◌∷◌, ◌++◌, map, Option, Some, None, refl, ap, sym, ◌∙◌}
use Rattle.std.specs.Prelude.{if◌then◌else◌}
use Rattle.std.proofs.lemmas.List.{length-map}
use Rattle.hc_types.specs.Loss.{Scope}
use Rattle.hc_types.specs.declared.config.FlashConfig.{FlashConfig}
use Rattle.hc_engines.specs.Engine.{Loss}
use Rattle.hc_memory.specs.Item.{Item}
use Rattle.hc_memory.specs.Pool.{Pool, is_at, item_at, unmarked_where}
use Rattle.hc_memory.specs.Memory.{Memory, linked_at, all_unmarked, after_unmark}
use Rattle.hc_memory.proofs.Keyed.{same_bytes}
use Rattle.hc_memory.proofs.Unmarking.{sound-all, shrinks-unmarked}
use Rattle.hc_machine.specs.items.Items.{items_of}
use Rattle.hc_machine.proofs.items.Flat.{linked-flat}
use Rattle.hc_history.specs.Note.{Note, Lose}
use Rattle.hc_machine.specs.Nvm.{Waiter}
use Rattle.hc_machine.specs.Cache.{unmarked_by}
use Rattle.hc_invariant.specs.Jobs.{AllWish}
use Rattle.hc_invariant.proofs.Losses.{covers_item, linked-unmarked}
use Rattle.hc_invariant.proofs.Lookups as one_loss
use Rattle.hc_proof.specs.losses.Losses.{unmarked, covered_item, unmarked_if, covered_some, IsOwnItem, ItemsAfterLosses, SameButMarks, LossesKeepMemory}
use Rattle.hc_proof.proofs.frames.Unmarks.{charges_unmarked}

-- ---- the item of a key

marked_step : (flash : Option FlashConfig) (one : Loss) (losses : List Loss) (i : Item) (t : Bool) → covers_item flash one.scope i ≡ t
    → unmarked_if (covered_some flash losses (Some (if t then record i { clean = false } else i))) (Some (if t then record i { clean = false } else i)) ≡ unmarked_if (t || covered_item flash losses i) (Some i)
marked_step flash one losses i true e = both (covered_item flash losses i)
  where
    both : (g : Bool) → unmarked_if g (Some (record i { clean = false })) ≡ unmarked_if true (Some i)
    both true = refl
    both false = refl
marked_step flash one losses i false e = refl

marked_of : (flash : Option FlashConfig) (one : Loss) (losses : List Loss) (o : Option Item)
    → unmarked_if (covered_some flash losses (one_loss.unmarked_if (covers_item flash one.scope) o)) (one_loss.unmarked_if (covers_item flash one.scope) o) ≡ unmarked_if (covered_some flash (one ∷ losses) o) o
marked_of flash one losses None = refl
marked_of flash one losses (Some i) = marked_step flash one losses i (covers_item flash one.scope i) refl

unmarked_none : (flash : Option FlashConfig) (o : Option Item) → o ≡ unmarked_if (covered_some flash [] o) o
unmarked_none flash None = refl
unmarked_none flash (Some i) = refl

pub items_lost : ItemsAfterLosses
items_lost [] memory key = unmarked_none memory.flash (linked_at key memory.pools)
items_lost (one ∷ losses) memory key =
    items_lost losses (after_unmark memory one.scope) key
    ∙ ap (λ (o : Option Item). unmarked_if (covered_some memory.flash losses o) o) (linked-unmarked memory.flash one.scope key memory.pools)
    ∙ marked_of memory.flash one losses (linked_at key memory.pools)

-- ---- all else

sizes-map : (f : Pool → Pool) → ((pool : Pool) → (f pool).size ≡ pool.size) → (pools : List Pool) → map (λ (pool : Pool). pool.size) (map f pools) ≡ map (λ (pool : Pool). pool.size) pools
sizes-map f same [] = refl
sizes-map f same (pool ∷ pools) = λ i. same pool i ∷ sizes-map f same pools i

pub wishes-marks : (memory : Memory) (scope : Scope) (key : List ℕ) (waiters : List Waiter) → AllWish memory key waiters → AllWish (after_unmark memory scope) key waiters
wishes-marks memory scope key waiters h = h

unlinked-marks : (flash : Option FlashConfig) (scope : Scope) (key : List ℕ) (pools : List Pool) → linked_at key pools ≡ None → linked_at key (all_unmarked flash scope pools) ≡ None
unlinked-marks flash scope key pools h = linked-unmarked flash scope key pools ∙ ap (one_loss.unmarked_if (covers_item flash scope)) h

one_step : (memory : Memory) (scope : Scope) → SameButMarks memory (after_unmark memory scope)
one_step memory scope = record {
  flash = refl;
  charges = refl;
  made = refl;
  sizes = sizes-map (λ (pool : Pool). record pool { items = unmarked_where (covers_item memory.flash scope) pool.items }) (λ pool. refl) memory.pools;
  number = length-map memory.pools (λ (pool : Pool). record pool { items = unmarked_where (covers_item memory.flash scope) pool.items });
  sound = λ s. sound-all (λ (pool : Pool). record pool { items = unmarked_where (covers_item memory.flash scope) pool.items }) memory.pools memory.charges memory.made s (shrinks-unmarked (covers_item memory.flash scope));
  tells = λ older t. charges_unmarked older memory.flash scope memory.pools memory.charges memory.made t;
  unlinked = λ key h. unlinked-marks memory.flash scope key memory.pools h;
  wishes = λ key waiters h. wishes-marks memory scope key waiters h;
}

pub same_marks : (memory : Memory) → SameButMarks memory memory
same_marks memory = record { flash = refl; charges = refl; made = refl; sizes = refl; number = refl; sound = λ s. s; tells = λ older t. t; unlinked = λ key h. h; wishes = λ key waiters h. h }

pub both_marks : (a b c : Memory) → SameButMarks a b → SameButMarks b c → SameButMarks a c
both_marks a b c p q = record {
  flash = q.flash ∙ p.flash;
  charges = q.charges ∙ p.charges;
  made = q.made ∙ p.made;
  sizes = q.sizes ∙ p.sizes;
  number = q.number ∙ p.number;
  sound = λ s. q.sound (p.sound s);
  tells = λ older t. q.tells older (p.tells older t);
  unlinked = λ key h. q.unlinked key (p.unlinked key h);
  wishes = λ key waiters h. q.wishes key waiters (p.wishes key waiters h);
}

pub memory_kept : LossesKeepMemory
memory_kept [] memory = same_marks memory
memory_kept (one ∷ losses) memory = both_marks memory (after_unmark memory one.scope) (unmarked losses (after_unmark memory one.scope)) (one_step memory one.scope) (memory_kept losses (after_unmark memory one.scope))

-- ---- parts that tell more than losses

pub unmarked-append : (one two : List Note) (memory : Memory) → unmarked_by (one ++ two) memory ≡ unmarked_by two (unmarked_by one memory)
unmarked-append [] two memory = refl
unmarked-append (Lose scope cause ∷ one) two memory = unmarked-append one two (after_unmark memory scope)
unmarked-append (note ∷ one) two memory = unmarked-append one two memory

-- ---- an item has its key

own_step : (key : List ℕ) (x : Item) (o : Option Item) (t : Bool) → is_at key x ≡ t → IsOwnItem key o → IsOwnItem key (if t then Some x else o)
own_step key x o true e h = sym (same_bytes key x.key e)
own_step key x o false e h = h

own-item : (key : List ℕ) (items : List Item) → IsOwnItem key (item_at key items)
own-item key [] = tt
own-item key (x ∷ items) = own_step key x (item_at key items) (is_at key x) refl (own-item key items)

pub own-linked : (key : List ℕ) (pools : List Pool) → IsOwnItem key (linked_at key pools)
own-linked key pools = rw (linked-flat key pools) (own-item key (items_of pools))
