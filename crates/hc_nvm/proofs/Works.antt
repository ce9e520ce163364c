-- A take that finds something to do isn't idle, and one that finds nothing is.
use Rattle.std.proofs.Common.{◌≡◌, ℕ, ◌+◌, Bool, true, false, List, [], ◌∷◌, ◌&&◌, ◌||◌, Option, Some, None, refl, sym, ap, ◌∙◌, subst}
use Rattle.std.specs.Prelude.{is_some, not, length, option_map, if◌then◌else◌}
use Rattle.hc_types.specs.Places.{is_small_by}
use Rattle.hc_types.specs.FlashEntry.{FlashEntry}
use Rattle.hc_engines.specs.Engine.{Op, Put, Get, Delete, Flush, Order, Outcome, nothing, Next, Busy, Io, Done}
use Rattle.hc_engines.specs.large.Steps as steps
use Rattle.hc_engines.specs.small.BigHash as bighash
use Rattle.hc_engines.specs.pair.Pair.{Pair, Moved, start, is_busy_for, by_large, by_small, after_losses, next_of}
use Rattle.hc_engines.proofs.pair.Waiting.{busy_is_true}
use Rattle.hc_machine.specs.Nvm.{Nvm, Tombstone, Fill, Task, Putting, Deleting, Filling, Flushing, next_delete, next_put, next_fill, without_put, taken_stone, taken_fill}
use Rattle.hc_machine.specs.Leaving.{Changed}
use Rattle.hc_machine.specs.Takes.{Finished, fill_out, finished, settled, launched, launch, take_sized, take_put, take_delete, take_flush, take_page, take_fill, writer_take, filler_take}
use Rattle.hc_pair.specs.Found.{is_io}
use Rattle.hc_nvm.specs.Seen.{finds_work}
use Rattle.hc_nvm.proofs.Fetched.{passes, not_put_off}

-- ---- an operation that isn't put off

ended_works : (task : Task) (number : ℕ) (outcome : Outcome) (change : Changed) → finds_work (finished task number outcome.answer change).take ≡ true
ended_works (Putting key) number outcome change = refl
ended_works (Deleting key) number outcome change = refl
ended_works Flushing number outcome change = refl
ended_works Filling number outcome change = out _
  where
    out : (o : Option Fill) → finds_work (fill_out o outcome.answer change).take ≡ true
    out None = refl
    out (Some fill) = refl

launched_works : (task : Task) (next : Next) (nvm : Nvm) → (next ≡ Busy → ⊥) → finds_work (launched task next nvm).take ≡ true
launched_works task Busy nvm free = absurd (free refl)
launched_works task (Io order outcome) nvm free = refl
launched_works task (Done outcome) nvm free = ended_works task (nvm.made + 1) outcome (settled task outcome nvm)

not_busy : (a b : Bool) → (a && not b) ≡ true → b ≡ true → ⊥
not_busy true true h on = absurd cc
not_busy true false h on = absurd cc
not_busy false b h on = absurd cc

-- ---- the writer

delete_works : (nvm : Nvm) (stone : Tombstone) → next_delete nvm ≡ Some stone → finds_work (take_delete (Some stone) nvm).take ≡ true
delete_works nvm stone chosen =
    launched_works (Deleting stone.key) (start (nvm.made + 1) (Delete stone.key) nvm.pair).next (record nvm { tombstones = taken_stone stone.key nvm.tombstones; pair = (start (nvm.made + 1) (Delete stone.key) nvm.pair).pair })
    (λ busy. not_busy (not stone.taken) (is_busy_for nvm.pair stone.key) (passes _ nvm.tombstones stone chosen) ((busy_is_true nvm.pair).0 (nvm.made + 1) (Delete stone.key) busy))

next_goes : (outcome : Outcome) (o : Option Order) → next_of outcome o ≡ Busy → ⊥
next_goes outcome None h = cc
next_goes outcome (Some order) h = cc

-- a large put is over at once, whatever job is on its bucket
large_goes : (pair : Pair) (number : ℕ) (put : FlashEntry) → is_small_by pair.small.flash put.key (length put.value) ≡ false → (start number (Put put) pair).next ≡ Busy → ⊥
large_goes pair number put large busy = next_goes _ _ (rw large at busy)

put_works : (nvm : Nvm) (put : FlashEntry) → next_put nvm ≡ Some put → finds_work (take_put (Some put) nvm).take ≡ true
put_works nvm put chosen = go (is_small_by nvm.pair.small.flash put.key (length put.value)) refl (passes _ nvm.queue put chosen)
  where
    left : Nvm
    left = record nvm { queue = without_put put.key nvm.queue }

    either : (b : Bool) → (not true || not b) ≡ true → b ≡ true → ⊥
    either true h on = absurd cc
    either false h on = absurd cc

    go : (small : Bool) → is_small_by nvm.pair.small.flash put.key (length put.value) ≡ small → (not small || not (is_busy_for nvm.pair put.key)) ≡ true → finds_work (take_sized small put left).take ≡ true
    go true s h = launched_works (Putting put.key) (start (nvm.made + 1) (Put put) nvm.pair).next (record left { pair = (start (nvm.made + 1) (Put put) nvm.pair).pair }) (λ busy. either (is_busy_for nvm.pair put.key) h ((busy_is_true nvm.pair).0 (nvm.made + 1) (Put put) busy))
    go false s h = launched_works Flushing (start (nvm.made + 1) (Put put) nvm.pair).next (record left { pair = (start (nvm.made + 1) (Put put) nvm.pair).pair }) (large_goes nvm.pair (nvm.made + 1) put s)

put_or_idle : (nvm : Nvm) → is_some (next_put nvm) ≡ finds_work (take_put (next_put nvm) nvm).take
put_or_idle nvm = go (next_put nvm) refl
  where
    go : (o : Option FlashEntry) → next_put nvm ≡ o → is_some o ≡ finds_work (take_put o nvm).take
    go None e = refl
    go (Some put) e = sym (put_works nvm put e)

no_flush : (nvm : Nvm) → start (nvm.made + 1) Flush nvm.pair ≡ record { pair = nvm.pair; next = Done nothing } → writer_take nvm ≡ take_delete (next_delete nvm) nvm
no_flush nvm e = ap (λ (m : Moved). take_page m nvm) e

-- none does, and it is the turn of a delete
pub writer_deletes : (nvm : Nvm) → start (nvm.made + 1) Flush nvm.pair ≡ record { pair = nvm.pair; next = Done nothing } → is_some (next_delete nvm) ≡ true → true ≡ finds_work (writer_take nvm).take
writer_deletes nvm e there = rw (no_flush nvm e) (go (next_delete nvm) refl there)
  where
    go : (o : Option Tombstone) → next_delete nvm ≡ o → is_some o ≡ true → true ≡ finds_work (take_delete o nvm).take
    go None e there = absurd cc
    go (Some stone) e there = sym (delete_works nvm stone e)

-- none can be served, and it is the turn of a put
pub writer_puts : (nvm : Nvm) → start (nvm.made + 1) Flush nvm.pair ≡ record { pair = nvm.pair; next = Done nothing } → is_some (next_delete nvm) ≡ false → is_some (next_put nvm) ≡ finds_work (writer_take nvm).take
writer_puts nvm e none = rw (no_flush nvm e) (go (next_delete nvm) none)
  where
    go : (o : Option Tombstone) → is_some o ≡ false → is_some (next_put nvm) ≡ finds_work (take_delete o nvm).take
    go None none = put_or_idle nvm
    go (Some stone) none = absurd cc

-- ---- the filler

filler_works : (nvm : Nvm) → is_some (next_fill nvm) ≡ finds_work (filler_take nvm).take
filler_works nvm = go (next_fill nvm) refl
  where
    go : (o : Option Fill) → next_fill nvm ≡ o → is_some o ≡ finds_work (take_fill o nvm).take
    go None e = refl
    go (Some fill) e =
        sym (launched_works Filling (start (nvm.made + 1) (Get fill.key) nvm.pair).next (record nvm { fills = taken_fill fill.key (nvm.made + 1) nvm.fills; pair = (start (nvm.made + 1) (Get fill.key) nvm.pair).pair })
        (not_put_off nvm fill (nvm.made + 1) fill.key e refl))

-- the key of one that can be served was answered
pub filler_there : (nvm : Nvm) (key : List ℕ) → Some key ≡ option_map (λ (fill : Fill). fill.key) (next_fill nvm) → true ≡ finds_work (filler_take nvm).take
filler_there nvm key next = go (next_fill nvm) next (filler_works nvm)
  where
    go : (o : Option Fill) → Some key ≡ option_map (λ (fill : Fill). fill.key) o → is_some o ≡ finds_work (filler_take nvm).take → true ≡ finds_work (filler_take nvm).take
    go None next works = absurd cc
    go (Some fill) next works = works
