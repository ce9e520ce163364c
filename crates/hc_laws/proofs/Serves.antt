-- The takes serve the first piece that can be served.
use Rattle.std.proofs.Common.{◌≡◌, ◌≢◌, ℕ, ◌+◌, Bool, true, false, not, ◌&&◌, ◌||◌, [], length, Option, Some, None, refl, ap, sym, ◌∙◌, subst}
use Rattle.std.specs.Prelude.{is_some}
use Rattle.hc_types.specs.Places.{is_small_by}
use Rattle.hc_types.specs.FlashEntry.{FlashEntry}
use Rattle.hc_engines.specs.Engine as engine
use Rattle.hc_engines.specs.Engine.{Op, Put, Get, Delete, Order, Outcome, Next, Busy, Io, Done}
use Rattle.hc_engines.specs.small.BigHash.{key_of}
use Rattle.hc_engines.specs.large.Block as block
use Rattle.hc_engines.specs.large.Choices.{Mark, flushed_by}
use Rattle.hc_engines.specs.pair.Pair.{Pair, by_large, next_of, is_busy_for, start}
use Rattle.hc_engines.proofs.large.Choices.{flush_by_choice}
use Rattle.hc_engines.proofs.pair.Waiting.{busy_is_true}
use Rattle.hc_machine.specs.Nvm.{Nvm, Tombstone, Fill, Task, Putting, Deleting, Filling, Flushing, next_put, next_delete, next_fill, fill_by, taken_stone, taken_fill, without_put}
use Rattle.hc_machine.specs.Leaving.{Changed}
use Rattle.hc_machine.specs.Takes as takes
use Rattle.hc_machine.specs.Takes.{Take, Idle, Taken, idle, fill_out, ends, settled, launched, launch, take_sized, take_put, take_delete, take_page, take_fill}
use Rattle.hc_machine.specs.Cache.{Cache, Moved, Answer, Took, stays}
use Rattle.hc_machine.specs.Workers.{after_take, take_on}
use Rattle.hc_laws.specs.Serving.{can_put, can_delete, can_fill, next_page, Piece, APage, ADelete, APut, IsTurn, NothingToWrite, page_goes, written, IsFillsTurn, NothingToFill, filled, NothingOn, ServesTheFirst, WriterServesTheFirst, FillerServesTheFirst}
use Rattle.hc_laws.proofs.Firsts.{none_found, none_passes, first_found, found_first}

-- ---- a take that isn't put off isn't idle

out_works : (fill : Option Fill) (answer : engine.Answer) (change : Changed) → (fill_out fill answer change).take ≢ Idle
out_works None answer change h = cc
out_works (Some fill) answer change h = cc

ends_works : (number : ℕ) (task : Task) (outcome : Outcome) (nvm : Nvm) → (ends number task outcome nvm).take ≢ Idle
ends_works number (Putting key) outcome nvm h = cc
ends_works number (Deleting key) outcome nvm h = cc
ends_works number Flushing outcome nvm h = cc
ends_works number Filling outcome nvm h = out_works (fill_by number (settled Filling outcome nvm).nvm.fills) outcome.answer (settled Filling outcome nvm) h

launched_works : (task : Task) (next : Next) (nvm : Nvm) → next ≢ Busy → (launched task next nvm).take ≢ Idle
launched_works task Busy nvm n h = n refl
launched_works task (Io order outcome) nvm n h = cc
launched_works task (Done outcome) nvm n h = ends_works (nvm.made + 1) task outcome nvm h

not_busy : (pair : Pair) (number : ℕ) (op : Op) → is_busy_for pair (key_of op) ≡ false → (start number op pair).next ≢ Busy
not_busy pair number op h e = let busy : is_busy_for pair (key_of op) ≡ true = (busy_is_true pair).0 number op e in cc

next_goes : (outcome : Outcome) (o : Option Order) → next_of outcome o ≢ Busy
next_goes outcome None h = cc
next_goes outcome (Some order) h = cc

launch_works : (task : Task) (op : Op) (nvm : Nvm) → (start (nvm.made + 1) op nvm.pair).next ≢ Busy → (launch task op nvm).take ≢ Idle
launch_works task op nvm n = launched_works task (start (nvm.made + 1) op nvm.pair).next (record nvm { pair = (start (nvm.made + 1) op nvm.pair).pair }) n

-- ---- what the writer does, by what the large engine chooses

abbrev pub writer_by : Option (ℕ × Mark) → Nvm → Taken
writer_by None nvm = take_delete (next_delete nvm) nvm
writer_by (Some turn) nvm = page_goes turn.0 turn.1 nvm

pub writer_is : (nvm : Nvm) → takes.writer_take nvm ≡ writer_by (next_page nvm) nvm
writer_is nvm = ap (λ (m : block.Moved). take_page (by_large nvm.pair [] m) nvm) (flush_by_choice nvm.pair.small.flash (nvm.made + 1) nvm.pair.large) ∙ by (next_page nvm)
  where
    by : (o : Option (ℕ × Mark)) → take_page (by_large nvm.pair [] (flushed_by nvm.pair.small.flash (nvm.made + 1) nvm.pair.large o)) nvm ≡ writer_by o nvm
    by None = refl
    by (Some turn) = refl

-- ---- each piece

and_free : (a b : Bool) → (a && not b) ≡ true → b ≡ false
and_free true true h = absurd cc
and_free true false h = refl
and_free false b h = absurd cc

written_works : (nvm : Nvm) (piece : Piece) → IsTurn nvm piece → (written piece nvm).take ≢ Idle
written_works nvm (APage region mark) turn = λ h. cc
written_works nvm (ADelete stone) turn = launch_works (Deleting stone.key) (Delete stone.key) (record nvm { tombstones = taken_stone stone.key nvm.tombstones }) (not_busy nvm.pair (nvm.made + 1) (Delete stone.key) (and_free (not stone.taken) _ turn.1.passes))
written_works nvm (APut put) turn = by (is_small_by nvm.pair.small.flash put.key (length put.value)) refl turn.2.passes
  where
    by : (t : Bool) → is_small_by nvm.pair.small.flash put.key (length put.value) ≡ t → (not t || not (is_busy_for nvm.pair put.key)) ≡ true → (take_sized t put (record nvm { queue = without_put put.key nvm.queue })).take ≢ Idle
    by true e can = launch_works (Putting put.key) (Put put) (record nvm { queue = without_put put.key nvm.queue }) (not_busy nvm.pair (nvm.made + 1) (Put put) (and_free true _ can))
    by false e can = launch_works Flushing (Put put) (record nvm { queue = without_put put.key nvm.queue }) (rw e (next_goes _ _))

pub served : (nvm : Nvm) (piece : Piece) → IsTurn nvm piece → takes.writer_take nvm ≡ written piece nvm
served nvm (APage region mark) turn = writer_is nvm ∙ ap (λ o. writer_by o nvm) turn
served nvm (ADelete stone) turn = writer_is nvm ∙ ap (λ o. writer_by o nvm) turn.0 ∙ ap (λ o. take_delete o nvm) (first_found (can_delete nvm) nvm.tombstones stone turn.1)
served nvm (APut put) turn = writer_is nvm ∙ ap (λ o. writer_by o nvm) turn.0 ∙ ap (λ o. take_delete o nvm) (none_found (can_delete nvm) nvm.tombstones turn.1) ∙ ap (λ o. take_put o nvm) (first_found (can_put nvm) nvm.queue put turn.2)

idled : (nvm : Nvm) → NothingToWrite nvm → takes.writer_take nvm ≡ idle nvm
idled nvm n = writer_is nvm ∙ ap (λ o. writer_by o nvm) n.no_page ∙ ap (λ o. take_delete o nvm) (none_found (can_delete nvm) nvm.tombstones n.no_delete) ∙ ap (λ o. take_put o nvm) (none_found (can_put nvm) nvm.queue n.no_put)

nothing : (nvm : Nvm) → (takes.writer_take nvm).take ≡ Idle → NothingToWrite nvm
nothing nvm h = pages (next_page nvm) refl (subst (λ (t : Taken). t.take ≡ Idle) (writer_is nvm) h)
  where
    puts : (o : Option FlashEntry) → next_page nvm ≡ None → next_delete nvm ≡ None → next_put nvm ≡ o → (take_put o nvm).take ≡ Idle → NothingToWrite nvm
    puts None n d p h = record { no_page = n; no_delete = none_passes (can_delete nvm) nvm.tombstones d; no_put = none_passes (can_put nvm) nvm.queue p }
    puts (Some put) n d p h = absurd (written_works nvm (APut put) (n, none_passes (can_delete nvm) nvm.tombstones d, found_first (can_put nvm) nvm.queue put p) h)

    deletes : (o : Option Tombstone) → next_page nvm ≡ None → next_delete nvm ≡ o → (take_delete o nvm).take ≡ Idle → NothingToWrite nvm
    deletes None n d h = puts (next_put nvm) n d refl h
    deletes (Some stone) n d h = absurd (written_works nvm (ADelete stone) (n, found_first (can_delete nvm) nvm.tombstones stone d) h)

    pages : (o : Option (ℕ × Mark)) → next_page nvm ≡ o → (writer_by o nvm).take ≡ Idle → NothingToWrite nvm
    pages None n h = deletes (next_delete nvm) n refl h
    pages (Some turn) n h = absurd (written_works nvm (APage turn.0 turn.1) n h)

-- ---- fills

filled_works : (nvm : Nvm) (fill : Fill) → IsFillsTurn nvm fill → (filled fill nvm).take ≢ Idle
filled_works nvm fill turn = launch_works Filling (Get fill.key) (record nvm { fills = taken_fill fill.key (nvm.made + 1) nvm.fills }) (not_busy nvm.pair (nvm.made + 1) (Get fill.key) (and_free (not (is_some fill.job)) _ turn.passes))

no_fill : (nvm : Nvm) → (takes.filler_take nvm).take ≡ Idle → NothingToFill nvm
no_fill nvm h = fills (next_fill nvm) refl h
  where
    fills : (o : Option Fill) → next_fill nvm ≡ o → (take_fill o nvm).take ≡ Idle → NothingToFill nvm
    fills None e h = none_passes (can_fill nvm) nvm.fills e
    fills (Some fill) e h = absurd (filled_works nvm fill (found_first (can_fill nvm) nvm.fills fill e) h)

-- ---- on the cache

take_in : Answer → Take
take_in (Took take) = take
take_in answer = Idle

takes_alike : (one two : Take) → Took one ≡ Took two → one ≡ two
unfolding take_in
takes_alike one two h = ap take_in h

module _ {P : Type 0} (turn : Nvm → P → Type 0) (nothing : Nvm → Type 0) (serve : P → Nvm → Taken) (take : Nvm → Taken) (serves : (nvm : Nvm) (piece : P) → turn nvm piece → take nvm ≡ serve piece nvm) (works : (nvm : Nvm) (piece : P) → turn nvm piece → (serve piece nvm).take ≢ Idle) (idles : (nvm : Nvm) → nothing nvm → take nvm ≡ idle nvm) (only : (nvm : Nvm) → (take nvm).take ≡ Idle → nothing nvm) (cache : Cache) where
  serves_there : (nvm : Nvm) (piece : P) → cache.nvm ≡ Some nvm → turn nvm piece → take_on cache.nvm take cache ≡ after_take (serve piece nvm) cache
  serves_there nvm piece e t = ap (λ o. take_on o take cache) e ∙ ap (λ taken. after_take taken cache) (serves nvm piece t)

  works_there : (nvm : Nvm) (piece : P) → cache.nvm ≡ Some nvm → turn nvm piece → (take_on cache.nvm take cache).answer ≢ Took Idle
  works_there nvm piece e t h = works nvm piece t (takes_alike _ _ (sym (ap (λ (m : Moved). m.answer) (serves_there nvm piece e t)) ∙ h))

  idles_there : (o : Option Nvm) → cache.nvm ≡ o → NothingOn nothing o → take_on o take cache ≡ stays (Took Idle) cache
  idles_there None e n = refl
  idles_there (Some nvm) e n = ap (λ taken. after_take taken cache) (idles nvm n) ∙ (λ i. stays (Took Idle) (record cache { nvm = e' i }))
    where
      e' : Some nvm ≡ cache.nvm
      e' = sym e

  only_there : (o : Option Nvm) → (take_on o take cache).answer ≡ Took Idle → NothingOn nothing o
  only_there None h = tt
  only_there (Some nvm) h = only nvm (takes_alike _ _ h)

  on_cache : ServesTheFirst turn nothing serve cache (take_on cache.nvm take cache)
  on_cache = record { serves = serves_there; works = works_there; idles = idles_there cache.nvm refl; idle_only = only_there cache.nvm }

pub writer_serves : WriterServesTheFirst
writer_serves = on_cache IsTurn NothingToWrite written takes.writer_take served written_works idled nothing

pub filler_serves : FillerServesTheFirst
filler_serves = on_cache IsFillsTurn NothingToFill filled takes.filler_take (λ nvm fill turn. ap (λ o. take_fill o nvm) (first_found (can_fill nvm) nvm.fills fill turn)) filled_works (λ nvm n. ap (λ o. take_fill o nvm) (none_found (can_fill nvm) nvm.fills n)) no_fill
