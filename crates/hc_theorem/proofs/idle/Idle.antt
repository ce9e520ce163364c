-- A worker is idle only where there is nothing for it to do.
use Rattle.std.proofs.Common.{◌≡◌, ◌⊎◌, inl, inr, ℕ, ◌+◌, Bool, true, false, not, ◌&&◌, nat_lt, List, [], length, Option, Some, None, refl, ap, ◌∙◌, arith, subst}
use Rattle.std.specs.Prelude.{if◌then◌else◌, is_some}
use Rattle.hc_types.specs.Places.{bucket_at, is_small_by}
use Rattle.hc_types.specs.declared.config.FlashConfig.{FlashConfig}
use Rattle.hc_types.specs.FlashEntry.{FlashEntry}
use Rattle.hc_engines.specs.Engine.{Put, Get, Delete, Flush, Over, Absent, Next, Busy, Io, Done, Outcome, Order, Read, Write}
use Rattle.hc_engines.specs.small.BigHash as bighash
use Rattle.hc_engines.specs.small.BigHash.{Reading, Moved, word_at, is_busy, could_hold}
use Rattle.hc_types.specs.FlashEntry.{FlashEntry}
use Rattle.hc_engines.specs.large.Entries.{entry_bytes}
use Rattle.hc_engines.specs.large.Region.{lowest_clean}
use Rattle.hc_engines.specs.large.Block as block
use Rattle.hc_engines.specs.large.Block.{Block}
use Rattle.hc_engines.specs.large.Steps as steps
use Rattle.hc_engines.specs.large.Steps.{fitting, put_fresh, put_into, put}
use Rattle.hc_memory.specs.Memory.{Memory}
use Rattle.hc_history.specs.Note.{Note}
use Rattle.hc_engines.specs.pair.Pair as pairs
use Rattle.hc_machine.specs.Nvm.{Nvm, Tombstone, Fill, Putting, Deleting, Filling, Flushing, next_fill, taken_fill, fill_by, without_put, taken_stone, next_delete, next_put}
use Rattle.hc_machine.specs.Leaving.{changed}
use Rattle.hc_machine.specs.Takes as flash
use Rattle.hc_machine.specs.Takes.{Idle, told_before, launch_by, launched, take_sized, take_put, take_delete, take_flush, settled, fill_out, take_fill, reclaimed}
use Rattle.hc_invariant.specs.Jobs.{JobsRun}
use Rattle.hc_invariant.specs.Good.{FlashPart}
use Rattle.hc_laws.specs.Serving.{can_put, can_delete, can_fill}
use Rattle.hc_theorem.specs.idle.Idling.{WriterIdles, FillerIdles, ReclaimIdles}
use Rattle.hc_proof.proofs.frames.ByNumber.{found-passes, none-counted}
use Rattle.hc_theorem.proofs.writer.SmallStarts.{waits_so, ends_so, put_starts, delete_starts, get_starts}
use Rattle.hc_theorem.proofs.writer.SmallPuts.{free_by}

-- ---- a flush

flush_next : (outcome : Outcome) (order : Option Order) (nvm : Nvm) (pair : pairs.Pair) → (take_flush (pairs.next_of outcome order) pair nvm).take ≡ Idle → order ≡ None
flush_next outcome None nvm pair h = refl
flush_next outcome (Some (Read page)) nvm pair h = absurd cc
flush_next outcome (Some (Write page bytes)) nvm pair h = absurd cc

-- ---- a delete, and a put

pub both-not : (a b : Bool) → (not a && not b) ≡ true → b ≡ false
both-not false false h = refl
both-not true b h = absurd cc
both-not false true h = absurd cc

-- what is found to be served isn't in the way of anything
delete_works : (nvm : Nvm) (stone : Tombstone) → JobsRun nvm → next_delete nvm ≡ Some stone → (take_delete (Some stone) nvm).take ≡ Idle → ⊥
delete_works nvm stone j found = by (delete_starts nvm.pair.small (nvm.made + 1) stone.key free none)
  where
    free : is_busy (bucket_at nvm.pair.small.flash stone.key) nvm.pair.small.jobs ≡ false
    free = both-not stone.taken (pairs.is_busy_for nvm.pair stone.key) (found-passes (can_delete nvm) nvm.tombstones stone found)

    none : bighash.job_at (nvm.made + 1) nvm.pair.small.jobs ≡ None
    none = j.small_ones (nvm.made + 1) (j.fresh (nvm.made + 1) (omega arith))

    by : (bighash.start nvm.pair.small (nvm.made + 1) (Delete stone.key) ≡ waits_so nvm.pair.small (nvm.made + 1) (Delete stone.key) Reading)
        ⊎ ((bighash.start nvm.pair.small (nvm.made + 1) (Delete stone.key) ≡ ends_so nvm.pair.small Over) × (word_at nvm.pair.small (bucket_at nvm.pair.small.flash stone.key) ≡ None))
        → (take_delete (Some stone) nvm).take ≡ Idle → ⊥
    by (inl e) h = let same : (launch_by (Deleting stone.key) (pairs.by_small nvm.pair (waits_so nvm.pair.small (nvm.made + 1) (Delete stone.key) Reading)) (record nvm { tombstones = taken_stone stone.key nvm.tombstones })).take ≡ Idle = subst (λ (m : Moved). (launch_by (Deleting stone.key) (pairs.by_small nvm.pair m) (record nvm { tombstones = taken_stone stone.key nvm.tombstones })).take ≡ Idle) e h in absurd cc
    by (inr e) h = let same : (launch_by (Deleting stone.key) (pairs.by_small nvm.pair (ends_so nvm.pair.small Over)) (record nvm { tombstones = taken_stone stone.key nvm.tombstones })).take ≡ Idle = subst (λ (m : Moved). (launch_by (Deleting stone.key) (pairs.by_small nvm.pair m) (record nvm { tombstones = taken_stone stone.key nvm.tombstones })).take ≡ Idle) e.0 h in absurd cc

-- a large put is over at once
over_fresh : (flash : FlashConfig) (entry : FlashEntry) (s : Block) (o : Option ℕ) → (put_fresh flash entry s o).order ≡ None
over_fresh flash entry s None = refl
over_fresh flash entry s (Some r) = refl

over_into : (flash : FlashConfig) (entry : FlashEntry) (s : Block) (o : Option ℕ) → (put_into flash entry s o).order ≡ None
over_into flash entry s None = over_fresh flash entry s (lowest_clean 0 s.regions)
over_into flash entry s (Some r) = refl

large_works : (outcome : Outcome) (order : Option Order) (part : List Note) (nvm : Nvm) → order ≡ None → (told_before part (launched Flushing (pairs.next_of outcome order) nvm)).take ≡ Idle → ⊥
large_works outcome None part nvm e h = absurd cc
large_works outcome (Some order) part nvm e h = absurd cc

picked : (P : pairs.Moved → Type 0) (b : Bool) (x y : pairs.Moved) → b ≡ true → P (if b then x else y) → P x
picked P true x y e h = h
picked P false x y e h = absurd cc

picked_other : (P : pairs.Moved → Type 0) (b : Bool) (x y : pairs.Moved) → b ≡ false → P (if b then x else y) → P y
picked_other P true x y e h = absurd cc
picked_other P false x y e h = h

put_works : (nvm : Nvm) (put : FlashEntry) (b : Bool) → is_small_by nvm.pair.small.flash put.key (length put.value) ≡ b → JobsRun nvm → next_put nvm ≡ Some put → (take_sized b put (record nvm { queue = without_put put.key nvm.queue })).take ≡ Idle → ⊥
put_works nvm e true small j found h =
    let free = free_by (is_small_by nvm.pair.small.flash e.key (length e.value)) (pairs.is_busy_for nvm.pair e.key) (found-passes (can_put nvm) nvm.queue e found) small in
    let none : bighash.job_at (nvm.made + 1) nvm.pair.small.jobs ≡ None = j.small_ones (nvm.made + 1) (j.fresh (nvm.made + 1) (omega arith)) in
    let starts = put_starts nvm.pair.small (nvm.made + 1) e small free none in
    let to_small : (launch_by (Putting e.key) (pairs.by_small nvm.pair (bighash.start nvm.pair.small (nvm.made + 1) (Put e))) (record nvm { queue = without_put e.key nvm.queue })).take ≡ Idle =
    picked (λ (m : pairs.Moved). (launch_by (Putting e.key) m (record nvm { queue = without_put e.key nvm.queue })).take ≡ Idle) (is_small_by nvm.pair.small.flash e.key (length e.value)) (pairs.by_small nvm.pair (bighash.start nvm.pair.small (nvm.made + 1) (Put e)))
    (pairs.by_large nvm.pair [] (put nvm.pair.small.flash e nvm.pair.large)) small h in
    let same : (launch_by (Putting e.key) (pairs.by_small nvm.pair (waits_so nvm.pair.small (nvm.made + 1) (Put e) starts.0)) (record nvm { queue = without_put e.key nvm.queue })).take ≡ Idle = subst (λ (m : Moved). (launch_by (Putting e.key) (pairs.by_small nvm.pair m) (record nvm { queue = without_put e.key nvm.queue })).take ≡ Idle) starts.1 to_small in
    absurd cc
put_works nvm e false large j found h =
    let to_large : (launch_by Flushing (pairs.by_large nvm.pair [] (put nvm.pair.small.flash e nvm.pair.large)) (record nvm { queue = without_put e.key nvm.queue })).take ≡ Idle =
    picked_other (λ (m : pairs.Moved). (launch_by Flushing m (record nvm { queue = without_put e.key nvm.queue })).take ≡ Idle) (is_small_by nvm.pair.small.flash e.key (length e.value)) (pairs.by_small nvm.pair (bighash.start nvm.pair.small (nvm.made + 1) (Put e)))
    (pairs.by_large nvm.pair [] (put nvm.pair.small.flash e nvm.pair.large)) large h in
    large_works (put nvm.pair.small.flash e nvm.pair.large).outcome (put nvm.pair.small.flash e nvm.pair.large).order []
    (record nvm { queue = without_put e.key nvm.queue; pair = record nvm.pair { large = (put nvm.pair.small.flash e nvm.pair.large).state } })
    (over_into nvm.pair.small.flash e nvm.pair.large (fitting nvm.pair.small.flash nvm.pair.large (length (entry_bytes e)) nvm.pair.large.current)) to_large

-- ---- the take

no_put : (nvm : Nvm) (o : Option FlashEntry) → next_put nvm ≡ o → JobsRun nvm → (take_put o nvm).take ≡ Idle → o ≡ None
no_put nvm None found j h = refl
no_put nvm (Some put) found j h = absurd (put_works nvm put (is_small_by nvm.pair.small.flash put.key (length put.value)) refl j found h)

no_delete : (nvm : Nvm) (o : Option Tombstone) → next_delete nvm ≡ o → JobsRun nvm → (take_delete o nvm).take ≡ Idle → (o ≡ None) × (next_put nvm ≡ None)
no_delete nvm None found j h = (refl, no_put nvm (next_put nvm) refl j h)
no_delete nvm (Some stone) found j h = absurd (delete_works nvm stone j found h)

behind_flush : (nvm : Nvm) (next : Next) (pair : pairs.Pair) → (take_flush next pair nvm).take ≡ Idle → (take_delete (next_delete nvm) nvm).take ≡ Idle
behind_flush nvm Busy pair h = h
behind_flush nvm (Io order outcome) pair h = absurd cc
behind_flush nvm (Done outcome) pair h = h

jobs_in : (flash : Option FlashConfig) (older : List Note) (memory : Memory) (o : Option Nvm) (nvm : Nvm) → o ≡ Some nvm → FlashPart flash older memory o → JobsRun nvm
jobs_in None older memory None nvm e g = absurd cc
jobs_in None older memory (Some x) nvm e g = absurd g
jobs_in (Some flash) older memory None nvm e g = absurd cc
jobs_in (Some flash) older memory (Some x) nvm e g = let same : x ≡ nvm = cc in subst JobsRun same g.jobs

pub writer_idles : WriterIdles
writer_idles config older cache nvm g n h =
    let j = jobs_in config.flash older cache.memory cache.nvm nvm n g.flash in
    let moved = steps.flush nvm.pair.small.flash (nvm.made + 1) nvm.pair.large in
    let none : moved.order ≡ None = flush_next moved.outcome moved.order nvm (record nvm.pair { large = moved.state }) h in
    let rest = no_delete nvm (next_delete nvm) refl j (behind_flush nvm (pairs.start (nvm.made + 1) Flush nvm.pair).next (pairs.start (nvm.made + 1) Flush nvm.pair).pair h) in
    record { pages = none; deletes = none-counted (can_delete nvm) nvm.tombstones rest.0; puts = none-counted (can_put nvm) nvm.queue rest.1 }

-- ---- the filler

-- a get that begins in the large engine, or is answered there at once
get_works : (outcome : Outcome) (order : Option Order) (nvm : Nvm) → (launched Filling (pairs.next_of outcome order) nvm).take ≡ Idle → ⊥
get_works outcome None nvm h = out (fill_by (nvm.made + 1) (settled Filling outcome nvm).nvm.fills) h
  where
    out : (o : Option Fill) → (fill_out o outcome.answer (settled Filling outcome nvm)).take ≡ Idle → ⊥
    out None h = absurd cc
    out (Some fill) h = absurd cc
get_works outcome (Some (Read page)) nvm h = absurd cc
get_works outcome (Some (Write page bytes)) nvm h = absurd cc

fill_works : (nvm : Nvm) (fill : Fill) → JobsRun nvm → next_fill nvm ≡ Some fill → (take_fill (Some fill) nvm).take ≡ Idle → ⊥
fill_works nvm fill j found = by (get_starts nvm.pair.small (nvm.made + 1) fill.key free none)
  where
    free : is_busy (bucket_at nvm.pair.small.flash fill.key) nvm.pair.small.jobs ≡ false
    free = both-not (is_some fill.job) (pairs.is_busy_for nvm.pair fill.key) (found-passes (can_fill nvm) nvm.fills fill found)

    none : bighash.job_at (nvm.made + 1) nvm.pair.small.jobs ≡ None
    none = j.small_ones (nvm.made + 1) (j.fresh (nvm.made + 1) (omega arith))

    by : (bighash.start nvm.pair.small (nvm.made + 1) (Get fill.key) ≡ waits_so nvm.pair.small (nvm.made + 1) (Get fill.key) Reading)
        ⊎ ((bighash.start nvm.pair.small (nvm.made + 1) (Get fill.key) ≡ ends_so nvm.pair.small Absent) × (could_hold nvm.pair.small fill.key ≡ false))
        → (take_fill (Some fill) nvm).take ≡ Idle → ⊥
    by (inl e) h =
        let same : (launch_by Filling (pairs.after_small (nvm.made + 1) (Get fill.key) (pairs.by_small nvm.pair (waits_so nvm.pair.small (nvm.made + 1) (Get fill.key) Reading))) (record nvm { fills = taken_fill fill.key (nvm.made + 1) nvm.fills })).take ≡ Idle =
        subst (λ (m : Moved). (launch_by Filling (pairs.after_small (nvm.made + 1) (Get fill.key) (pairs.by_small nvm.pair m)) (record nvm { fills = taken_fill fill.key (nvm.made + 1) nvm.fills })).take ≡ Idle) e h in
        absurd cc
    by (inr e) h =
        let got = steps.get nvm.pair.small.flash (nvm.made + 1) fill.key nvm.pair.large in
        let same : (launch_by Filling (pairs.after_small (nvm.made + 1) (Get fill.key) (pairs.by_small nvm.pair (ends_so nvm.pair.small Absent))) (record nvm { fills = taken_fill fill.key (nvm.made + 1) nvm.fills })).take ≡ Idle =
        subst (λ (m : Moved). (launch_by Filling (pairs.after_small (nvm.made + 1) (Get fill.key) (pairs.by_small nvm.pair m)) (record nvm { fills = taken_fill fill.key (nvm.made + 1) nvm.fills })).take ≡ Idle) e.0 h in
        get_works got.outcome got.order (record nvm { fills = taken_fill fill.key (nvm.made + 1) nvm.fills; pair = record nvm.pair { large = got.state } }) same

no_fill : (nvm : Nvm) (o : Option Fill) → next_fill nvm ≡ o → JobsRun nvm → (take_fill o nvm).take ≡ Idle → o ≡ None
no_fill nvm None found j h = refl
no_fill nvm (Some fill) found j h = absurd (fill_works nvm fill j found h)

pub filler_idles : FillerIdles
filler_idles config older cache nvm g n h = none-counted (can_fill nvm) nvm.fills (no_fill nvm (next_fill nvm) refl (jobs_in config.flash older cache.memory cache.nvm nvm n g.flash) h)

-- ---- reclaim

oldest_none : (s : Block) (o : Option ℕ) (nvm : Nvm) → (reclaimed (steps.reclaim_of s o) nvm).region ≡ None → o ≡ None
oldest_none s None nvm h = refl
oldest_none s (Some r) nvm h = absurd cc

enough : (s : Block) (nvm : Nvm) (b : Bool) → (reclaimed (if b then steps.reclaim_of s (steps.oldest s.regions s.flushed) else block.unmoved s) nvm).region ≡ None → (b ≡ false) ⊎ (steps.oldest s.regions s.flushed ≡ None)
enough s nvm true h = inr (oldest_none s (steps.oldest s.regions s.flushed) nvm h)
enough s nvm false h = inl refl

pub reclaim_idles : ReclaimIdles
reclaim_idles nvm h = enough nvm.pair.large nvm (nat_lt (steps.clean_count nvm.pair.large.regions) nvm.pair.small.flash.clean) h

-- ---- an idle take leaves all as it is

rests_behind : (nvm : Nvm) (next : Next) (pair : pairs.Pair) → (take_flush next pair nvm).take ≡ Idle → take_flush next pair nvm ≡ take_delete (next_delete nvm) nvm
rests_behind nvm Busy pair h = refl
rests_behind nvm (Io order outcome) pair h = absurd cc
rests_behind nvm (Done outcome) pair h = refl

pub writer_rests : (nvm : Nvm) → JobsRun nvm → (flash.writer_take nvm).take ≡ Idle → flash.writer_take nvm ≡ flash.idle nvm
writer_rests nvm j h =
    let m = pairs.start (nvm.made + 1) Flush nvm.pair in
    let rest = no_delete nvm (next_delete nvm) refl j (behind_flush nvm m.next m.pair h) in
    rests_behind nvm m.next m.pair h ∙ ap (λ o. take_delete o nvm) rest.0 ∙ ap (λ o. take_put o nvm) rest.1

pub filler_rests : (nvm : Nvm) → JobsRun nvm → (flash.filler_take nvm).take ≡ Idle → flash.filler_take nvm ≡ flash.idle nvm
filler_rests nvm j h = ap (λ o. take_fill o nvm) (no_fill nvm (next_fill nvm) refl j h)

pub reclaim_rests : (nvm : Nvm) → (flash.reclaim nvm).region ≡ None → (flash.reclaim nvm).change ≡ changed [] nvm
reclaim_rests nvm h = go (steps.reclaim nvm.pair.small.flash nvm.pair.large).outcome.reclaimed h
  where
    go : (given : Option ℕ) → (flash.reclaimed_by given (steps.reclaim nvm.pair.small.flash nvm.pair.large) nvm).region ≡ None → (flash.reclaimed_by given (steps.reclaim nvm.pair.small.flash nvm.pair.large) nvm).change ≡ changed [] nvm
    go None h = refl
    go (Some region) h = absurd cc
