-- What an operation comes to that was started: the machine's notes, marks and state.
use Rattle.std.proofs.Common.{◌≡◌, ℕ, ◌+◌, false, not, map, ◌∷◌, List, [], ◌++◌, Option, Some, None, refl, sym, ap, ◌∙◌}
use Rattle.std.specs.List.{filter}
use Rattle.hc_types.specs.declared.config.FlashConfig.{FlashConfig}
use Rattle.hc_memory.specs.Memory.{Memory, after_unmark}
use Rattle.hc_engines.specs.Engine.{Op, Loss, Outcome, Next, Busy, Io, Done}
use Rattle.hc_engines.specs.pair.Pair.{Pair, Moved, start}
use Rattle.hc_bighash.specs.Found.{losses_of}
use Rattle.hc_history.specs.Note.{Note, Lose, Opened, Raised, Flushed, Cleared}
use Rattle.hc_history.specs.Told.{Heard, told_more}
use Rattle.hc_history.proofs.Telling.{told-twice}
use Rattle.hc_machine.specs.Cache.{unmarked_by}
use Rattle.hc_machine.specs.Nvm.{Nvm, Tombstone, Task, Putting, Deleting, Filling, Flushing, Job}
use Rattle.hc_machine.specs.Leaving.{Changed, changed, and_then}
use Rattle.hc_machine.specs.Takes.{Taken, Take, Finished, Work, takes, told_before, holds, settled, launch, launch_by, launched, bucket_lost, region_note, loss_notes, ends_with, closing_notes, raise}
use Rattle.hc_nvm.specs.After.{After, after, raised, by_bucket, held_left, held_part, settled_left, settled_part}
use Rattle.hc_nvm.specs.Taking.{IsTaken}

-- ---- marks

pub unmarked_append : (one two : List Note) (memory : Memory) → unmarked_by (one ++ two) memory ≡ unmarked_by two (unmarked_by one memory)
unmarked_append [] two memory = refl
unmarked_append (Lose scope cause ∷ one) two memory = unmarked_append one two (after_unmark memory scope)
unmarked_append (note ∷ one) two memory = unmarked_append one two memory

raised_unmark : (stones : List Tombstone) (memory : Memory) → unmarked_by (map (λ (stone : Tombstone). Raised stone.key) stones) memory ≡ memory
raised_unmark [] memory = refl
raised_unmark (stone ∷ stones) memory = raised_unmark stones memory

opened_unmark : (region : Option ℕ) (rest : List Note) (memory : Memory) → unmarked_by (region_note Opened region ++ rest) memory ≡ unmarked_by rest memory
opened_unmark None rest memory = refl
opened_unmark (Some region) rest memory = refl

closing_unmark : (task : Task) (outcome : Outcome) (memory : Memory) → unmarked_by (closing_notes task outcome) memory ≡ memory
closing_unmark task outcome memory = by task
  where
    cleared : (region : Option ℕ) → unmarked_by (region_note Cleared region) memory ≡ memory
    cleared None = refl
    cleared (Some region) = refl

    flushed : (region : Option ℕ) → unmarked_by (region_note Flushed region ++ region_note Cleared outcome.cleared) memory ≡ memory
    flushed None = cleared outcome.cleared
    flushed (Some region) = cleared outcome.cleared

    by : (task : Task) → unmarked_by (closing_notes task outcome) memory ≡ memory
    by (Putting key) = flushed outcome.flushed
    by (Deleting key) = flushed outcome.flushed
    by Filling = flushed outcome.flushed
    by Flushing = flushed outcome.flushed

pub held_unmark : (flash : FlashConfig) (opened : Option ℕ) (losses : List Loss) (stones : List Tombstone) (memory : Memory) → unmarked_by (held_part flash opened losses stones) memory ≡ unmarked_by (loss_notes losses) memory
held_unmark flash opened losses stones memory =
    unmarked_append (region_note Opened opened ++ loss_notes losses) (raised (by_bucket flash (bucket_lost losses)) stones) memory
    ∙ raised_unmark (filter (by_bucket flash (bucket_lost losses)) stones) (unmarked_by (region_note Opened opened ++ loss_notes losses) memory)
    ∙ opened_unmark opened (loss_notes losses) memory

pub settled_unmark : (flash : FlashConfig) (task : Task) (outcome : Outcome) (stones : List Tombstone) (memory : Memory) → unmarked_by (settled_part flash task outcome stones) memory ≡ unmarked_by (loss_notes outcome.losses) memory
settled_unmark flash task outcome stones memory =
    unmarked_append (held_part flash outcome.opened outcome.losses stones) (raised (ends_with task) (held_left flash outcome.losses stones) ++ closing_notes task outcome) memory
    ∙ unmarked_append (raised (ends_with task) (held_left flash outcome.losses stones)) (closing_notes task outcome) (unmarked_by (held_part flash outcome.opened outcome.losses stones) memory)
    ∙ closing_unmark task outcome _
    ∙ raised_unmark (filter (ends_with task) (held_left flash outcome.losses stones)) _
    ∙ held_unmark flash outcome.opened outcome.losses stones memory

pub after_unmarked : (flash : FlashConfig) (task : Task) (next : Next) (stones : List Tombstone) (jobs : List Job) (made : ℕ) (memory : Memory) → unmarked_by (after flash task next stones jobs made).part memory ≡ unmarked_by (loss_notes (losses_of next)) memory
after_unmarked flash task Busy stones jobs made memory = refl
after_unmarked flash task (Io order outcome) stones jobs made memory = held_unmark flash outcome.opened outcome.losses stones memory
after_unmarked flash task (Done outcome) stones jobs made memory = settled_unmark flash task outcome stones memory

-- ---- the machine's step

none_ends : {X : Type 0} (xs : List X) → filter (λ (x : X). false) xs ≡ []
none_ends [] = refl
none_ends (x ∷ xs) = none_ends xs

all_stand : {X : Type 0} (xs : List X) → filter (λ (x : X). not false) xs ≡ xs
all_stand [] = refl
all_stand {X} (x ∷ xs) = ap (λ (ys : List X). x ∷ ys) (all_stand xs)

pub holds_is : (outcome : Outcome) (nvm : Nvm)
    → holds outcome nvm ≡ changed (held_part nvm.pair.small.flash outcome.opened outcome.losses nvm.tombstones) (record nvm { tombstones = held_left nvm.pair.small.flash outcome.losses nvm.tombstones })
holds_is outcome nvm = by_bucket_lost (bucket_lost outcome.losses) refl
  where
    by_bucket_lost : (b : Option ℕ) → bucket_lost outcome.losses ≡ b → holds outcome nvm ≡ changed (held_part nvm.pair.small.flash outcome.opened outcome.losses nvm.tombstones) (record nvm { tombstones = held_left nvm.pair.small.flash outcome.losses nvm.tombstones })
    by_bucket_lost None e = rw e (λ i. changed ((region_note Opened outcome.opened ++ loss_notes outcome.losses) ++ map (λ (stone : Tombstone). Raised stone.key) (sym (none_ends nvm.tombstones) i)) (record nvm { tombstones = sym (all_stand nvm.tombstones) i }))
    by_bucket_lost (Some bucket) e = rw e refl

pub settled_is : (task : Task) (outcome : Outcome) (nvm : Nvm)
    → settled task outcome nvm ≡ changed (settled_part nvm.pair.small.flash task outcome nvm.tombstones) (record nvm { tombstones = settled_left nvm.pair.small.flash task outcome nvm.tombstones })
settled_is task outcome nvm = ap (λ (h : Changed). and_then h (λ nvm. and_then (raise (ends_with task) nvm) (changed (closing_notes task outcome)))) (holds_is outcome nvm)

-- a task that brings nothing
abbrev pub BringsNothing : Task → Type 0
BringsNothing Filling = ⊥
BringsNothing (Putting key) = Unit {0}
BringsNothing (Deleting key) = Unit {0}
BringsNothing Flushing = Unit {0}

-- what is left of the state, by what the code has
abbrev pub left_of : Nvm → After → Nvm
left_of nvm a = record nvm { tombstones = a.stones; jobs = a.jobs; made = a.made }

launched_is : (task : Task) (next : Next) (nvm : Nvm) → BringsNothing task
    → let a = after nvm.pair.small.flash task next nvm.tombstones nvm.jobs nvm.made in
    launched task next nvm ≡ record { nvm = left_of nvm a; take = a.take; part = a.part; filled = None }
launched_is task Busy nvm none = refl
launched_is task (Io order outcome) nvm none = ap (takes (Work (nvm.made + 1) order)) (holds_is outcome (record nvm { jobs = nvm.jobs ++ record { number = nvm.made + 1; task = task; order = order } ∷ []; made = nvm.made + 1 }))
launched_is (Putting key) (Done outcome) nvm none = ap (takes Finished) (settled_is (Putting key) outcome nvm)
launched_is (Deleting key) (Done outcome) nvm none = ap (takes Finished) (settled_is (Deleting key) outcome nvm)
launched_is Flushing (Done outcome) nvm none = ap (takes Finished) (settled_is Flushing outcome nvm)
launched_is Filling (Done outcome) nvm none = absurd none

-- an operation was started, and came to this
pub launch_is : (task : Task) (op : Op) (nvm : Nvm) (pair : Pair) (next : Next) → BringsNothing task → start (nvm.made + 1) op nvm.pair ≡ record { pair = pair; next = next }
    → let a = after pair.small.flash task next nvm.tombstones nvm.jobs nvm.made in
    launch task op nvm ≡ record { nvm = left_of (record nvm { pair = pair }) a; take = a.take; part = a.part; filled = None }
launch_is task op nvm pair next none e = ap (λ (m : Moved). launch_by task m nvm) e ∙ launched_is task next (record nvm { pair = pair }) none

-- What the code has of an operation that was started: what came of it, told behind this part.
pub record Came (before : List Note) (task : Task) (op : Op) (nvm : Nvm) (pair : Pair) (next : Next) (flash : FlashConfig) (t : Task) (o : Op) (stones : List Tombstone) (jobs : List Job) (new : Nvm) (take : Take)
    (heard middle told : Heard) (memory left : Memory) : Type 0 where
  pub same_task : t ≡ task
  pub same_op : o ≡ op
  pub started : start (nvm.made + 1) o nvm.pair ≡ record { pair = pair; next = next }
  pub same_flash : flash ≡ pair.small.flash
  pub same_stones : stones ≡ nvm.tombstones
  pub same_jobs : jobs ≡ nvm.jobs
  pub new_is : new ≡ left_of (record nvm { pair = pair }) (after flash t next stones jobs nvm.made)
  pub take_is : take ≡ (after flash t next stones jobs nvm.made).take
  pub told_before_is : middle ≡ told_more heard before
  pub told_is : told ≡ told_more middle (after flash t next stones jobs nvm.made).part
  pub unmarks : (m : Memory) → unmarked_by before m ≡ m
  pub marks : left ≡ unmarked_by (loss_notes (losses_of next)) memory

pub came_is_taken : (before : List Note) (task : Task) (op : Op) (nvm : Nvm) (pair : Pair) (next : Next) (flash : FlashConfig) (t : Task) (o : Op) (stones : List Tombstone) (jobs : List Job) (new : Nvm) (take : Take)
    (heard middle told : Heard) (memory left : Memory) → BringsNothing task
    → Came before task op nvm pair next flash t o stones jobs new take heard middle told memory left → IsTaken (told_before before (launch task op nvm)) new take None heard told memory left
came_is_taken before task op nvm pair next flash t o stones jobs new take heard middle told memory left none came = record {
  nvm_is = came.new_is ∙ ap (λ (t : Taken). t.nvm) is;
  take_is = came.take_is ∙ ap (λ (t : Taken). t.take) is;
  filled_is = ap (λ (t : Taken). t.filled) is;
  told = came.told_is ∙ ap (λ (l : Heard). told_more l own) came.told_before_is ∙ told-twice heard before own ∙ ap (λ (p : List Note). told_more heard (before ++ p)) part;
  marks = came.marks ∙ sym (after_unmarked flash t next stones jobs nvm.made memory) ∙ ap (λ (p : List Note). unmarked_by p memory) part
      ∙ ap (unmarked_by (launch task op nvm).part) (sym (came.unmarks memory)) ∙ sym (unmarked_append before (launch task op nvm).part memory);
}
  where
    own : List Note
    own = (after flash t next stones jobs nvm.made).part

    of : After → Taken
    of a = record { nvm = left_of (record nvm { pair = pair }) a; take = a.take; part = a.part; filled = None }

    is : of (after flash t next stones jobs nvm.made) ≡ launch task op nvm
    is = (λ i. of (after (came.same_flash i) (came.same_task i) next (came.same_stones i) (came.same_jobs i) nvm.made))
        ∙ sym (launch_is task op nvm pair next none (ap (λ (x : Op). start (nvm.made + 1) x nvm.pair) (sym came.same_op) ∙ came.started))

    part : own ≡ (launch task op nvm).part
    part = ap (λ (t : Taken). t.part) is
