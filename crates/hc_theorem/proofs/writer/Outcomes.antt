-- What a large put answers: it is over at once, flushes and clears nothing, gives no bucket up; and what its take comes to.
use Rattle.std.proofs.Common.{◌≡◌, ℕ, not, List, [], ◌∷◌, ◌++◌, map, filter, length, Option, Some, None, refl, ap, ◌∙◌}
use Rattle.std.proofs.lemmas.List.{append-nil}
use Rattle.hc_types.specs.declared.config.FlashConfig.{FlashConfig}
use Rattle.hc_types.specs.Places.{kept_of}
use Rattle.hc_types.specs.FlashEntry.{FlashEntry}
use Rattle.hc_engines.specs.Engine as engine
use Rattle.hc_engines.specs.Engine.{Outcome, Done}
use Rattle.hc_engines.specs.large.Entries.{entry_bytes}
use Rattle.hc_engines.specs.large.Region.{lowest_clean}
use Rattle.hc_engines.specs.large.Index.{Place, place_at}
use Rattle.hc_engines.specs.large.Block.{Block}
use Rattle.hc_engines.specs.large.Steps.{collided, fitting, append, open_next, put_fresh, put_into, put}
use Rattle.hc_history.specs.Note.{Note, Unqueued, Raised, Opened, Flushed, Cleared}
use Rattle.hc_engines.specs.pair.Pair.{next_of}
use Rattle.hc_machine.specs.Nvm.{Nvm, Tombstone, Flushing}
use Rattle.hc_machine.specs.Takes.{region_note, loss_notes, bucket_lost, ends_with, told_before, launched}
use Rattle.hc_machine.specs.Cache.{Cache, Moved, unmarked_by}
use Rattle.hc_machine.specs.Workers.{after_take}
use Rattle.hc_proof.proofs.frames.Lists.{none-gone}
use Rattle.hc_theorem.proofs.writer.Forms.{told_to}
use Rattle.hc_proof.proofs.jobs.ToldParts.{none_raised}

pub record IsQuiet (outcome : Outcome) : Type 0 where
  pub flushed : outcome.flushed ≡ None
  pub cleared : outcome.cleared ≡ None
  pub given_up : bucket_lost outcome.losses ≡ None

quiet_stored : (flash : FlashConfig) (entry : FlashEntry) (old : Block) (opened : Option ℕ) (s : Block) (o : Option Place) → place_at (kept_of flash.bits entry.key) old.index ≡ o
    → IsQuiet (record engine.nothing { answer = engine.Over; losses = collided (kept_of flash.bits entry.key) entry.key o; opened = opened })
quiet_stored flash entry old opened s None e = record { flushed = refl; cleared = refl; given_up = refl }
quiet_stored flash entry old opened s (Some place) e = record { flushed = refl; cleared = refl; given_up = refl }

quiet_fresh : (flash : FlashConfig) (entry : FlashEntry) (s : Block) (o : Option ℕ) → IsQuiet (put_fresh flash entry s o).outcome
quiet_fresh flash entry s None = record { flushed = refl; cleared = refl; given_up = refl }
quiet_fresh flash entry s (Some r) = quiet_stored flash entry s (Some r) (append flash r entry (open_next r s)) (place_at (kept_of flash.bits entry.key) s.index) refl

quiet_into : (flash : FlashConfig) (entry : FlashEntry) (s : Block) (o : Option ℕ) → IsQuiet (put_into flash entry s o).outcome
quiet_into flash entry s None = quiet_fresh flash entry s (lowest_clean 0 s.regions)
quiet_into flash entry s (Some r) = quiet_stored flash entry s None (append flash r entry s) (place_at (kept_of flash.bits entry.key) s.index) refl

pub put-quiet : (flash : FlashConfig) (entry : FlashEntry) (s : Block) → IsQuiet (put flash entry s).outcome
put-quiet flash entry s = quiet_into flash entry s (fitting flash s (length (entry_bytes entry)) s.current)

part_is : (pre : List Note) (gone : List Tombstone) (flushed cleared : Option ℕ) → gone ≡ [] → flushed ≡ None → cleared ≡ None
    → (pre ++ []) ++ (map (λ (stone : Tombstone). Raised stone.key) gone ++ ([] ++ (region_note Flushed flushed ++ region_note Cleared cleared))) ≡ pre
part_is pre gone flushed cleared e f c = rw (e, f, c) (append-nil (pre ++ []) ∙ append-nil pre)

-- with what its part and its tombstones are
told_as : (P : List Note → Cache → Type 0) (cache : Cache) (nvm : Nvm) (stones : List Tombstone) (part all : List Note) → stones ≡ nvm.tombstones → part ≡ all → P all (told_to all nvm cache)
    → P (part ++ []) (record cache { memory = unmarked_by part cache.memory; nvm = Some (record nvm { tombstones = stones }) })
told_as P cache nvm stones part all e f s = rw (e, f, append-nil all) s

-- what is said of a part and of the cache after it is said of this take
abbrev pub Said : (List Note → Cache → Type 0) → Moved → Type 0
Said P moved = P moved.part moved.cache

with_bucket : (P : List Note → Cache → Type 0) (cache : Cache) (nvm : Nvm) (key : List ℕ) (outcome : Outcome) → IsQuiet outcome
    → P (Unqueued key ∷ (region_note Opened outcome.opened ++ loss_notes outcome.losses)) (told_to (Unqueued key ∷ (region_note Opened outcome.opened ++ loss_notes outcome.losses)) nvm cache)
    → Said P (after_take (told_before (Unqueued key ∷ []) (launched Flushing (Done outcome) nvm)) cache)
with_bucket P cache nvm key outcome q s = rw (q.given_up) (told_as P cache nvm (filter (λ stone. not (ends_with Flushing stone)) nvm.tombstones) _ _ (none-gone nvm.tombstones)
    (ap (λ (part : List Note). Unqueued key ∷ part) (part_is (region_note Opened outcome.opened ++ loss_notes outcome.losses) (filter (ends_with Flushing) nvm.tombstones) outcome.flushed outcome.cleared (none_raised nvm.tombstones) q.flushed q.cleared)) s)

-- a large put that is over at once
pub large-over : (P : List Note → Cache → Type 0) (cache : Cache) (nvm : Nvm) (key : List ℕ) (outcome : Outcome) (order : Option engine.Order) → order ≡ None → IsQuiet outcome
    → P (Unqueued key ∷ (region_note Opened outcome.opened ++ loss_notes outcome.losses)) (told_to (Unqueued key ∷ (region_note Opened outcome.opened ++ loss_notes outcome.losses)) nvm cache)
    → Said P (after_take (told_before (Unqueued key ∷ []) (launched Flushing (next_of outcome order) nvm)) cache)
large-over P cache nvm key outcome order e q s = rw e (with_bucket P cache nvm key outcome q s)
