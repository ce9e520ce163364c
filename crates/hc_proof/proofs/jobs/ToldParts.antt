-- What the steps of regions tell, and what they leave of the rest.
use Rattle.std.proofs.Common.{◌≡◌, ℕ, ◌+◌, ◌≤◌, Bool, true, false, not, List, [], ◌∷◌, ◌++◌, map, filter, Option, Some, None, refl, ap, arith, ◌∙◌, append-nil}
use Rattle.std.specs.Prelude.{if◌then◌else◌, nat_lt}
use Rattle.hc_types.specs.Loss as scopes
use Rattle.hc_types.specs.Loss.{Cause, Reclaimed, Fault}
use Rattle.hc_types.specs.declared.config.FlashConfig.{FlashConfig}
use Rattle.hc_engines.specs.Engine as engine
use Rattle.hc_engines.specs.Engine.{Written, Failed, Over, nothing}
use Rattle.hc_engines.specs.large.Region.{Status, Clean, Open, Sealed, Flushing as IsFlushing, OnFlash, Draining, region_at, page_no, page_done}
use Rattle.hc_engines.specs.large.Index.{leading_into}
use Rattle.hc_engines.specs.large.Block as block
use Rattle.hc_engines.specs.large.Block.{Block, Writing, end_job, unmoved}
use Rattle.hc_engines.specs.large.Steps as steps
use Rattle.hc_history.specs.Note.{Note, Lose, Read, Wrote, Raised, Flushed, Cleared}
use Rattle.hc_history.specs.Lawful.{past}
use Rattle.hc_history.specs.Regions.{put_under_way, is_put_of}
use Rattle.hc_machine.specs.Nvm.{Nvm, Tombstone, Flushing}
use Rattle.hc_machine.specs.Leaving.{Changed, changed, behind, and_then}
use Rattle.hc_machine.specs.Takes.{region_note, loss_notes, bucket_lost, raise, ends_with, holds, closing_notes, settled}
use Rattle.hc_proof.specs.jobs.Shell.{IsOfRegions, AllOfRegions}
use Rattle.hc_proof.specs.books.RegionBooks.{told}

-- ---- outcomes

-- what is lost is kept hashes, for one cause, and nothing is opened
pub record Plain (outcome : engine.Outcome) : Type 0 where
  pub cause : Cause
  pub hashes : List ℕ
  pub losses : outcome.losses ≡ steps.lost cause hashes
  pub opened : outcome.opened ≡ None

pub reclaim_plain : (flash : FlashConfig) (s : Block) → Plain (steps.reclaim flash s).outcome
reclaim_plain flash s = go (nat_lt (steps.clean_count s.regions) flash.clean)
  where
    of : (o : Option ℕ) → Plain (steps.reclaim_of s o).outcome
    of None = record { cause = Fault; hashes = []; losses = refl; opened = refl }
    of (Some r) = record { cause = Reclaimed r; hashes = leading_into r (region_at r s.regions).appended s.index; losses = refl; opened = refl }

    go : (t : Bool) → Plain (if t then steps.reclaim_of s (steps.oldest s.regions s.flushed) else unmoved s).outcome
    go true = of (steps.oldest s.regions s.flushed)
    go false = record { cause = Fault; hashes = []; losses = refl; opened = refl }

pub failed_plain : (flash : FlashConfig) (number r : ℕ) (bytes : List ℕ) (s : Block) → Plain (steps.resume flash number (Writing r bytes) Failed s).outcome
failed_plain flash number r bytes s = record { cause = Fault; hashes = leading_into r (region_at r s.regions).appended s.index; losses = refl; opened = refl }

pub written_plain : (flash : FlashConfig) (number r : ℕ) (bytes : List ℕ) (s : Block) → Plain (steps.resume flash number (Writing r bytes) Written s).outcome
written_plain flash number r bytes s = by_status (region_at r s.regions).status
  where
    on : (t : Bool) → Plain (if t then steps.write_out flash number r (page_done flash (region_at r s.regions)) (end_job number s)
        else block.finished (record (block.with_region r (record (page_done flash (region_at r s.regions)) { status = OnFlash }) (end_job number s)) { flushed = s.flushed ++ r ∷ [] }) (record nothing { answer = Over; flushed = Some r })).outcome
    on true = record { cause = Fault; hashes = []; losses = refl; opened = refl }
    on false = record { cause = Fault; hashes = []; losses = refl; opened = refl }

    by_status : (status : Status) → Plain (steps.wrote_page flash number r status (end_job number s)).outcome
    by_status Clean = record { cause = Fault; hashes = []; losses = refl; opened = refl }
    by_status Open = record { cause = Fault; hashes = []; losses = refl; opened = refl }
    by_status Sealed = record { cause = Fault; hashes = []; losses = refl; opened = refl }
    by_status IsFlushing = on (nat_lt ((region_at r s.regions).written + 1) flash.region_pages)
    by_status OnFlash = record { cause = Fault; hashes = []; losses = refl; opened = refl }
    by_status Draining = record { cause = Fault; hashes = []; losses = refl; opened = refl }

-- ---- the notes of an outcome

ends_of_regions : (flash : FlashConfig) (flushed cleared : Option ℕ) → AllOfRegions flash (region_note Flushed flushed ++ region_note Cleared cleared)
ends_of_regions flash None None = tt
ends_of_regions flash None (Some r) = (tt, tt)
ends_of_regions flash (Some q) None = (tt, tt)
ends_of_regions flash (Some q) (Some r) = (tt, (tt, tt))

lost_of_regions : (flash : FlashConfig) (cause : Cause) (hashes : List ℕ) (rest : List Note) → AllOfRegions flash rest → AllOfRegions flash (map (λ (loss : engine.Loss). Lose loss.scope loss.cause) (steps.lost cause hashes) ++ rest)
lost_of_regions flash cause [] rest h = h
lost_of_regions flash cause (hash ∷ hashes) rest h = (tt, lost_of_regions flash cause hashes rest h)

pub told_of_regions : (flash : FlashConfig) (outcome : engine.Outcome) → Plain outcome → AllOfRegions flash (told outcome)
told_of_regions flash outcome p = rw p.losses (lost_of_regions flash p.cause p.hashes (region_note Flushed outcome.flushed ++ region_note Cleared outcome.cleared) (ends_of_regions flash outcome.flushed outcome.cleared))

pub page_up : (flash : FlashConfig) (r i : ℕ) → flash.buckets ≤ page_no flash r i
page_up flash r i = omega arith

-- ---- an operation of regions is over

pub none_raised : (stones : List Tombstone) → filter (ends_with Flushing) stones ≡ []
none_raised [] = refl
none_raised (stone ∷ stones) = none_raised stones

all_stand : (stones : List Tombstone) → filter (λ stone. not (ends_with Flushing stone)) stones ≡ stones
all_stand [] = refl
all_stand (stone ∷ stones) = ap (λ rest. stone ∷ rest) (all_stand stones)

pub lost_notes : (cause : Cause) (hashes : List ℕ) → loss_notes (steps.lost cause hashes) ≡ map (λ (loss : engine.Loss). Lose loss.scope loss.cause) (steps.lost cause hashes)
lost_notes cause [] = refl
lost_notes cause (hash ∷ hashes) = ap (λ rest. Lose (scopes.Hash hash None) cause ∷ rest) (lost_notes cause hashes)

pub no_bucket : (cause : Cause) (hashes : List ℕ) → bucket_lost (steps.lost cause hashes) ≡ None
no_bucket cause [] = refl
no_bucket cause (hash ∷ hashes) = refl

pub holds_is : (outcome : engine.Outcome) (nvm : Nvm) → Plain outcome → holds outcome nvm ≡ changed (map (λ (loss : engine.Loss). Lose loss.scope loss.cause) outcome.losses) nvm
holds_is outcome nvm p = rw (p.opened, p.losses, no_bucket p.cause p.hashes, lost_notes p.cause p.hashes) (ap (λ part. changed part nvm) (append-nil (map (λ (loss : engine.Loss). Lose loss.scope loss.cause) (steps.lost p.cause p.hashes))))

raise_is : (nvm : Nvm) → raise (ends_with Flushing) nvm ≡ changed [] nvm
raise_is nvm = λ i. record { nvm = record nvm { tombstones = all_stand nvm.tombstones i }; part = map (λ (stone : Tombstone). Raised stone.key) (none_raised nvm.tombstones i) }

pub settled_is : (outcome : engine.Outcome) (nvm : Nvm) → Plain outcome → settled Flushing outcome nvm ≡ changed (told outcome) nvm
settled_is outcome nvm p =
    ap (λ (first : Changed). and_then first (λ nvm. and_then (raise (ends_with Flushing) nvm) (changed (closing_notes Flushing outcome)))) (holds_is outcome nvm p)
    ∙ ap (λ (second : Changed). behind (map (λ (loss : engine.Loss). Lose loss.scope loss.cause) outcome.losses) (and_then second (changed (closing_notes Flushing outcome)))) (raise_is nvm)

-- ---- large puts

-- after the notes of a region step no put is under way, unless there are none
part_rested : (flash flash2 : FlashConfig) (older : List Note) (note : Note) (part : List Note) (key : List ℕ) → IsOfRegions flash note → AllOfRegions flash part → is_put_of key (put_under_way flash2 (past (note ∷ older) part)) ≡ false
part_rested flash flash2 older note [] key h all = later note h
  where
    later : (note : Note) → IsOfRegions flash note → is_put_of key (put_under_way flash2 (note ∷ older)) ≡ false
    later (Lose (scopes.Hash hash None) cause) h = refl
    later (Wrote page bytes done) h = refl
    later (Read page bytes) h = refl
    later (Flushed r) h = refl
    later (Cleared r) h = refl
    later note h = absurd h
part_rested flash flash2 older note (next ∷ part) key h all = part_rested flash flash2 (note ∷ older) next part key all.0 all.1

pub rested_after : (flash flash2 : FlashConfig) (older part : List Note) (key : List ℕ) → AllOfRegions flash part → is_put_of key (put_under_way flash2 (past older part)) ≡ true → is_put_of key (put_under_way flash2 older) ≡ true
rested_after flash flash2 older [] key all h = h
rested_after flash flash2 older (note ∷ part) key all h = absurd (not_both (is_put_of key (put_under_way flash2 (past (note ∷ older) part))) h (part_rested flash flash2 older note part key all.0 all.1))
  where
    not_both : (b : Bool) → b ≡ true → b ≡ false → ⊥
    not_both true h f = cc
    not_both false h f = cc
