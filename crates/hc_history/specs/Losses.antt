-- Losses by what they came of.
use Rattle.std.specs.Prelude.{◌≡◌, ℕ, ◌+◌, List, [], ◌∷◌, Option, Some, None, refl}
use Rattle.hc_types.specs.Loss as loss
use Rattle.hc_types.specs.Loss.{Cause, Evicted, BucketFull, Reclaimed, NoCleanRegion, Collision, Expired, Fault}
use Rattle.hc_types.specs.declared.loss.Why.TheVariants.{NoFlash, Tombstone, NotAdmitted, TooLarge, QueueFull}
use Rattle.hc_history.specs.Note.{Note, Lose, Freed}
use Rattle.hc_history.specs.declared.losses.Losses.{Losses}
use Rattle.hc_history.specs.declared.losses.Reason.{Reason}
use Rattle.hc_history.specs.declared.losses.Reason.TheVariants as by

-- a cause, without what it names
abbrev pub reason_of : Cause → Reason
reason_of (Evicted pool want why) = by.Evicted why
reason_of BucketFull = by.BucketFull
reason_of (Reclaimed region) = by.Reclaimed
reason_of NoCleanRegion = by.NoCleanRegion
reason_of (Collision key) = by.Collision
reason_of Expired = by.Expired
reason_of Fault = by.Fault

abbrev pub no_losses : Losses
no_losses = record {
  no_flash = 0;
  tombstone = 0;
  not_admitted = 0;
  too_large = 0;
  queue_full = 0;
  expired = 0;
  bucket_full = 0;
  reclaimed = 0;
  no_clean_region = 0;
  collision = 0;
  fault = 0;
}

-- one more of this reason
abbrev pub losses_one : Losses → Reason → Losses
losses_one losses (by.Evicted NoFlash) = record losses { no_flash = losses.no_flash + 1 }
losses_one losses (by.Evicted Tombstone) = record losses { tombstone = losses.tombstone + 1 }
losses_one losses (by.Evicted NotAdmitted) = record losses { not_admitted = losses.not_admitted + 1 }
losses_one losses (by.Evicted TooLarge) = record losses { too_large = losses.too_large + 1 }
losses_one losses (by.Evicted QueueFull) = record losses { queue_full = losses.queue_full + 1 }
losses_one losses by.Expired = record losses { expired = losses.expired + 1 }
losses_one losses by.BucketFull = record losses { bucket_full = losses.bucket_full + 1 }
losses_one losses by.Reclaimed = record losses { reclaimed = losses.reclaimed + 1 }
losses_one losses by.NoCleanRegion = record losses { no_clean_region = losses.no_clean_region + 1 }
losses_one losses by.Collision = record losses { collision = losses.collision + 1 }
losses_one losses by.Fault = record losses { fault = losses.fault + 1 }

-- the reason that a note tells, of a loss
abbrev pub reason_in : Note → Option Reason
reason_in (Lose scope cause) = Some (reason_of cause)
reason_in note = None

abbrev pub losses_if : Losses → Option Reason → Losses
losses_if losses None = losses
losses_if losses (Some reason) = losses_one losses reason

-- these losses, and those of a part
abbrev pub losses_more : Losses → List Note → Losses
losses_more losses [] = losses
losses_more losses (note ∷ part) = losses_more (losses_if losses (reason_in note)) part

-- all losses
abbrev pub total_lost : Losses → ℕ
total_lost losses =
    losses.no_flash + losses.tombstone + losses.not_admitted + losses.too_large + losses.queue_full
    + losses.expired + losses.bucket_full + losses.reclaimed + losses.no_clean_region + losses.collision + losses.fault

-- of two evicted items, one of which finds the queue full, a fault, and what is no loss
abbrev worked_notes : List Note
worked_notes =
    Lose (loss.Key (97 ∷ [])) (Evicted 0 64 QueueFull) ∷ Freed 1 ∷ Lose (loss.Bucket 3) Fault
    ∷ Lose (loss.Key (98 ∷ [])) (Evicted 1 64 NoFlash) ∷ Lose (loss.Bucket 4) Fault ∷ []

worked_losses : losses_more no_losses worked_notes ≡ record no_losses { queue_full = 1; no_flash = 1; fault = 2 }
worked_losses = refl
