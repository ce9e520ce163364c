-- What is heard of a log, which may not be kept.
use Rattle.std.specs.Prelude.{◌≡◌, ℕ, ◌+◌, ◌-◌, ◌^◌, Bool, true, false, List, [], ◌++◌, filter, Option, Some, None}
use Rattle.hc_types.specs.Tally.{count}
use Rattle.hc_history.specs.Note.{Note, Reply}
use Rattle.hc_history.specs.Note as note
use Rattle.hc_history.specs.Stats.{is_stored, is_hit, is_miss, is_removed, is_loss, is_read, is_write}
use Rattle.hc_history.specs.declared.stats.Stats.{Stats}
use Rattle.hc_history.specs.declared.stats.Kind.{Kind}
use Rattle.hc_history.specs.declared.stats.Kind.TheVariants.{Stored, Hit, Miss, Removed, Lost, Read, Written}
use Rattle.hc_history.specs.declared.losses.Losses.{Losses}
use Rattle.hc_history.specs.Losses.{losses_more, losses_one, total_lost}

pub data Heard : Type 0 where
  -- nothing
  Nothing : Heard
  -- all of it, the oldest note first
  Log : (log : List Note) → Heard
  -- its counts, and the losses that weren't taken yet
  Counts : (counts : Stats) (losses : List Note) → Heard
  -- its counts, and how many losses came of each reason
  Sums : (counts : Stats) (losses : Losses) → Heard

-- these counts, and those of a part
abbrev pub counts_more : Stats → List Note → Stats
counts_more counts part = record {
  stored = counts.stored + count is_stored part;
  hits = counts.hits + count is_hit part;
  misses = counts.misses + count is_miss part;
  removes = counts.removes + count is_removed part;
  losses = counts.losses + count is_loss part;
  reads = counts.reads + count is_read part;
  writes = counts.writes + count is_write part;
}

-- the losses of a part
abbrev pub losses_of : List Note → List Note
losses_of part = filter is_loss part

-- what is heard once this part is told
abbrev pub told_more : Heard → List Note → Heard
told_more Nothing part = Nothing
told_more (Log log) part = Log (log ++ part)
told_more (Counts counts losses) part = Counts (counts_more counts part) (losses ++ losses_of part)
told_more (Sums counts losses) part = Sums (counts_more counts part) (losses_more losses part)

-- one more of this kind
abbrev pub counts_one : Stats → Kind → Stats
counts_one counts Stored = record counts { stored = counts.stored + 1 }
counts_one counts Hit = record counts { hits = counts.hits + 1 }
counts_one counts Miss = record counts { misses = counts.misses + 1 }
counts_one counts Removed = record counts { removes = counts.removes + 1 }
counts_one counts (Lost reason) = record counts { losses = counts.losses + 1 }
counts_one counts Read = record counts { reads = counts.reads + 1 }
counts_one counts Written = record counts { writes = counts.writes + 1 }

-- as what an answer is counted: an add that found the key's value, nowhere
abbrev pub kind_of : Reply → Option Kind
kind_of note.Stored = Some Stored
kind_of note.Exists = None
kind_of (note.Hit value) = Some Hit
kind_of note.Miss = Some Miss
kind_of note.FoundInMemory = Some Removed
kind_of note.NotInMemory = Some Removed

-- the losses by their reasons, once something of this kind is counted
abbrev pub losses_count : Losses → Kind → Losses
losses_count losses (Lost reason) = losses_one losses reason
losses_count losses kind = losses

-- what is heard once something of this kind is counted, where its note isn't kept
abbrev pub told_count : Heard → Kind → Heard
told_count (Counts counts losses) kind = Counts (counts_one counts kind) losses
told_count (Sums counts losses) kind = Sums (counts_one counts kind) (losses_count losses kind)
told_count heard kind = heard

-- the whole log is kept
abbrev pub is_log : Heard → Bool
is_log (Log log) = true
is_log heard = false

-- the note of a loss is kept: a loss isn't only counted
abbrev pub keeps_losses : Heard → Bool
keeps_losses (Log log) = true
keeps_losses (Counts counts losses) = true
keeps_losses heard = false

-- something is heard of it
abbrev pub Hears : Heard → Type 0
Hears Nothing = ⊥
Hears heard = Unit {0}

-- a thing that is made only where the log is kept, as a note
abbrev pub where_kept : {X : Type 0} → Heard → X → Option X
where_kept (Log log) thing = Some thing
where_kept heard thing = None

-- the log has this, where it is kept
abbrev pub IfLog : Heard → (List Note → Type 0) → Type 0
IfLog (Log log) p = p log
IfLog heard p = Unit {0}

-- the losses were taken
abbrev pub losses_taken : Heard → Heard
losses_taken (Counts counts losses) = Counts counts []
losses_taken heard = heard

-- all that was counted
abbrev pub total : Stats → ℕ
total counts = counts.stored + counts.hits + counts.misses + counts.removes + counts.losses + counts.reads + counts.writes

-- how many notes can still be counted in 64 bits
abbrev pub left_to_count : Stats → ℕ
left_to_count counts = 2 ^ 64 - 1 - total counts

abbrev pub no_counts : Stats
no_counts = record { stored = 0; hits = 0; misses = 0; removes = 0; losses = 0; reads = 0; writes = 0 }

-- counts, and the losses in them by their reasons
pub record Summed : Type 0 where
  pub counts : Stats
  pub losses : Losses

-- the reasons add up to the losses
abbrev pub AddUp : Summed → Type 0
AddUp summed = total_lost summed.losses ≡ summed.counts.losses
