-- The counts over a log.
use Rattle.std.specs.Prelude.{Bool, true, false, List}
use Rattle.hc_types.specs.Tally.{count}
use Rattle.hc_history.specs.declared.stats.Stats.{Stats}
use Rattle.hc_history.specs.Note.{Stored, Hit, Miss, FoundInMemory, NotInMemory, Note, Did, Lose, Read, Wrote}

-- an insert, or an add that stores, is answered
abbrev pub is_stored : Note → Bool
is_stored (Did call Stored) = true
is_stored note = false

-- a find is answered with a value
abbrev pub is_hit : Note → Bool
is_hit (Did call (Hit value)) = true
is_hit note = false

-- a find is answered without one
abbrev pub is_miss : Note → Bool
is_miss (Did call Miss) = true
is_miss note = false

-- a remove is answered
abbrev pub is_removed : Note → Bool
is_removed (Did call FoundInMemory) = true
is_removed (Did call NotInMemory) = true
is_removed note = false

-- something is forgotten
abbrev pub is_loss : Note → Bool
is_loss (Lose scope cause) = true
is_loss note = false

-- a page was read, or a read of it failed
abbrev pub is_read : Note → Bool
is_read (Read page result) = true
is_read note = false

-- a page was written, or a write of it failed
abbrev pub is_write : Note → Bool
is_write (Wrote page bytes is_written) = true
is_write note = false

abbrev pub counts_of : List Note → Stats
counts_of log = record {
  stored = count is_stored log;
  hits = count is_hit log;
  misses = count is_miss log;
  removes = count is_removed log;
  losses = count is_loss log;
  reads = count is_read log;
  writes = count is_write log;
}
