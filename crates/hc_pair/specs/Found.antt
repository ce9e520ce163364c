-- Which operation it is, and what is next.
use Rattle.std.specs.Prelude.{Bool, true, false}
use Rattle.hc_engines.specs.Engine.{Op, Put, Get, Delete, Flush, Reclaim, Next, Busy, Io, Done}

abbrev pub is_reclaim : Op → Bool
is_reclaim Reclaim = true
is_reclaim (Put e) = false
is_reclaim (Get key) = false
is_reclaim (Delete key) = false
is_reclaim Flush = false

-- a page is to be read or written
abbrev pub is_io : Next → Bool
is_io Busy = false
is_io (Io order outcome) = true
is_io (Done outcome) = false
