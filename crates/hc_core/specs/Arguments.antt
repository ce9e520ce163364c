-- What is known of each call's arguments by their types.
use Rattle.std.specs.Prelude.{[]}
use Rattle.hc_invariant.specs.Good.{IsSized}
use Rattle.hc_machine.specs.Call.{CacheCall, Allocates, Inserts, Adds}

-- its key is within its limits, and its item expires at a second
abbrev pub CallFits : CacheCall → Type 0
CallFits (Allocates pool key value ttl) = IsSized key [] 0
CallFits (Inserts client handle) = IsSized handle.key [] handle.expiry
CallFits (Adds client handle) = IsSized handle.key [] handle.expiry
CallFits event = Unit {0}
