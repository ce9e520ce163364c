-- Tickets over a restart: those of before are stale, and the numbers of changes go on.
use Rattle.std.specs.Prelude.{◌≡◌, ℕ, ◌<◌, ◌≤◌, true, false, List, Some}
use Rattle.hc_lease.specs.Stamps.{Stamps, after_restart, ticket_at, is_fresh}

-- each key counts as changed, by one change more, and no add waits; there may be another number of slots
abbrev pub restarted : ℕ → Stamps → Stamps
restarted slots stamps = after_restart slots stamps.count

-- a ticket was handed out where its number isn't above the count, nor the last number of all
abbrev pub OldTicketsAreStale : Type 0
OldTicketsAreStale = (slots : ℕ) (stamps : Stamps) (key : List ℕ) (ticket : ℕ) → 0 < slots → ticket < 18446744073709551615 → ticket ≤ stamps.count → is_fresh key ticket (restarted slots stamps) ≡ false

abbrev pub NewTicketsAreFresh : Type 0
NewTicketsAreFresh = (slots : ℕ) (stamps : Stamps) (key : List ℕ) (ticket : ℕ) → 0 < slots → ticket_at (restarted slots stamps) ≡ Some ticket → is_fresh key ticket (restarted slots stamps) ≡ true
