-- When the keys of a cache were changed last. A ticket is a moment: the number of changes so far.
use Rattle.std.specs.Prelude.{ℕ, ◌+◌, ◌%◌, ◌==◌, nat_lt, nat_le, Bool, not, ◌&&◌, List, [], ◌∷◌, ◌++◌, length, Option, Some, None, filter, find, replicate, slice_index, slice_set, if◌then◌else◌}
use Rattle.std.specs.List.{list_any}
use Rattle.hc_types.specs.Digest.{digest_of}
use Rattle.hc_lease.specs.declared.stamps.Adding.{Adding}

pub record Stamps : Type 0 where
  -- how many changes there were
  pub count : ℕ
  -- which of them was the last of a key of the slot: 0 where there was none
  pub slots : List ℕ
  -- the adds that wait for flash, until their reply is handed out
  pub adds : List Adding
  -- how many more adds can wait
  pub room : ℕ

-- the slot of a key, of so many
abbrev pub slot_of : List ℕ → ℕ → ℕ
slot_of key slots = digest_of key % slots

-- the number of the next change; the last number stays, and no ticket has it
abbrev pub next_count : ℕ → ℕ
next_count count = if nat_lt count 18446744073709551615 then count + 1 else count

-- a key of the slot is changed
abbrev pub stamped : ℕ → Stamps → Stamps
stamped slot stamps = record stamps { count = next_count stamps.count; slots = slice_set stamps.slots slot (next_count stamps.count) }

abbrev pub changed : List ℕ → Stamps → Stamps
changed key stamps = stamped (slot_of key (length stamps.slots)) stamps

-- behind a restart of a cache of whose keys there were so many changes: each key counts as changed, by one change more, and no
-- add waits; there may be another number of slots
abbrev pub after_restart : ℕ → ℕ → Stamps
after_restart slots changes = record { count = next_count changes; slots = replicate slots (next_count changes); adds = []; room = 0 }

-- the ticket that is handed out now; none once the numbers are used up
abbrev pub ticket_at : Stamps → Option ℕ
ticket_at stamps = if nat_lt stamps.count 18446744073709551615 then Some stamps.count else None

abbrev pub is_add_in : ℕ → Adding → Bool
is_add_in slot add = add.slot == slot

-- no key of the slot was changed since the ticket was handed out, and no add of one waits
abbrev pub is_fresh_in : ℕ → ℕ → Stamps → Bool
is_fresh_in slot ticket stamps = nat_le (slice_index stamps.slots slot) ticket && not (list_any (is_add_in slot) stamps.adds)

abbrev pub is_fresh : List ℕ → ℕ → Stamps → Bool
is_fresh key ticket stamps = is_fresh_in (slot_of key (length stamps.slots)) ticket stamps

-- an add of a key of the slot waits from here on, whose room is another matter
abbrev pub with_add_in : ℕ → ℕ → Stamps → Stamps
with_add_in call slot stamps = record stamps { adds = stamps.adds ++ record { call = call; slot = slot } ∷ [] }

abbrev pub with_add : ℕ → List ℕ → Stamps → Stamps
with_add call key stamps = with_add_in call (slot_of key (length stamps.slots)) stamps

abbrev pub is_of_call : ℕ → Adding → Bool
is_of_call call add = add.call == call

abbrev pub is_add : ℕ → ℕ → Adding → Bool
is_add call slot add = is_of_call call add && is_add_in slot add

-- the reply of the add is handed out: what it has stored counts as stored now
abbrev pub ended : Option Adding → Stamps → Stamps
ended None stamps = stamps
ended (Some add) stamps = stamped add.slot (record stamps { adds = filter (λ other. not (is_add add.call add.slot other)) stamps.adds })

-- the reply of a call that waited is handed out
abbrev pub replied : ℕ → Stamps → Stamps
replied call stamps = ended (find (is_of_call call) stamps.adds) stamps
