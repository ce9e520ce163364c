-- What an outcome leaves of the tombstones and the jobs, and what is told of it.
use Rattle.std.specs.Prelude.{ℕ, ◌+◌, ◌==◌, Bool, false, not, List, [], ◌∷◌, ◌++◌, map, filter, Option, Some, None}
use Rattle.hc_types.specs.declared.config.FlashConfig.{FlashConfig}
use Rattle.hc_types.specs.Places.{bucket_at}
use Rattle.hc_types.specs.FlashEntry.{FlashEntry}
use Rattle.hc_engines.specs.Engine.{Loss, Outcome, Next, Busy, Io, Done}
use Rattle.hc_history.specs.Note.{Note, Opened, Raised}
use Rattle.hc_machine.specs.Nvm.{Tombstone, Task, Job}
use Rattle.hc_machine.specs.Takes.{Take, Idle, Finished, Work, region_note, loss_notes, bucket_lost, ends_with, closing_notes, found_in}

-- what is told of the tombstones that end, and those that stand on
abbrev pub raised : (Tombstone → Bool) → List Tombstone → List Note
raised test stones = map (λ (stone : Tombstone). Raised stone.key) (filter test stones)

abbrev pub standing : (Tombstone → Bool) → List Tombstone → List Tombstone
standing test stones = filter (λ stone. not (test stone)) stones

-- those of a bucket that was given up
abbrev pub by_bucket : FlashConfig → Option ℕ → Tombstone → Bool
by_bucket flash None stone = false
by_bucket flash (Some bucket) stone = bucket_at flash stone.key == bucket

abbrev pub held_left : FlashConfig → List Loss → List Tombstone → List Tombstone
held_left flash losses stones = standing (by_bucket flash (bucket_lost losses)) stones

abbrev pub held_part : FlashConfig → Option ℕ → List Loss → List Tombstone → List Note
held_part flash opened losses stones = (region_note Opened opened ++ loss_notes losses) ++ raised (by_bucket flash (bucket_lost losses)) stones

abbrev pub settled_left : FlashConfig → Task → Outcome → List Tombstone → List Tombstone
settled_left flash task outcome stones = standing (ends_with task) (held_left flash outcome.losses stones)

abbrev pub settled_part : FlashConfig → Task → Outcome → List Tombstone → List Note
settled_part flash task outcome stones = held_part flash outcome.opened outcome.losses stones ++ (raised (ends_with task) (held_left flash outcome.losses stones) ++ closing_notes task outcome)

pub record After : Type 0 where
  pub stones : List Tombstone
  pub jobs : List Job
  pub made : ℕ
  pub take : Take
  pub part : List Note
  pub found : Option FlashEntry

-- an operation that was started came to this
abbrev pub after : FlashConfig → Task → Next → List Tombstone → List Job → ℕ → After
after flash task Busy stones jobs made = record { stones = stones; jobs = jobs; made = made; take = Idle; part = []; found = None }
after flash task (Io order outcome) stones jobs made = record {
  stones = held_left flash outcome.losses stones;
  jobs = jobs ++ record { number = made + 1; task = task; order = order } ∷ [];
  made = made + 1;
  take = Work (made + 1) order;
  part = held_part flash outcome.opened outcome.losses stones;
  found = None;
}
after flash task (Done outcome) stones jobs made = record {
  stones = settled_left flash task outcome stones;
  jobs = jobs;
  made = made;
  take = Finished;
  part = settled_part flash task outcome stones;
  found = found_in outcome.answer;
}
