-- What a client of shards did: a record for each shard.
use Rattle.std.specs.Prelude.{◌≡◌, ℕ, ◌++◌, List, [], ◌∷◌, Some, map, length, take, drop, slice_get, slice_set}
use Rattle.hc_client_records.specs.Records.{Record}

-- the client of this shard did so, and no other's record changed
pub record AtShard (shard : ℕ) (Did : Record → Record → Type 0) (old new : List Record) : Type 0 where
  pub before : Record
  pub after : Record
  pub was : slice_get old shard ≡ Some before
  pub did : Did before after
  pub kept : new ≡ slice_set old shard after

abbrev pub forgotten : Record → Record
forgotten r = record r { entries = []; open_calls = []; ticks = [] }

-- a client of so many shards, which did nothing that it could forget
abbrev pub AreNew : ℕ → List Record → Type 0
AreNew shards rows = (length rows ≡ shards) × (map forgotten rows ≡ rows)

-- the clock was moved once more, to this moment
abbrev pub ticked : ℕ → Record → Record
ticked moment r = record r { ticks = r.ticks ++ moment ∷ [] }

-- the clocks of the first so many shards were moved
abbrev pub ticked_in : ℕ → ℕ → List Record → List Record
ticked_in moment shards rows = map (ticked moment) (take shards rows) ++ drop shards rows
