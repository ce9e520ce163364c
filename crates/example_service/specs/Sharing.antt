-- What a client serves, and what its record has of it.
use Rattle.std.specs.Prelude.{◌≡◌, ◌⊎◌, ℕ, List, ◌++◌, codes}
use Rattle.hc_history.specs.Note.{Op, Reply, Find, Insert, Hit, Miss, Stored}
use Rattle.hc_client_records.specs.Records.{Record, IsRecorded}
use Rattle.example_service.specs.declared.sharing.Served.{Served}
use Rattle.example_service.specs.declared.sharing.Served.TheVariants.{Cached, Loaded}

-- what the database has under a key
abbrev pub row_of : List ℕ → List ℕ
row_of key = codes "the row of " ++ key

-- the last call in a record asked this, and was answered so
abbrev pub IsLast : Op → Reply → Record → Type 0
IsLast op reply after = (before : Record) × IsRecorded before op reply after

-- What comes from the cache is what the client's last call found. What was loaded is the database's row; the client's last
-- call missed it, or stored that very row.
abbrev pub IsServed : List ℕ → Served → Record → Type 0
IsServed key (Cached value) after = IsLast (Find key) (Hit value) after
IsServed key (Loaded row) after = (row ≡ row_of key) × (IsLast (Find key) Miss after ⊎ ((expiry : ℕ) × IsLast (Insert key row expiry) Stored after))
