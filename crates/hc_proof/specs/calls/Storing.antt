-- What an insert stores, and an add that doesn't wait.
use Rattle.std.specs.Prelude.{◌≡◌, ◌⊎◌, ℕ, true, List, None}
use Rattle.hc_types.specs.Config.{Config}
use Rattle.hc_memory.specs.Item.{Handle}
use Rattle.hc_history.specs.Note.{Note, Op, Insert, Add, Stored}
use Rattle.hc_history.specs.Books.{value_at}
use Rattle.hc_machine.specs.Cache.{Cache, Replied, and_then, answers}
use Rattle.hc_machine.specs.Calls.{begin, store, is_known}
use Rattle.hc_invariant.specs.Good.{Agrees, IsSized}
use Rattle.hc_invariant.specs.Laws.{Keeps}

-- the call stores the handle: an insert, or an add where the map has no unexpired value
abbrev pub MayStore : Config → List Note → Handle → Op → Type 0
MayStore config older handle op = (op ≡ Insert handle.key handle.value handle.expiry) ⊎ ((op ≡ Add handle.key handle.value handle.expiry) × (value_at config.flash older handle.key ≡ None))

abbrev pub StoreKeeps : Type 0
StoreKeeps = (config : Config) (older : List Note) (cache : Cache) (client : ℕ) (handle : Handle) (op : Op) → Agrees config older cache → IsSized handle.key handle.value handle.expiry
    → is_known cache handle ≡ true → MayStore config older handle op → Keeps config older (answers (Replied Stored) (and_then (begin client op cache) (store handle)))
