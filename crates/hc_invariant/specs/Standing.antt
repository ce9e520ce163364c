-- Where a key stands.
use Rattle.std.specs.Prelude.{◌≡◌, ℕ, Bool, true, false, List, [], ◌∷◌, Option, Some, None, if◌then◌else◌}
use Rattle.std.specs.Str.{bytes_eq}
use Rattle.hc_types.specs.declared.config.FlashConfig.{FlashConfig}
use Rattle.hc_types.specs.FlashEntry.{FlashEntry}
use Rattle.hc_engines.specs.Engine.{Op, Put, Pages}
use Rattle.hc_engines.specs.small.BigHash as bighash
use Rattle.hc_engines.specs.small.Held as small
use Rattle.hc_engines.specs.large.Held as large
use Rattle.hc_memory.specs.Item.{Item}
use Rattle.hc_memory.specs.Memory.{linked_at}
use Rattle.hc_history.specs.Note.{Note}
use Rattle.hc_history.specs.Books.{Entry, entry_at}
use Rattle.hc_history.specs.Pages.{bytes_at}
use Rattle.hc_machine.specs.Nvm.{Nvm}
use Rattle.hc_machine.specs.Evicting.{entry_of_item}
use Rattle.hc_machine.specs.Cache.{Cache}
use Rattle.hc_machine.specs.Calls.{waiting_at, buried_at}

-- what the map has for an item, and for an entry
abbrev pub map_of : FlashEntry → Entry
map_of e = record { value = e.value; expiry = e.expiry }

abbrev pub map_of_item : Item → Entry
map_of_item i = record { value = i.value; expiry = i.expiry }

-- Where one key stands: its item; its entry that waits, that is being written; whether it is buried; its entry that the
-- small engine holds, that the large one holds; and what the map has. Each way to stand is a line, and there is no other.
abbrev pub Placed : Option Item → Option FlashEntry → Option FlashEntry → Bool → Option FlashEntry → Option FlashEntry → Option Entry → Type 0
-- nowhere
Placed None None None false None None m = m ≡ None
-- in memory alone, and not clean
Placed (Some i) None None false None None m = (m ≡ Some (map_of_item i)) × (i.clean ≡ false)
-- in memory, clean, and the same in one engine
Placed (Some i) None None false (Some e) None m = (m ≡ Some (map_of_item i)) × (i.clean ≡ true) × (e ≡ entry_of_item i)
Placed (Some i) None None false None (Some e) m = (m ≡ Some (map_of_item i)) × (i.clean ≡ true) × (e ≡ entry_of_item i)
-- waiting alone, being written alone, in one engine alone
Placed None (Some e) None false None None m = m ≡ Some (map_of e)
Placed None None (Some e) false None None m = m ≡ Some (map_of e)
Placed None None None false (Some e) None m = m ≡ Some (map_of e)
Placed None None None false None (Some e) m = m ≡ Some (map_of e)
-- buried: not waiting, not clean, not in the large engine; what is written and what the small engine has is stale
Placed None None w true s None m = m ≡ None
Placed (Some i) None w true s None m = (m ≡ Some (map_of_item i)) × (i.clean ≡ false)
Placed i q w b s l m = ⊥

-- ---- what the state says at a key

abbrev pub put_in : List ℕ → Op → Option FlashEntry
put_in key (Put e) = if bytes_eq e.key key then Some e else None
put_in key op = None

abbrev pub first_of : {A : Type 0} → Option A → Option A → Option A
first_of (Some x) other = Some x
first_of None other = other

-- the entry of the key that a job of the small engine writes
abbrev pub written_by : List ℕ → List bighash.Job → Option FlashEntry
written_by key [] = None
written_by key (job ∷ jobs) = first_of (put_in key job.op) (written_by key jobs)

abbrev pub written_at : Option Nvm → List ℕ → Option FlashEntry
written_at None key = None
written_at (Some nvm) key = written_by key nvm.pair.small.jobs

abbrev pub small_at : Pages → Option Nvm → List ℕ → Option FlashEntry
small_at pages None key = None
small_at pages (Some nvm) key = small.held nvm.pair.small pages key

abbrev pub large_at : Pages → Option Nvm → List ℕ → Option FlashEntry
large_at pages None key = None
large_at pages (Some nvm) key = (large.held nvm.pair.small.flash pages nvm.pair.large key)

-- where the key stands in this cache, after this history
abbrev pub PlacedAt : Option FlashConfig → List Note → Cache → List ℕ → Type 0
PlacedAt flash older cache key =
    Placed (linked_at key cache.memory.pools) (waiting_at cache.nvm key) (written_at cache.nvm key) (buried_at cache.nvm key)
    (small_at (bytes_at older) cache.nvm key) (large_at (bytes_at older) cache.nvm key) (entry_at flash older key)
