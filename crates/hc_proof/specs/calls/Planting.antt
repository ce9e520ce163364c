-- What `plant` does, for an insert, an add that doesn't wait, and an add that waited; and `uproot`.
use Rattle.std.specs.Prelude.{◌≡◌, ℕ, true, false, List, ◌∷◌, ◌||◌, Option, Some, None, is_some}
use Rattle.hc_types.specs.Config.{Config}
use Rattle.hc_types.specs.declared.config.FlashConfig.{FlashConfig}
use Rattle.hc_memory.specs.Item.{Handle, charge_by, item_by}
use Rattle.hc_memory.specs.Charges.{is_open, closed}
use Rattle.hc_memory.specs.Memory.{linked_at}
use Rattle.hc_machine.specs.items.Items.{items_of}
use Rattle.hc_history.specs.Note.{Note, Reply, Stored, Did}
use Rattle.hc_history.specs.Books.{Entry, entry_at}
use Rattle.hc_history.specs.Regions.{begins, is_put_of, put_under_way}
use Rattle.hc_history.specs.Pages.{bytes_at}
use Rattle.hc_history.specs.Lawful.{IsChanged, freed_since, past}
use Rattle.hc_machine.specs.Cache.{Cache, Told}
use Rattle.hc_machine.specs.Calls.{is_kept_in, waiting_at, buried_at}
use Rattle.hc_machine.specs.Waiting.{plant, uproot}
use Rattle.hc_invariant.specs.Standing.{Placed, PlacedAt, written_at, small_at, large_at}
use Rattle.hc_invariant.specs.Good.{IsSized, fills_of}
use Rattle.hc_invariant.specs.Laws.{LawfulIn}
use Rattle.hc_proof.specs.frames.Midst.{only}
use Rattle.hc_proof.specs.frames.Rest.{Rest, SameCalls}

-- where the key stands, for a map that has this under it
abbrev pub PlacedFor : Option Entry → List Note → Cache → List ℕ → Type 0
PlacedFor m older cache key =
    Placed (linked_at key cache.memory.pools) (waiting_at cache.nvm key) (written_at cache.nvm key) (buried_at cache.nvm key)
    (small_at (bytes_at older) cache.nvm key) (large_at (bytes_at older) cache.nvm key) m

-- the last note tells no large put of the key
abbrev pub RestsFrom : Option FlashConfig → List Note → List ℕ → Type 0
RestsFrom None older key = Unit {0}
RestsFrom (Some flash) older key = is_put_of key (put_under_way flash older) ≡ false

-- what `plant` leaves, before the call that it is done for is answered
pub record Planted (config : Config) (older : List Note) (handle : Handle) (call : ℕ) (tail : List Note) (cache : Cache) (told : Told) : Type 0 where
  pub lawful : LawfulIn config older told.part (Did call Stored ∷ tail)
  pub rest : Rest config (past older told.part) told.cache (items_of told.cache.memory.pools) (only handle.key)
  -- its key stands as it does for a map with the handle's value: `Did` makes that the map
  pub stands : PlacedFor (Some (record { value = handle.value; expiry = handle.expiry })) (past older told.part) told.cache handle.key
  pub linked : linked_at handle.key told.cache.memory.pools ≡ Some (item_by false handle)
  pub calls : SameCalls older (past older told.part) cache told.cache
  -- the map still has what it had under the key
  pub entry : entry_at config.flash (past older told.part) handle.key ≡ entry_at config.flash older handle.key
  pub same_clock : told.cache.now ≡ cache.now
  pub fills : fills_of told.cache.nvm ≡ fills_of cache.nvm
  pub charges : told.cache.memory.charges ≡ closed handle.number cache.memory.charges

-- Its key may be on its way as to fills (an insert's: its fill still stands in nvm.fills). `begins`: by the books an Unqueued
-- that isn't right after the Begin of a call of the key is a large put; an add that waited has no put in the queue.
abbrev pub PlantKeeps : Type 0
PlantKeeps = (config : Config) (older : List Note) (cache : Cache) (handle : Handle) (call : ℕ) (tail : List Note)
    → Rest config older cache (items_of cache.memory.pools) (only handle.key)
    → PlacedAt config.flash older cache handle.key
    → (is_some (waiting_at cache.nvm handle.key) ≡ true → begins older handle.key ≡ true)
    → RestsFrom config.flash older handle.key
    → is_open (charge_by handle) cache.memory.charges ≡ true
    → is_kept_in cache.nvm handle.number ≡ false
    → IsSized handle.key handle.value handle.expiry
    → IsChanged older handle.key (Did call Stored ∷ tail)
    → Planted config older handle call tail cache (plant handle cache)

-- ---- the same for a remove

-- what it leaves, before the call that it is done for is answered
pub record Uprooted (config : Config) (older : List Note) (key : List ℕ) (call : ℕ) (reply : Reply) (tail : List Note) (cache : Cache) (told : Told) : Type 0 where
  pub lawful : LawfulIn config older told.part (Did call reply ∷ tail)
  pub rest : Rest config (past older told.part) told.cache (items_of told.cache.memory.pools) (only key)
  pub stands : PlacedFor None (past older told.part) told.cache key
  pub linked : linked_at key told.cache.memory.pools ≡ None
  pub calls : SameCalls older (past older told.part) cache told.cache
  pub entry : entry_at config.flash (past older told.part) key ≡ entry_at config.flash older key
  pub same_clock : told.cache.now ≡ cache.now
  pub fills : fills_of told.cache.nvm ≡ fills_of cache.nvm
  -- what a remove answers by
  pub freed : (call : ℕ) → freed_since (past older told.part) call key ≡ (is_some (linked_at key cache.memory.pools) || freed_since older call key)

-- premises as for `plant`
abbrev pub UprootKeeps : Type 0
UprootKeeps = (config : Config) (older : List Note) (cache : Cache) (key : List ℕ) (call : ℕ) (reply : Reply) (tail : List Note)
    → Rest config older cache (items_of cache.memory.pools) (only key)
    → PlacedAt config.flash older cache key
    → (is_some (waiting_at cache.nvm key) ≡ true → begins older key ≡ true)
    → RestsFrom config.flash older key
    → IsChanged older key (Did call reply ∷ tail)
    → Uprooted config older key call reply tail cache (uproot key cache)
