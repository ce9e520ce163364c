-- What is true between two steps: it follows from the invariant of a run.
use Rattle.std.specs.Prelude.{◌≡◌, ◌≢◌, ℕ, true, false, List, [], reverse, Option, Some, None, is_some}
use Rattle.hc_types.specs.Config.{Config}
use Rattle.hc_engines.specs.Engine.{Read, Write}
use Rattle.hc_engines.specs.large.Region.{lowest_clean}
use Rattle.hc_engines.specs.large.Block.{Reading, Getting, work_of}
use Rattle.hc_memory.specs.Memory.{linked_at}
use Rattle.hc_history.specs.Note.{Note}
use Rattle.hc_history.specs.Books.{waiting, buried, is_among}
use Rattle.hc_history.specs.Pages.{bytes_at}
use Rattle.hc_history.specs.Lawful.{past}
use Rattle.hc_machine.specs.Nvm.{Nvm, fill_at}
use Rattle.hc_machine.specs.World.{World, order_in}
use Rattle.hc_invariant.specs.Standing.{PlacedAt}
use Rattle.hc_machine.specs.items.Items.{items_of}
use Rattle.hc_machine.specs.Calls.{waiting_at, buried_at}
use Rattle.hc_invariant.specs.Tells.{ChargesTell, keys_of}
use Rattle.hc_invariant.specs.Fresh.{AllFresh}
use Rattle.hc_invariant.specs.Good.{GoodRun, fills_of}
use Rattle.hc_proof.specs.frames.Midst.{AllWishes}
use Rattle.hc_theorem.specs.runs.Alone.{Alone}

-- nothing of this region is opened: it isn't the next that would be
abbrev pub ReadsKeepRegions : Option Nvm → Type 0
ReadsKeepRegions None = Unit {0}
ReadsKeepRegions (Some nvm) = (n r : ℕ) (reading : Reading) → work_of n nvm.pair.large.jobs ≡ Some (Getting reading) → lowest_clean 0 nvm.pair.large.regions ≡ Some r → r ≢ reading.place.region

-- the keys of the puts that wait
abbrev pub queued_keys : Option Nvm → List (List ℕ)
queued_keys None = []
queued_keys (Some nvm) = keys_of nvm.queue

-- the page is known
abbrev pub IsKnown : Option (List ℕ) → Type 0
IsKnown page = (bytes : List ℕ) × (page ≡ Some bytes)

pub record Between (config : Config) (log : List Note) (world : World) : Type 0 where
  -- each key stands in one place, with the map's value
  pub placed : (key : List ℕ) → PlacedAt config.flash (past [] log) world.cache key
  -- what waits and what is buried, by the log and by the cache
  pub waits : (key : List ℕ) → is_among key (waiting (past [] log)) ≡ is_some (waiting_at world.cache.nvm key)
  pub stones : (key : List ℕ) → is_among key (buried (past [] log)) ≡ buried_at world.cache.nvm key
  -- the waiting puts stand in the order of the log, the oldest first
  pub queue : queued_keys world.cache.nvm ≡ reverse (waiting (past [] log))
  -- the live charges are those of the books: every sum over them agrees
  pub charges : ChargesTell (past [] log) (items_of world.cache.memory.pools) world.cache.memory.charges world.cache.memory.made
  -- the key of a fill that isn't an orphan is neither linked nor waiting nor buried
  pub fills : (key : List ℕ) → is_some (fill_at key (fills_of world.cache.nvm)) ≡ true
      → (linked_at key world.cache.memory.pools ≡ None) × (waiting_at world.cache.nvm key ≡ None) × (buried_at world.cache.nvm key ≡ false)
  -- and no call that inserted or removed it was answered since the fill was opened
  pub fresh : AllFresh (past [] log) (fills_of world.cache.nvm)
  -- an add that waits is of its fill's key, and its charge is open
  pub adds : AllWishes world.cache.memory (fills_of world.cache.nvm)
  -- a page with a write out has no other order out
  pub alone : Alone world.cache.nvm
  -- a region with a read out isn't opened
  pub reads : ReadsKeepRegions world.cache.nvm
  -- page by page the device agrees with the log, except where a write is out
  pub device : (page : ℕ) → ((n : ℕ) (bytes : List ℕ) → order_in world.cache.nvm n ≢ Some (Write page bytes)) → world.pages page ≡ bytes_at (past [] log) page
  -- a page that is to be read is known: none is ordered that was never written, or whose last write failed
  pub known : (n page : ℕ) → order_in world.cache.nvm n ≡ Some (Read page) → IsKnown (world.pages page)

abbrev pub RunsAreBetween : Type 0
RunsAreBetween = (config : Config) (log : List Note) (world : World) → GoodRun config log world → Between config log world
