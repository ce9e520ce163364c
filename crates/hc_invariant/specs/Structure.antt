-- What holds of the cache whatever the device answers: of its own lists alone, without a history, pages, or what the engines hold.
use Rattle.std.specs.Prelude.{◌≡◌, ℕ, ◌+◌, ◌<◌, ◌≤◌, ◌==◌, Bool, false, not, ◌&&◌, List, [], ◌∷◌, Option, Some, None}
use Rattle.std.specs.Str.{bytes_eq}
use Rattle.hc_types.specs.Tally.{count}
use Rattle.hc_types.specs.FlashEntry.{FlashEntry}
use Rattle.hc_types.specs.declared.config.FlashConfig.{FlashConfig}
use Rattle.hc_engines.specs.Engine.{Op, Get}
use Rattle.hc_engines.specs.small.BigHash as bighash
use Rattle.hc_engines.specs.large.Block as block
use Rattle.hc_engines.specs.pair.Pair.{Pair}
use Rattle.hc_memory.specs.Item.{Item}
use Rattle.hc_memory.specs.Pool.{is_at}
use Rattle.hc_memory.specs.Memory.{Memory}
use Rattle.hc_machine.specs.items.Items.{items_of, item_has, open_has}
use Rattle.hc_machine.specs.Nvm.{Nvm, Tombstone, Fill, Job, is_put_of, is_stone_of, is_job, is_fill_of, is_number_in, adds}
use Rattle.hc_machine.specs.Cache.{Cache}
use Rattle.hc_machine.specs.Calls.{queue_of}
use Rattle.hc_invariant.specs.Tells.{waiters_of}
use Rattle.hc_invariant.specs.Jobs.{AllWishes}
use Rattle.hc_invariant.specs.LargeAlone.{LargeAlone}
use Rattle.hc_invariant.specs.Good.{fills_of}

abbrev pub stones_of : Option Nvm → List Tombstone
stones_of None = []
stones_of (Some nvm) = nvm.tombstones

-- the configuration of the flash that is there
abbrev pub flash_of : Option Nvm → Option FlashConfig
flash_of None = None
flash_of (Some nvm) = Some nvm.pair.small.flash

-- a key stands in one place at most, and once: it is linked, its put waits, or a fill is to bring it
abbrev pub OnePlace : List Item → List FlashEntry → List Fill → Type 0
OnePlace items queue fills = (key : List ℕ) → count (is_at key) items + (count (is_put_of key) queue + count (is_fill_of key) fills) ≤ 1

-- ---- jobs

abbrev pub is_get_of : List ℕ → Op → Bool
is_get_of key (Get k) = bytes_eq k key
is_get_of key op = false

abbrev pub is_read_of : List ℕ → block.Work → Bool
is_read_of key (block.Getting reading) = bytes_eq reading.key key
is_read_of key (block.Writing region bytes) = false

abbrev pub is_small_job : ℕ → bighash.Job → Bool
is_small_job n job = job.number == n

abbrev pub is_large_job : ℕ → block.Job → Bool
is_large_job n job = job.number == n

-- each operation with this number is a get of the key, so that what it finds is of the key
pub record Asks (pair : Pair) (key : List ℕ) (n : ℕ) : Type 0 where
  pub small : count (λ (job : bighash.Job). is_small_job n job && not (is_get_of key job.op)) pair.small.jobs ≡ 0
  pub large : count (λ (job : block.Job). is_large_job n job && not (is_read_of key job.work)) pair.large.jobs ≡ 0

abbrev pub AsksIf : Pair → List ℕ → Option ℕ → Type 0
AsksIf pair key None = Unit {0}
AsksIf pair key (Some n) = Asks pair key n

abbrev pub AllAsk : Pair → List Fill → Type 0
AllAsk pair [] = Unit {0}
AllAsk pair (fill ∷ fills) = AsksIf pair fill.key fill.job × AllAsk pair fills

-- the fills that the job with this number brings
abbrev pub brings : ℕ → Fill → Bool
brings n fill = is_number_in n fill.job

-- how many operations of the engines have a number
abbrev pub operations : Pair → ℕ → ℕ
operations pair n = count (is_small_job n) pair.small.jobs + count (is_large_job n) pair.large.jobs

pub record JobsStand (nvm : Nvm) : Type 0 where
  pub one_job : (n : ℕ) → count (is_job n) nvm.jobs ≤ 1
  -- no job brings two fills
  pub one_each : (n : ℕ) → count (brings n) nvm.fills ≤ 1
  -- no job, fill or operation has a number that is still to come: so the next operation is the only one with its number
  pub fresh : (n : ℕ) → nvm.made < n → count (is_job n) nvm.jobs + (count (brings n) nvm.fills + operations nvm.pair n) ≡ 0
  -- a fill's job gets the fill's key: so what it brings isn't another key's, which may be linked or wait
  pub asks : AllAsk nvm.pair nvm.fills
  -- no place of the large engine is a small entry's: so a bucket that is given up takes nothing of what it finds
  pub large : LargeAlone nvm.pair.small.flash nvm.pair.large

abbrev pub JobsPart : Option Nvm → Type 0
JobsPart None = Unit {0}
JobsPart (Some nvm) = JobsStand nvm

-- ---- all of it

-- of the memory, and of what waits for flash and comes from it
pub record Structure (memory : Memory) (nvm : Option Nvm) : Type 0 where
  pub one_place : OnePlace (items_of memory.pools) (queue_of nvm) (fills_of nvm)
  -- no two items and open charges have one number, and none has one that is still to come
  pub one_number : (n : ℕ) → count (item_has n) (items_of memory.pools) + count (open_has n) memory.charges ≤ 1
  pub fresh : (n : ℕ) → memory.made < n → count (item_has n) (items_of memory.pools) + count (open_has n) memory.charges ≡ 0
  -- an add that waits is of its fill's key, and its charge is open
  pub wishes : AllWishes memory (fills_of nvm)
  -- no two adds have one charge
  pub one_add : (n : ℕ) → count (adds n) (waiters_of (fills_of nvm)) ≤ 1
  pub one_stone : (key : List ℕ) → count (is_stone_of key) (stones_of nvm) ≤ 1
  pub jobs : JobsPart nvm
  -- both go by one configuration
  pub flash : memory.flash ≡ flash_of nvm

abbrev pub Structured : Cache → Type 0
Structured cache = Structure cache.memory cache.nvm
