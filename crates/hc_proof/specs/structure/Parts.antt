-- The structure in two parts, for the midst of a step: what is said of memory, queue and fills, and what of flash alone.
use Rattle.std.specs.Prelude.{◌≡◌, ℕ, ◌+◌, ◌<◌, ◌≤◌, false, List, ◌++◌, Option}
use Rattle.hc_types.specs.Tally.{tally, count}
use Rattle.hc_types.specs.FlashEntry.{FlashEntry}
use Rattle.hc_memory.specs.Item.{Item}
use Rattle.hc_memory.specs.Memory.{Memory}
use Rattle.hc_machine.specs.items.Items.{items_of, item_has, open_has}
use Rattle.hc_machine.specs.Nvm.{Nvm, Fill, is_put_of, is_stone_of, is_fill_of, adds}
use Rattle.hc_machine.specs.Cache.{Cache}
use Rattle.hc_machine.specs.Calls.{queue_of}
use Rattle.hc_invariant.specs.Tells.{waiters_of}
use Rattle.hc_invariant.specs.Jobs.{AllWishes}
use Rattle.hc_invariant.specs.Good.{fills_of}
use Rattle.hc_invariant.specs.Structure.{OnePlace, JobsPart, flash_of, stones_of}

-- with these items and this queue; `seen` are the fills whose keys stand nowhere else, `all` those whose calls wait
pub record Held (memory : Memory) (items : List Item) (queue : List FlashEntry) (seen all : List Fill) : Type 0 where
  pub one_place : OnePlace items queue seen
  pub one_number : (n : ℕ) → count (item_has n) items + count (open_has n) memory.charges ≤ 1
  pub fresh : (n : ℕ) → memory.made < n → count (item_has n) items + count (open_has n) memory.charges ≡ 0
  pub wishes : AllWishes memory all
  pub one_add : (n : ℕ) → count (adds n) (waiters_of all) ≤ 1

pub record Beside (nvm : Option Nvm) : Type 0 where
  pub one_stone : (key : List ℕ) → count (is_stone_of key) (stones_of nvm) ≤ 1
  pub jobs : JobsPart nvm

-- in the midst of a step: which of the cache's fills are seen, and the calls that wait though their fill has left
abbrev pub Midst : Memory → List Item → Option Nvm → (List Fill → List Fill) → List Fill → Type 0
Midst memory items nvm seen loose = Held memory items (queue_of nvm) (seen (fills_of nvm)) (loose ++ fills_of nvm) × Beside nvm × (memory.flash ≡ flash_of nvm)

-- the cache's own items
abbrev pub Stands : Cache → (List Fill → List Fill) → List Fill → Type 0
Stands cache seen loose = Midst cache.memory (items_of cache.memory.pools) cache.nvm seen loose

-- all fills are seen
abbrev pub all_of : List Fill → List Fill
all_of fills = fills

-- ---- less of it

-- no more items, marks aside
abbrev pub FewerItems : List Item → List Item → Type 0
FewerItems old new = (f : Item → ℕ) → ((y : Item) → f (record y { clean = false }) ≡ f y) → tally f new ≤ tally f old

abbrev pub FewerPuts : List FlashEntry → List FlashEntry → Type 0
FewerPuts old new = (key : List ℕ) → count (is_put_of key) new ≤ count (is_put_of key) old

abbrev pub FewerFills : List Fill → List Fill → Type 0
FewerFills old new = (key : List ℕ) → count (is_fill_of key) new ≤ count (is_fill_of key) old

-- no call comes to wait
pub record FewerWait (old new : List Fill) : Type 0 where
  pub wishes : (memory : Memory) → AllWishes memory old → AllWishes memory new
  pub adds : (n : ℕ) → count (adds n) (waiters_of new) ≤ count (adds n) (waiters_of old)
