-- No region is forgotten: the open one is the current one, each sealed one waits for its flush, each one on flash is in the order
-- of flushes. (A region that drains needn't be: a failed write ends a region that was never on flash, and a read may hold it.)
use Rattle.std.specs.Prelude.{◌≡◌, ℕ, true, false, List, Some, None}
use Rattle.hc_types.specs.declared.config.FlashConfig.{FlashConfig}
use Rattle.hc_types.specs.FlashEntry.{FlashEntry}
use Rattle.hc_engines.specs.large.Region.{Status, Open, Sealed, OnFlash, region_at, can_go}
use Rattle.hc_engines.specs.Engine.{IoResult}
use Rattle.hc_engines.specs.large.Block.{Block, Work, work_of}
use Rattle.hc_engines.specs.large.Steps.{put, flush, reclaim, get, resume, take_index}
use Rattle.hc_engines.specs.large.Numbers.{is_in}
use Rattle.hc_engines.specs.large.Sound.{is_stored, Sound}
use Rattle.hc_engines.specs.large.Laws.{new_block}

abbrev pub IsListed : Block → ℕ → Status → Type 0
IsListed s r Open = s.current ≡ Some r
IsListed s r Sealed = is_in r s.sealed ≡ true
IsListed s r OnFlash = is_in r s.flushed ≡ true
IsListed s r status = Unit {0}

abbrev pub AllListed : Block → Type 0
AllListed s = (r : ℕ) → IsListed s r (region_at r s.regions).status

-- it is true at first, and after each step
pub record StaysListed (flash : FlashConfig) : Type 0 where
  pub at_first : AllListed (new_block flash)
  pub after_put : (entry : FlashEntry) (s : Block) → Sound flash s → AllListed s → AllListed (put flash entry s).state
  pub after_flush : (number : ℕ) (s : Block) → Sound flash s → AllListed s → AllListed (flush flash number s).state
  pub after_reclaim : (s : Block) → Sound flash s → AllListed s → AllListed (reclaim flash s).state
  pub after_get : (number : ℕ) (key : List ℕ) (s : Block) → AllListed s → AllListed (get flash number key s).state
  -- any result at all of an operation under way
  pub after_resume : (number : ℕ) (work : Work) (result : IoResult) (s : Block) → Sound flash s → work_of number s.jobs ≡ Some work → AllListed s → AllListed (resume flash number work result s).state
  pub after_take : (hash : ℕ) (s : Block) → AllListed s → AllListed (take_index hash s)

abbrev pub RegionsStayListed : Type 0
RegionsStayListed = (flash : FlashConfig) → StaysListed flash

-- so the lists are exact: the open region is the current one, and the sealed ones are those of that status; those in the order of
-- flushes are on flash, or drain
pub record IsExact (s : Block) (r : ℕ) : Type 0 where
  pub current : s.current ≡ Some r → (region_at r s.regions).status ≡ Open
  pub opened : (region_at r s.regions).status ≡ Open → s.current ≡ Some r
  pub sealed : is_in r s.sealed ≡ true → (region_at r s.regions).status ≡ Sealed
  pub waits : (region_at r s.regions).status ≡ Sealed → is_in r s.sealed ≡ true
  pub stored : is_in r s.flushed ≡ true → is_stored (region_at r s.regions).status ≡ true
  pub flushed : (region_at r s.regions).status ≡ OnFlash → is_in r s.flushed ≡ true

abbrev pub ListsAreExact : Type 0
ListsAreExact = (flash : FlashConfig) (s : Block) → Sound flash s → AllListed s → (r : ℕ) → IsExact s r

-- so the writer finds no page to write only where there is none: of each sealed region a page is out, and the open one has no
-- full page that may go
abbrev pub FlushMissesNone : Type 0
FlushMissesNone = (flash : FlashConfig) (number : ℕ) (s : Block) → AllListed s → (flush flash number s).order ≡ None
    → ((r : ℕ) → (region_at r s.regions).status ≡ Sealed → (region_at r s.regions).early ≡ true) × ((r : ℕ) → (region_at r s.regions).status ≡ Open → can_go flash (region_at r s.regions) ≡ false)
