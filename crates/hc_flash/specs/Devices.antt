-- What the devices of this crate are seen as.
use Rattle.std.specs.Prelude.{ℕ, List, Option, Some, None, nat_eq, ◌==◌, if◌then◌else◌}
use Rattle.std.specs.Map.{lookup}

-- a device in memory
pub record Memory : Type 0 where
  -- the pages of which something is known, each with its number
  pub written : List (ℕ × List ℕ)
  -- it has the pages below this number
  pub pages : ℕ
  -- the bytes of a page
  pub page_size : ℕ
  pub failed : ℕ

-- what a device in memory holds of each page
abbrev pub held_by : Memory → ℕ → Option (List ℕ)
held_by flash page = lookup (nat_eq page) flash.written

-- a device that fails once, over another
pub record Failing (Inner : Type 0) : Type 0 where
  pub inner : Inner
  -- the call that fails, counted from the next one, which is 1; 0 where none will
  pub fails_in : ℕ
  -- the page whose write it failed, until the page is written again
  pub lost : Option ℕ
  -- the failures of its own
  pub own : ℕ

-- the pages, but for one of which nothing is known
abbrev pub without : Option ℕ → (ℕ → Option (List ℕ)) → ℕ → Option (List ℕ)
without None held page = held page
without (Some lost) held page = if page == lost then None else held page

-- a device that lies once, over another
pub record Lying (Inner : Type 0) : Type 0 where
  pub inner : Inner
  -- the read that lies, counted from the next one, which is 1; 0 where none will
  pub lies_in : ℕ
  -- where the wrong byte is, and which it is
  pub at : ℕ
  pub byte : ℕ
