-- What the device of this crate is seen as.
use Rattle.std.specs.Prelude.{ℕ}

-- a device on a file
pub record OnFile : Type 0 where
  -- it has the pages below this number
  pub pages : ℕ
  -- the bytes of a page
  pub page_size : ℕ
  -- the bytes of the file before the first page
  pub before : ℕ
  pub failed : ℕ
