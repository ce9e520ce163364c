-- What a device is asked, and what may come of it.
use Rattle.std.specs.Prelude.{◌≡◌, ℕ, List, Option, Some, None, IfSome, ◌==◌, if◌then◌else◌}

-- an operation on one page
pub data Order : Type 0 where
  Read : (page : ℕ) → Order
  Write : (page : ℕ) (bytes : List ℕ) → Order

-- what came of it
pub data IoResult : Type 0 where
  Page : (bytes : List ℕ) → IoResult
  Written : IoResult
  Failed : IoResult

-- each page as it was last written, where it is known
abbrev pub Pages : Type 0
Pages = ℕ → Option (List ℕ)

abbrev pub with_page : Pages → ℕ → Option (List ℕ) → Pages
with_page pages page bytes other = if page == other then bytes else pages other

-- the pages once this result of this order was handed in
abbrev pub pages_after : Order → IoResult → Pages → Pages
pages_after (Write page bytes) Written pages = with_page pages page (Some bytes)
pages_after (Write page bytes) Failed pages = with_page pages page None
pages_after (Write page bytes) (Page read) pages = pages
pages_after (Read page) result pages = pages

-- a read gives the page as it was last written, where that is known, or fails; a write is made, or fails
abbrev pub CameOf : Pages → Order → IoResult → Type 0
CameOf pages (Read page) (Page bytes) = IfSome (pages page) (λ written. bytes ≡ written)
CameOf pages (Write page bytes) Written = Unit {0}
CameOf pages order Failed = Unit {0}
CameOf pages order result = ⊥

-- the failures that are counted for it
abbrev pub failures_of : IoResult → ℕ
failures_of Failed = 1
failures_of result = 0

-- the page that an operation is for
abbrev pub page_of : Order → ℕ
page_of (Read page) = page
page_of (Write page bytes) = page
