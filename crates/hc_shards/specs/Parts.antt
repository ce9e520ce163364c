-- A part of a device's pages, numbered from 0.
use Rattle.std.specs.Prelude.{◌≡◌, ℕ, ◌+◌, ◌<◌, ◌≤◌, nat_lt, None, if◌then◌else◌}
use Rattle.hc_shards.specs.Shards.{page_in}
use Rattle.hc_flash.specs.Operations.{Order, Read, Write, IoResult, Failed, Pages, page_of}

-- a device's pages from this one on, so many of them, and how many operations on them failed
pub record Part (Inner : Type 0) : Type 0 where
  pub inner : Inner
  pub first : ℕ
  pub pages : ℕ
  pub failed : ℕ

-- what is held of each page of the part
abbrev pub held_in : ℕ → ℕ → Pages → Pages
held_in first pages held page = if nat_lt page pages then held (first + page) else None

-- the device's page is one of the part's
abbrev pub IsPageOf : ℕ → ℕ → ℕ → Type 0
IsPageOf first pages place = (first ≤ place) × (place < first + pages)

-- no page of the device outside of these was changed
abbrev pub Beside : ℕ → ℕ → Pages → Pages → Type 0
Beside first pages before after = (place : ℕ) → ¬ IsPageOf first pages place → after place ≡ before place

-- the operation on the device that this one on the part is
abbrev pub order_in : ℕ → Order → Order
order_in first (Read page) = Read (first + page)
order_in first (Write page bytes) = Write (first + page) bytes

-- what a part says of its operations: of one on a page of its own what the device says, and any other fails and leaves the
-- device as it was
abbrev pub GivesPart : {Inner : Type 0} → (Inner → Order → IoResult → Inner → Type 0) → Part Inner → Order → IoResult → Part Inner → Type 0
GivesPart gives before order came after =
    (page_of order < before.pages → gives before.inner (order_in before.first order) came after.inner)
    × (before.pages ≤ page_of order → (came ≡ Failed) × (after.inner ≡ before.inner))

-- what changes no page outside of one shard's part leaves the part of each other shard as it was
abbrev pub PartsAreApart : Type 0
PartsAreApart = (pages a b : ℕ) (before after : Pages) → ¬ (a ≡ b) → Beside (page_in pages a 0) pages before after → (page : ℕ) → held_in (page_in pages b 0) pages after page ≡ held_in (page_in pages b 0) pages before page
