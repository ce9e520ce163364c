-- What contracts see of items, of charges that are open, and of write handles.
use Rattle.std.specs.Prelude.{ℕ, Bool, List, length}
use Rattle.hc_types.specs.Charge.{charge_of}

-- An item that can be found: the number of its charge, its pool, its key, its value, the second at which it expires (0:
-- never), and whether a copy of it stands on flash.
pub record Item : Type 0 where
  pub number : ℕ
  pub pool : ℕ
  pub key : List ℕ
  pub value : List ℕ
  pub expiry : ℕ
  pub clean : Bool

-- what an item is charged, in bytes
abbrev pub cost : Item → ℕ
cost item = charge_of item.key (length item.value)

-- A charge that is open: an item of this key, with a value of this length, is being written.
pub record Open : Type 0 where
  pub number : ℕ
  pub pool : ℕ
  pub key : List ℕ
  pub size : ℕ

-- what it comes to, in bytes
abbrev pub open_cost : Open → ℕ
open_cost charge = charge_of charge.key charge.size

-- A write handle: the number of its charge, its pool, its key, the second at which it expires, and what is written.
pub record Handle : Type 0 where
  pub number : ℕ
  pub pool : ℕ
  pub key : List ℕ
  pub expiry : ℕ
  pub value : List ℕ

-- the charge by which a cache knows the handle
abbrev pub charge_by : Handle → Open
charge_by handle = record { number = handle.number; pool = handle.pool; key = handle.key; size = length handle.value }

-- the item that the handle links
abbrev pub item_by : Bool → Handle → Item
item_by clean handle = record { number = handle.number; pool = handle.pool; key = handle.key; value = handle.value; expiry = handle.expiry; clean = clean }
