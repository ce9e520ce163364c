-- The tombstones, as a queue with lanes holds them.
use Rattle.std.specs.Prelude.{◌≡◌, ℕ, not, ◌&&◌, ◌==◌, Bool, false, List, [], ◌∷◌, map, Some, ⊤}
use Rattle.std.specs.List.{list_any}
use Rattle.hc_types.specs.declared.config.FlashConfig.{FlashConfig}
use Rattle.hc_types.specs.Places.{bucket_at}
use Rattle.hc_machine.specs.Nvm.{Tombstone, is_stone_of}
use Rattle.hc_queue.specs.declared.queue.Piece.{Piece}
use Rattle.hc_queue.specs.declared.keyed.Named.{Named}

-- what stands beside a tombstone's key
abbrev pub Bare : Type 0
Bare = Unit {0}

abbrev pub stone_in : {V A : Type 0} → Piece (Named V A) → Tombstone
stone_in piece = record { key = piece.value.key; taken = piece.taken }

abbrev pub stones_in : {V A : Type 0} → List (Piece (Named V A)) → List Tombstone
stones_in pieces = map stone_in pieces

-- each stands in its bucket's lane
abbrev pub AreBuried : {V A : Type 0} → FlashConfig → List (Piece (Named V A)) → Type 0
AreBuried flash [] = ⊤
AreBuried flash (piece ∷ pieces) = (piece.lane ≡ Some (bucket_at flash piece.value.key)) × AreBuried flash pieces

-- no two are of one key
abbrev pub AreStonesApart : List Tombstone → Type 0
AreStonesApart [] = ⊤
AreStonesApart (stone ∷ stones) = (list_any (is_stone_of stone.key) stones ≡ false) × AreStonesApart stones

-- its delete is out
abbrev pub is_out : Tombstone → Bool
is_out stone = stone.taken

-- a delete that can be served: it isn't out, and its bucket isn't busy
abbrev pub can_be_deleted : FlashConfig → (ℕ → Bool) → Tombstone → Bool
can_be_deleted flash busy stone = not stone.taken && not (busy (bucket_at flash stone.key))

-- a tombstone of the bucket
abbrev pub is_of_bucket : FlashConfig → ℕ → Tombstone → Bool
is_of_bucket flash bucket stone = bucket_at flash stone.key == bucket

-- the configuration, the tombstones in the order of their burying, and how many more there is room for
pub record StoneLine : Type 0 where
  pub flash : FlashConfig
  pub stones : List Tombstone
  pub room : ℕ
