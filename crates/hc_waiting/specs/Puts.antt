-- The puts that wait, as a queue with lanes holds them.
use Rattle.std.specs.Prelude.{◌≡◌, ℕ, ◌||◌, not, Bool, false, List, [], ◌∷◌, length, map, Option, Some, None, ⊤, if◌then◌else◌}
use Rattle.hc_types.specs.declared.config.FlashConfig.{FlashConfig}
use Rattle.hc_types.specs.Places.{bucket_at, is_small_by}
use Rattle.hc_types.specs.FlashEntry.{FlashEntry}
use Rattle.hc_machine.specs.Nvm.{put_at}
use Rattle.hc_queue.specs.declared.queue.Piece.{Piece}
use Rattle.hc_queue.specs.declared.keyed.Named.{Named}
use Rattle.hc_waiting.specs.declared.puts.Waiting.{Waiting}

abbrev pub put_in : {A : Type 0} → Piece (Named (Waiting A) A) → FlashEntry
put_in piece = record { key = piece.value.key; value = piece.value.value.value; pool = piece.value.value.pool; expiry = piece.value.value.expiry }

abbrev pub puts_in : {A : Type 0} → List (Piece (Named (Waiting A) A)) → List FlashEntry
puts_in pieces = map put_in pieces

-- the lane of a put: its bucket, where it is small
abbrev pub lane_of : FlashConfig → FlashEntry → Option ℕ
lane_of flash put = if is_small_by flash put.key (length put.value) then Some (bucket_at flash put.key) else None

-- each stands in its lane, and none is taken
abbrev pub AreLaned : {A : Type 0} → FlashConfig → List (Piece (Named (Waiting A) A)) → Type 0
AreLaned flash [] = ⊤
AreLaned flash (piece ∷ pieces) = (piece.lane ≡ lane_of flash (put_in piece)) × (piece.taken ≡ false) × AreLaned flash pieces

-- no two are of one key
abbrev pub ArePutsApart : List FlashEntry → Type 0
ArePutsApart [] = ⊤
ArePutsApart (put ∷ puts) = (put_at put.key puts ≡ None) × ArePutsApart puts

-- a put that can be served: a large one, or one whose bucket isn't busy
abbrev pub can_be_put : FlashConfig → (ℕ → Bool) → FlashEntry → Bool
can_be_put flash busy put = not (is_small_by flash put.key (length put.value)) || not (busy (bucket_at flash put.key))

-- the configuration, the puts, the oldest first, and how many more there is room for
pub record PutLine : Type 0 where
  pub flash : FlashConfig
  pub puts : List FlashEntry
  pub room : ℕ
