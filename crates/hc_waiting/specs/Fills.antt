-- The fills, as a queue with lanes holds them.
use Rattle.std.specs.Prelude.{◌≡◌, ℕ, not, ◌&&◌, Bool, true, false, List, [], ◌∷◌, ◌++◌, map, Option, Some, None, is_some, option_map, nat_eq, ⊤, if◌then◌else◌}
use Rattle.std.specs.List.{list_any}
use Rattle.hc_types.specs.declared.config.FlashConfig.{FlashConfig}
use Rattle.hc_types.specs.Places.{bucket_at}
use Rattle.hc_machine.specs.Nvm.{Fill, Waiter, fill_at, fill_by, adds}
use Rattle.indexmap.specs.IndexMap.{IndexMap, get}
use Rattle.hc_queue.specs.declared.queue.Piece.{Piece}
use Rattle.hc_queue.specs.declared.keyed.Named.{Named}
use Rattle.hc_waiting.specs.declared.fills.Bringing.{Bringing}
use Rattle.hc_waiting.specs.declared.fills.Joining.{Joining}

abbrev pub fill_in : {A : Type 0} → Piece (Named (Bringing A) A) → Fill
fill_in piece = record { key = piece.value.key; waiters = piece.value.value.waiters.items; job = piece.value.value.job }

abbrev pub fills_in : {A : Type 0} → List (Piece (Named (Bringing A) A)) → List Fill
fills_in pieces = map fill_in pieces

-- each stands in its bucket's lane, and is taken where it has its job
abbrev pub AreFilled : {A : Type 0} → FlashConfig → List (Piece (Named (Bringing A) A)) → Type 0
AreFilled flash [] = ⊤
AreFilled flash (piece ∷ pieces) = (piece.lane ≡ Some (bucket_at flash piece.value.key)) × (piece.taken ≡ is_some piece.value.value.job) × AreFilled flash pieces

-- a fill that can be served: it has no job, and its bucket isn't busy
abbrev pub can_be_filled : FlashConfig → (ℕ → Bool) → Fill → Bool
can_be_filled flash busy fill = not (is_some fill.job) && not (busy (bucket_at flash fill.key))

-- one call more waits, or comes back and nothing changed; the job stays
pub record IsJoining {A : Type 0} (waiter : Waiter) (before : Bringing A) (after : Joining A) : Type 0 where
  pub job : after.bringing.job ≡ before.job
  pub waiters : after.bringing.waiters.items ≡ (if is_some after.refused then before.waiters.items else before.waiters.items ++ waiter ∷ [])
  pub refused : is_some after.refused ≡ true → after.refused ≡ Some waiter

-- an add that waits in the fill keeps the charge with this number
abbrev pub is_kept_in : ℕ → Option Fill → Bool
is_kept_in number None = false
is_kept_in number (Some fill) = list_any (adds number) fill.waiters

-- the same of its piece
abbrev pub is_kept_by : {A : Type 0} → ℕ → Option (Piece (Named (Bringing A) A)) → Bool
is_kept_by number None = false
is_kept_by number (Some piece) = list_any (adds number) piece.value.value.waiters.items

-- the fill under the key, where one is named
abbrev pub fill_under : Option (List ℕ) → List Fill → Option Fill
fill_under None fills = None
fill_under (Some key) fills = fill_at key fills

-- the key that the job brings
abbrev pub key_by : ℕ → List Fill → Option (List ℕ)
key_by number fills = option_map (λ (fill : Fill). fill.key) (fill_by number fills)

-- the fill, where there is one, has no job yet
abbrev pub IsFree : Option Fill → Type 0
IsFree None = ⊤
IsFree (Some fill) = fill.job ≡ None

-- the job of a piece, where there is one
abbrev pub job_by : {A : Type 0} → Option (Piece (Named (Bringing A) A)) → Option ℕ
job_by None = None
job_by (Some piece) = piece.value.value.job

-- the job, where there is one, brings none of these
abbrev pub IsSole : Option ℕ → List Fill → Type 0
IsSole None fills = ⊤
IsSole (Some number) fills = fill_by number fills ≡ None

-- no job brings two fills
abbrev pub AreSole : List Fill → Type 0
AreSole [] = ⊤
AreSole (fill ∷ fills) = IsSole fill.job fills × AreSole fills

-- the map leads from each job to the key that it brings
pub record IsLed {S : Type 0} (fills : List Fill) (keys : IndexMap ℕ (List ℕ) S) : Type 0 where
  pub leads : (number : ℕ) → get nat_eq keys number ≡ key_by number fills
  pub sole : AreSole fills

-- the configuration, the fills in order, how many more there is room for, and how many more jobs
pub record FillLine : Type 0 where
  pub flash : FlashConfig
  pub fills : List Fill
  pub room : ℕ
  pub takes : ℕ
