-- What the notes come to in the regions, where large entries are.
use Rattle.std.specs.Prelude.{◌≡◌, ℕ, ◌+◌, ◌-◌, ◌<◌, ◌==◌, nat_lt, Bool, true, false, not, ◌||◌, List, [], ◌∷◌, length, filter, Option, Some, None, if◌then◌else◌}
use Rattle.std.specs.List.{list_any}
use Rattle.std.specs.Str.{bytes_eq}
use Rattle.hc_types.specs.Loss as loss
use Rattle.hc_types.specs.Loss.{Cause, NoCleanRegion, Collision}
use Rattle.hc_types.specs.Places.{kept_of, is_small_by, region_bytes, is_page_of}
use Rattle.hc_types.specs.declared.config.FlashConfig.{FlashConfig}
use Rattle.hc_history.specs.Note.{Op, Insert, Add, Find, Remove, Note, Begin, Lose, Unqueued, Wrote, Opened, Flushed, Cleared}
use Rattle.hc_history.specs.Books.{Entry, entry_at}

-- ---- which are clean, open, flushed

abbrev pub is_one_of : ℕ → List ℕ → Bool
is_one_of region regions = list_any (λ other. other == region) regions

-- the regions that aren't clean, the one that was opened last first
abbrev pub in_use : List Note → List ℕ
in_use [] = []
in_use (Opened region ∷ older) = region ∷ in_use older
in_use (Cleared region ∷ older) = filter (λ other. not (other == region)) (in_use older)
in_use (note ∷ older) = in_use older

abbrev pub clean_count : FlashConfig → List Note → ℕ
clean_count flash older = flash.regions - length (in_use older)

-- the clean region with the lowest number
pub record IsLowestClean (flash : FlashConfig) (older : List Note) (region : ℕ) : Type 0 where
  pub exists : region < flash.regions
  pub clean : is_one_of region (in_use older) ≡ false
  pub lowest : (lower : ℕ) → lower < region → is_one_of lower (in_use older) ≡ true

abbrev pub unless_page_of : FlashConfig → ℕ → Option ℕ → Option ℕ
unless_page_of flash page None = None
unless_page_of flash page (Some region) = if is_page_of flash region page then None else Some region

-- the open region: the one that was opened last, unless a write of one of its pages failed since
abbrev pub open_region : FlashConfig → List Note → Option ℕ
open_region flash [] = None
open_region flash (Opened region ∷ older) = Some region
open_region flash (Wrote page bytes false ∷ older) = unless_page_of flash page (open_region flash older)
open_region flash (note ∷ older) = open_region flash older

-- the regions that are whole on flash, the last one first
abbrev pub flushed : List Note → List ℕ
flushed [] = []
flushed (Flushed region ∷ older) = region ∷ flushed older
flushed (Cleared region ∷ older) = filter (λ other. not (other == region)) (flushed older)
flushed (note ∷ older) = flushed older

-- of regions in this order, those that come behind one
abbrev pub behind : ℕ → List ℕ → List ℕ
behind region [] = []
behind region (other ∷ others) = if other == region then others else behind region others

-- ---- large puts

-- an entry that leaves the queue for a region: its key, and how long it is there
pub record Put : Type 0 where
  pub key : List ℕ
  pub bytes : ℕ

abbrev pub key_of : Op → List ℕ
key_of (Insert key value expiry) = key
key_of (Add key value expiry) = key
key_of (Find key) = key
key_of (Remove key) = key

-- the last note begins a call of the key
abbrev pub begins : List Note → List ℕ → Bool
begins (Begin call client op ∷ older) key = bytes_eq (key_of op) key
begins older key = false

abbrev pub put_of : FlashConfig → List ℕ → Option Entry → Option Put
put_of flash key None = None
put_of flash key (Some entry) = if is_small_by flash key (length entry.value) then None else Some (record { key = key; bytes = 14 + length key + length entry.value })

-- a key that leaves the queue, other than by a call of its own, is a large put where its entry is large
abbrev pub put_from : FlashConfig → List Note → List ℕ → Option Put
put_from flash before key = if begins before key then None else put_of flash key (entry_at (Some flash) before key)

-- the large put that the last note tells
abbrev pub put_told : FlashConfig → List Note → Option Put
put_told flash (Unqueued key ∷ before) = put_from flash before key
put_told flash older = None

-- the large put that is under way: the last note tells it, or the one before the opening of its region
abbrev pub put_under_way : FlashConfig → List Note → Option Put
put_under_way flash (Opened region ∷ older) = put_told flash older
put_under_way flash older = put_told flash older

-- the history before that put
abbrev pub before_put : List Note → List Note
before_put (Opened region ∷ Unqueued key ∷ before) = before
before_put (Unqueued key ∷ before) = before
before_put older = older

abbrev pub is_put_of : List ℕ → Option Put → Bool
is_put_of key None = false
is_put_of key (Some put) = bytes_eq put.key key

abbrev pub put_bytes : Option Put → ℕ
put_bytes None = 0
put_bytes (Some put) = put.bytes

-- ---- how full the open region is

abbrev pub has_no_room : FlashConfig → Option ℕ → ℕ → ℕ → Bool
has_no_room flash None filled bytes = true
has_no_room flash (Some region) filled bytes = nat_lt (region_bytes flash) (filled + bytes)

-- a large put that the open region, filled so far, hasn't room for
abbrev pub passes : FlashConfig → Option ℕ → ℕ → Option Put → Bool
passes flash current filled None = false
passes flash current filled (Some put) = has_no_room flash current filled put.bytes

abbrev pub grown : FlashConfig → Option ℕ → Option Put → ℕ → ℕ
grown flash current put filled = if passes flash current filled put then filled else filled + put_bytes put

-- how many bytes the puts take in the region that was opened last
abbrev pub filling : FlashConfig → List Note → ℕ
filling flash [] = 0
filling flash (Unqueued key ∷ before) = grown flash (open_region flash before) (put_from flash before key) (filling flash before)
filling flash (Opened region ∷ older) = put_bytes (put_told flash older)
filling flash (note ∷ older) = filling flash older

-- no region is open, or these bytes pass what the open one has left
abbrev pub is_passed : FlashConfig → List Note → ℕ → Bool
is_passed flash before bytes = has_no_room flash (open_region flash before) (filling flash before) bytes

-- ---- what is filed

-- a kept hash, and the region in which its entry is
pub record Filing : Type 0 where
  pub kept : ℕ
  pub region : ℕ

abbrev pub unfiled : ℕ → List Filing → List Filing
unfiled kept filings = filter (λ (filing : Filing). not (filing.kept == kept)) filings

-- the put is filed under this region, in the place of what has its hash
abbrev pub file_under : FlashConfig → Option Put → Option ℕ → List Filing → List Filing
file_under flash (Some put) (Some region) filings = record { kept = kept_of flash.bits put.key; region = region } ∷ unfiled (kept_of flash.bits put.key) filings
file_under flash put region filings = filings

-- what the loss of a kept hash leaves: a put that collides keeps its own place
abbrev pub left_by : Cause → ℕ → Option Put → List Filing → List Filing
left_by (Collision by) kept put filings = if is_put_of by put then filings else unfiled kept filings
left_by cause kept put filings = unfiled kept filings

-- a put files where it fits the open region
abbrev pub filed_if : FlashConfig → Option ℕ → ℕ → Option Put → List Filing → List Filing
filed_if flash current filled put filings = if passes flash current filled put then filings else file_under flash put current filings

-- Which kept hashes are filed, and where. A large put is filed under the open region where it fits, and else under the one
-- that is opened for it right after.
abbrev pub filed : FlashConfig → List Note → List Filing
filed flash [] = []
filed flash (Unqueued key ∷ before) = filed_if flash (open_region flash before) (filling flash before) (put_from flash before key) (filed flash before)
filed flash (Opened region ∷ older) = file_under flash (put_told flash older) (Some region) (filed flash older)
filed flash (Lose (loss.Hash kept but) cause ∷ older) = left_by cause kept (put_under_way flash older) (filed flash older)
filed flash (note ∷ older) = filed flash older

abbrev pub is_filed : ℕ → List Filing → Bool
is_filed kept filings = list_any (λ (filing : Filing). filing.kept == kept) filings

-- ---- a put that doesn't fit goes on

abbrev pub goes_on : List ℕ → List Note → Bool
goes_on key (Opened region ∷ rest) = true
goes_on key (Lose (loss.Key k) NoCleanRegion ∷ rest) = bytes_eq k key
goes_on key rest = false

-- a key that leaves the queue is no large put that the open region hasn't room for, or what comes right after is its opening
-- or its loss
abbrev pub is_placed : FlashConfig → List Note → List ℕ → List Note → Bool
is_placed flash older key rest = not (passes flash (open_region flash older) (filling flash older) (put_from flash older key)) || goes_on key rest
