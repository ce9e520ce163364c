-- The laws of the large engine's steps.
use Rattle.std.specs.Prelude.{◌≡◌, ℕ, ◌==◌, ◌||◌, is_some, Bool, true, false, List, [], ◌∷◌, length, replicate, Option, Some, None, if◌then◌else◌, IsSomeAnd, ◌≤◌, ◌+◌}
use Rattle.std.specs.Str.{bytes_eq}
use Rattle.hc_types.specs.declared.config.FlashConfig.{FlashConfig}
use Rattle.hc_types.specs.Places.{kept_of}
use Rattle.hc_types.specs.Tally.{count}
use Rattle.hc_types.specs.Loss.{Scope, Key, Bucket, Hash}
use Rattle.hc_types.specs.FlashEntry.{FlashEntry}
use Rattle.hc_engines.specs.Engine.{Loss}
use Rattle.hc_engines.specs.large.Entries.{IsLarge, entry_bytes, entry_in}
use Rattle.hc_engines.specs.large.Region.{clean_region, region_at, page_no, lowest_clean}
use Rattle.hc_engines.specs.large.Index.{Indexed, place_at}
use Rattle.hc_engines.specs.large.Block.{Reading, Job, Block}
use Rattle.hc_engines.specs.large.Steps.{fitting, take_index}
use Rattle.hc_engines.specs.large.Held.{held}

-- the number is that of no operation under way
abbrev pub IsFree : ℕ → Block → Type 0
IsFree number s = count (λ (job : Job). job.number == number) s.jobs ≡ 0

abbrev pub new_block : FlashConfig → Block
new_block flash = record { regions = replicate flash.regions clean_region; current = None; sealed = []; flushed = []; index = []; jobs = [] }

-- the page that a write of the region is of
abbrev pub written_page : FlashConfig → ℕ → Block → ℕ
written_page flash r s = page_no flash r (region_at r s.regions).written

-- the page that a get reads
abbrev pub read_page : FlashConfig → Reading → ℕ
read_page flash reading = page_no flash reading.place.region reading.next

abbrev pub EntryReadsBack : Type 0
EntryReadsBack = (e : FlashEntry) → IsLarge e → entry_in (entry_bytes e) ≡ Some e

-- ---- what is held

-- a region takes the entry: the one in use, where it fits, or a clean one
abbrev pub has_room : FlashConfig → FlashEntry → Block → Bool
has_room flash entry s = is_some (fitting flash s (length (entry_bytes entry)) s.current) || is_some (lowest_clean 0 s.regions)

-- what is held under a key after a put: its entry under its own key, nothing under others of its hash
abbrev pub after_put : FlashConfig → FlashEntry → List ℕ → Option FlashEntry → Option FlashEntry
after_put flash entry key was = if kept_of flash.bits key == kept_of flash.bits entry.key then (if bytes_eq entry.key key then Some entry else None) else was

-- the hash is lost
abbrev pub names_hash : ℕ → Scope → Bool
names_hash hash (Key key) = false
names_hash hash (Bucket bucket) = false
names_hash hash (Hash kept but) = kept == hash

abbrev pub loses : ℕ → List Loss → Bool
loses hash [] = false
loses hash (loss ∷ losses) = if names_hash hash loss.scope then true else loses hash losses

abbrev pub TakeChangesHeld : Type 0
TakeChangesHeld = (flash : FlashConfig) (pages : ℕ → Option (List ℕ)) (s : Block) (hash : ℕ) (key : List ℕ) → held flash pages (take_index hash s) key ≡ (if kept_of flash.bits key == hash then None else held flash pages s key)

-- ---- losses in order

-- these hashes lead into places whose offsets rise from here
abbrev pub AreInOrder : List Indexed → ℕ → List ℕ → Type 0
AreInOrder index from [] = Unit {0}
AreInOrder index from (hash ∷ hashes) = IsSomeAnd (place_at hash index) (λ place. (from ≤ place.offset) × AreInOrder index (place.offset + 1) hashes)
