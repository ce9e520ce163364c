-- What the large engine does: each operation as a function of the state.
use Rattle.std.specs.Prelude.{ℕ, ◌+◌, ◌-◌, ◌*◌, ◌/◌, ◌%◌, ◌==◌, min, nat_lt, nat_le, true, false, ◌&&◌, List, [], ◌∷◌, ◌++◌, length, take, drop, set, Option, Some, None, if◌then◌else◌}
use Rattle.std.specs.Str.{bytes_eq}
use Rattle.hc_types.specs.declared.config.FlashConfig.{FlashConfig}
use Rattle.hc_types.specs.Places.{kept_of}
use Rattle.hc_types.specs.Tally.{count}
use Rattle.hc_types.specs.Loss.{Key, Hash, Cause, Reclaimed, NoCleanRegion, Collision, Fault}
use Rattle.hc_types.specs.FlashEntry.{FlashEntry}
use Rattle.hc_engines.specs.Engine.{Op, Put, Get, Delete, Flush, Reclaim, Read, Write, IoResult, Page, Written, Failed, Answer, Over, Absent, Found, Loss, outcome_of, nothing}
use Rattle.hc_engines.specs.large.Entries.{entry_bytes, entry_in}
use Rattle.hc_engines.specs.large.Region.{Status, Sealed, Flushing, OnFlash, Draining, is_clean, is_draining, Region, clean_region, opened_region, region_len, filled_to, next_page, page_done, can_go, region_at, page_no, lowest_clean}
use Rattle.hc_engines.specs.large.Index.{Place, place_at, without, leading, is_place, leading_into, without_all}
use Rattle.hc_engines.specs.large.Block.{Reading, Work, Writing, Getting, Block, Moved, finished, unmoved, with_region, with_job, end_job}
use Rattle.hc_engines.specs.large.Numbers.{minus}

-- ---- losses

-- these hashes are lost for this cause
abbrev pub lost : Cause → List ℕ → List Loss
lost cause [] = []
lost cause (hash ∷ hashes) = record { scope = Hash hash None; cause = cause } ∷ lost cause hashes

-- an index entry that was taken, of a hash that isn't known to be this key's
abbrev pub collided : ℕ → List ℕ → Option Place → List Loss
collided hash key None = []
collided hash key (Some place) = record { scope = Hash hash (Some key); cause = Collision key } ∷ []

-- ---- put

-- the region in use, where so many bytes fit it
abbrev pub fitting : FlashConfig → Block → ℕ → Option ℕ → Option ℕ
fitting flash s len None = None
fitting flash s len (Some r) = if nat_le (filled_to flash (region_at r s.regions) + len) (region_len flash) then Some r else None

-- the entry goes behind what the region has, and its hash leads there
abbrev pub append : FlashConfig → ℕ → FlashEntry → Block → Block
append flash r entry s =
    let region = region_at r s.regions in
    let bytes = entry_bytes entry in
    let hash = kept_of flash.bits entry.key in
    record s {
      regions = set s.regions r (record region { buffer = region.buffer ++ bytes; appended = region.appended ++ record { hash = hash; offset = filled_to flash region } ∷ [] });
      index = leading hash (record { region = r; offset = filled_to flash region; length = length bytes }) s.index;
    }

abbrev pub seal : Option ℕ → List Region → List Region
seal None regions = regions
seal (Some r) regions = set regions r (record (region_at r regions) { status = Sealed })

abbrev pub sealed_too : Option ℕ → List ℕ → List ℕ
sealed_too None rs = rs
sealed_too (Some r) rs = rs ++ r ∷ []

-- the region in use is sealed, and this one is opened
abbrev pub open_next : ℕ → Block → Block
open_next r s = record s { regions = set (seal s.current s.regions) r opened_region; current = Some r; sealed = sealed_too s.current s.sealed }

abbrev pub stored : FlashConfig → FlashEntry → Block → Option ℕ → Block → Moved
stored flash entry old opened s =
    let hash = kept_of flash.bits entry.key in
    finished s (record nothing { answer = Over; losses = collided hash entry.key (place_at hash old.index); opened = opened })

abbrev pub put_fresh : FlashConfig → FlashEntry → Block → Option ℕ → Moved
put_fresh flash entry s None = finished s (record nothing { losses = record { scope = Key entry.key; cause = NoCleanRegion } ∷ [] })
put_fresh flash entry s (Some r) = stored flash entry s (Some r) (append flash r entry (open_next r s))

abbrev pub put_into : FlashConfig → FlashEntry → Block → Option ℕ → Moved
put_into flash entry s None = put_fresh flash entry s (lowest_clean 0 s.regions)
put_into flash entry s (Some r) = stored flash entry s None (append flash r entry s)

abbrev pub put : FlashConfig → FlashEntry → Block → Moved
put flash entry s = put_into flash entry s (fitting flash s (length (entry_bytes entry)) s.current)

-- ---- a region ends

-- a region that nothing leads to is clean, or it drains while a read holds it
abbrev pub emptied : Region → Region
emptied region = if region.pins == 0 then clean_region else record region { status = Draining; buffer = []; appended = []; early = false }

abbrev pub cleared_by : ℕ → ℕ → Option ℕ
cleared_by pins r = if pins == 0 then Some r else None

abbrev pub not_current : ℕ → Option ℕ → Option ℕ
not_current r None = None
not_current r (Some x) = if x == r then None else Some x

-- what leads into the region is lost for this cause
abbrev pub end_region : Cause → ℕ → Block → Moved
end_region cause r s =
    let region = region_at r s.regions in
    let gone = leading_into r region.appended s.index in
    finished (record s {
      regions = set s.regions r (emptied region);
      current = not_current r s.current;
      sealed = minus r s.sealed;
      flushed = if region.pins == 0 then minus r s.flushed else s.flushed;
      index = without_all gone s.index;
    }) (record nothing { answer = Over; losses = lost cause gone; cleared = cleared_by region.pins r })

-- ---- reclaim

-- the region flushed first of those that don't drain yet
abbrev pub oldest : List Region → List ℕ → Option ℕ
oldest regions [] = None
oldest regions (r ∷ rs) = if is_draining (region_at r regions).status then oldest regions rs else Some r

abbrev pub reclaim_of : Block → Option ℕ → Moved
reclaim_of s None = unmoved s
reclaim_of s (Some r) =
    let ended = end_region (Reclaimed r) r s in
    record ended { outcome = record ended.outcome { reclaimed = Some r } }

abbrev pub clean_count : List Region → ℕ
clean_count regions = count (λ (region : Region). is_clean region.status) regions

abbrev pub reclaim : FlashConfig → Block → Moved
reclaim flash s = if nat_lt (clean_count s.regions) flash.clean then reclaim_of s (oldest s.regions s.flushed) else unmoved s

-- ---- flush, page by page

-- the region's next page goes out
abbrev pub write_out : FlashConfig → ℕ → ℕ → Region → Block → Moved
write_out flash number r region s = record {
  state = with_job number (Writing r (next_page flash region)) (with_region r region s);
  outcome = nothing;
  order = Some (Write (page_no flash r region.written) (next_page flash region));
}

-- the first of these regions of which no page is out
abbrev pub first_ready : List Region → List ℕ → Option ℕ
first_ready regions [] = None
first_ready regions (r ∷ rs) = if (region_at r regions).early then first_ready regions rs else Some r

abbrev pub early_of : FlashConfig → ℕ → Block → Option ℕ → Moved
early_of flash number s None = unmoved s
early_of flash number s (Some r) = if can_go flash (region_at r s.regions) then write_out flash number r (record (region_at r s.regions) { early = true }) s else unmoved s

abbrev pub flush_of : FlashConfig → ℕ → Block → Option ℕ → Moved
flush_of flash number s None = early_of flash number s s.current
flush_of flash number s (Some r) = write_out flash number r (record (region_at r s.regions) { status = Flushing }) (record s { sealed = minus r s.sealed })

abbrev pub flush : FlashConfig → ℕ → Block → Moved
flush flash number s = flush_of flash number s (first_ready s.regions s.sealed)

-- the region whose page was written: a flush goes on with the next page, and after the last the region is on flash; an early
-- write ends
abbrev pub go_on : FlashConfig → ℕ → ℕ → Region → Block → Moved
go_on flash number r region s =
    if nat_lt region.written flash.region_pages then write_out flash number r region s
    else finished (record (with_region r (record region { status = OnFlash }) s) { flushed = s.flushed ++ r ∷ [] }) (record nothing { answer = Over; flushed = Some r })

abbrev pub wrote_page : FlashConfig → ℕ → ℕ → Status → Block → Moved
wrote_page flash number r Flushing s = go_on flash number r (page_done flash (region_at r s.regions)) s
wrote_page flash number r status s = finished (with_region r (record (page_done flash (region_at r s.regions)) { early = false }) s) (outcome_of Over [])

-- ---- get

-- the first page that an entry there touches, and the first behind those
abbrev pub first_page : FlashConfig → Place → ℕ
first_page flash place = place.offset / flash.page

abbrev pub end_page : FlashConfig → Place → ℕ
end_page flash place = (place.offset + place.length + (flash.page - 1)) / flash.page

-- the part of the entry that is in the buffer
abbrev pub buffered : FlashConfig → Region → Place → List ℕ
buffered flash region place =
    let on_flash = region.written * flash.page in
    take (place.length - (on_flash - place.offset)) (drop (place.offset - on_flash) region.buffer)

abbrev pub reading_of : FlashConfig → List ℕ → Place → Block → Reading
reading_of flash key place s =
    let region = region_at place.region s.regions in
    record { key = key; place = place; got = []; next = first_page flash place; until = min region.written (end_page flash place); rest = buffered flash region place }

-- the bytes at the place, where all pages were read
abbrev pub read_bytes : FlashConfig → Reading → List ℕ
read_bytes flash reading = take reading.place.length (drop (reading.place.offset % flash.page) reading.got ++ reading.rest)

-- the index entry is taken, since what it leads to can't be read
abbrev pub unreadable : ℕ → Block → Moved
unreadable hash s = finished (record s { index = without hash s.index }) (record nothing { answer = Absent; losses = record { scope = Hash hash None; cause = Fault } ∷ [] })

abbrev pub own_entry : List ℕ → FlashEntry → Answer
own_entry key entry = if bytes_eq entry.key key then Found entry else Absent

abbrev pub answer_of : ℕ → List ℕ → Block → Option FlashEntry → Moved
answer_of hash key s None = unreadable hash s
answer_of hash key s (Some entry) = finished s (record nothing { answer = own_entry key entry })

abbrev pub absent : Block → Moved
absent s = finished s (record nothing { answer = Absent })

-- the entry that was read is the answer where its key is the one that was asked for and its place is still the same
abbrev pub answered : FlashConfig → Reading → Block → Moved
answered flash reading s =
    let hash = kept_of flash.bits reading.key in
    if is_place (place_at hash s.index) reading.place then answer_of hash reading.key s (entry_in (read_bytes flash reading)) else absent s

abbrev pub failed_read : FlashConfig → Reading → Block → Moved
failed_read flash reading s =
    let hash = kept_of flash.bits reading.key in
    if is_place (place_at hash s.index) reading.place then unreadable hash s else absent s

abbrev pub read_next : FlashConfig → ℕ → Reading → Block → Moved
read_next flash number reading s = record { state = with_job number (Getting reading) s; outcome = nothing; order = Some (Read (page_no flash reading.place.region reading.next)) }

abbrev pub pinned : ℕ → Block → Block
pinned r s = with_region r (record (region_at r s.regions) { pins = (region_at r s.regions).pins + 1 }) s

abbrev pub start_read : FlashConfig → ℕ → Reading → Block → Moved
start_read flash number reading s = if nat_lt reading.next reading.until then read_next flash number reading (pinned reading.place.region s) else answered flash reading s

abbrev pub get_at : FlashConfig → ℕ → List ℕ → Option Place → Block → Moved
get_at flash number key None s = absent s
get_at flash number key (Some place) s = start_read flash number (reading_of flash key place s) s

abbrev pub get : FlashConfig → ℕ → List ℕ → Block → Moved
get flash number key s = get_at flash number key (place_at (kept_of flash.bits key) s.index) s

-- a read lets the region go: one that drains is clean after the last
abbrev pub let_go_of : ℕ → Region → Moved → Moved
let_go_of r region moved =
    if is_draining region.status && (region.pins == 1)
    then record moved { state = record (with_region r clean_region moved.state) { flushed = minus r moved.state.flushed }; outcome = record moved.outcome { cleared = Some r } }
    else record moved { state = with_region r (record region { pins = region.pins - 1 }) moved.state }

abbrev pub let_go : ℕ → Moved → Moved
let_go r moved = let_go_of r (region_at r moved.state.regions) moved

abbrev pub got_page : FlashConfig → ℕ → Reading → List ℕ → Block → Moved
got_page flash number reading bytes s =
    let more = record reading { got = reading.got ++ bytes; next = reading.next + 1 } in
    if nat_lt more.next more.until then read_next flash number more s
    else let_go reading.place.region (answered flash more s)

-- ---- the operations

abbrev pub start : FlashConfig → ℕ → Op → Block → Moved
start flash number (Put entry) s = put flash entry s
start flash number (Get key) s = get flash number key s
start flash number (Delete key) s = unmoved s
start flash number Flush s = flush flash number s
start flash number Reclaim s = reclaim flash s

-- an operation that was taken out of those under way, and its result
abbrev pub resume_work : FlashConfig → ℕ → Work → IoResult → Block → Moved
resume_work flash number (Writing r bytes) Written s = wrote_page flash number r (region_at r s.regions).status s
resume_work flash number (Writing r bytes) Failed s = end_region Fault r s
resume_work flash number (Getting reading) (Page page) s = got_page flash number reading page s
resume_work flash number (Getting reading) Failed s = let_go reading.place.region (failed_read flash reading s)
-- what a read or a write isn't answered with
resume_work flash number (Writing r bytes) (Page page) s = unmoved s
resume_work flash number (Getting reading) Written s = unmoved s

abbrev pub resume : FlashConfig → ℕ → Work → IoResult → Block → Moved
resume flash number work result s = resume_work flash number work result (end_job number s)

-- the entry of the hash, whoever's it is
abbrev pub take_index : ℕ → Block → Block
take_index hash s = record s { index = without hash s.index }
