-- When a worker may find nothing to do: by the notes so far, and by the orders of the jobs that are out.
use Rattle.std.specs.Prelude.{ℕ, ◌+◌, ◌*◌, ◌==◌, nat_lt, nat_le, Bool, true, false, not, ◌&&◌, ◌||◌, List, [], ◌∷◌, length, map, filter, Option, Some, None, if◌then◌else◌}
use Rattle.std.specs.List.{list_any, list_all}
use Rattle.std.specs.Str.{bytes_eq}
use Rattle.hc_types.specs.Places.{bucket_at, is_small_by, is_page_of}
use Rattle.hc_types.specs.Tally.{count}
use Rattle.hc_types.specs.declared.config.FlashConfig.{FlashConfig}
use Rattle.hc_engines.specs.Engine.{Order, Read, Write}
use Rattle.hc_history.specs.Note.{Note, Wrote, Opened}
use Rattle.hc_history.specs.Books.{Entry, Call, waiting, buried, open_calls, entry_at}
use Rattle.hc_history.specs.Regions.{Filing, filed, in_use, flushed, open_region, filling, is_one_of, clean_count, key_of}
use Rattle.hc_follows.specs.Desk.{Out, Desk}
use Rattle.hc_machine.specs.Nvm.{is_number_in}

-- ---- orders

abbrev pub page_of : Order → ℕ
page_of (Read page) = page
page_of (Write page bytes) = page

abbrev pub is_read : Order → Bool
is_read (Read page) = true
is_read (Write page bytes) = false

-- a job has an order out on the key's bucket
abbrev pub is_busy : FlashConfig → List Out → List ℕ → Bool
is_busy flash jobs key = list_any (λ (out : Out). page_of out.order == bucket_at flash key) jobs

-- a read of one of the region's pages is out
abbrev pub is_being_read : FlashConfig → List Out → ℕ → Bool
is_being_read flash jobs region = list_any (λ (out : Out). is_read out.order && is_page_of flash region (page_of out.order)) jobs

-- ---- the writer

-- a key's entry is small
abbrev pub is_small_entry : FlashConfig → List ℕ → Option Entry → Bool
is_small_entry flash key None = false
is_small_entry flash key (Some entry) = is_small_by flash key (length entry.value)

-- a put of the key waits for its bucket: it is small, and a job is on the bucket
abbrev pub waits_for_bucket : FlashConfig → Desk → List ℕ → Bool
waits_for_bucket flash desk key = is_small_entry flash key (entry_at (Some flash) desk.older key) && is_busy flash desk.jobs key

-- a write of one of the region's pages is out
abbrev pub is_being_written : FlashConfig → List Out → ℕ → Bool
is_being_written flash jobs region = list_any (λ (out : Out). not (is_read out.order) && is_page_of flash region (page_of out.order)) jobs

-- a write of one of the region's pages failed since it was opened
abbrev pub has_failed : FlashConfig → ℕ → List Note → Bool
has_failed flash region [] = false
has_failed flash region (Opened other ∷ older) = if other == region then false else has_failed flash region older
has_failed flash region (Wrote page bytes false ∷ older) = is_page_of flash region page || has_failed flash region older
has_failed flash region (note ∷ older) = has_failed flash region older

-- how many of the region's pages were written since it was opened
abbrev pub pages_written : FlashConfig → ℕ → List Note → ℕ
pages_written flash region [] = 0
pages_written flash region (Opened other ∷ older) = if other == region then 0 else pages_written flash region older
pages_written flash region (Wrote page bytes true ∷ older) = (if is_page_of flash region page then 1 else 0) + pages_written flash region older
pages_written flash region (note ∷ older) = pages_written flash region older

-- the open region's next page isn't full, or is its last, which goes once the region is full
abbrev pub has_no_full_page : FlashConfig → List Note → ℕ → Bool
has_no_full_page flash older region = nat_lt (filling flash older) ((pages_written flash region older + 1) * flash.page) || nat_le flash.region_pages (pages_written flash region older + 1)

-- nothing to write of a region in use: it is whole on flash, it failed, a page of it is out, or it is open and has no page that
-- could go before it is full
abbrev pub needs_no_write : FlashConfig → Desk → ℕ → Bool
needs_no_write flash desk region =
    is_one_of region (flushed desk.older) || has_failed flash region desk.older || is_being_written flash desk.jobs region
    || (is_number_in region (open_region flash desk.older) && has_no_full_page flash desk.older region)

-- nothing to write of what is buried, of what waits and of regions: a large put may always go, and else the key's bucket is busy
abbrev pub is_written_out : Option FlashConfig → Desk → Bool
is_written_out None desk = true
is_written_out (Some flash) desk = list_all (is_busy flash desk.jobs) (buried desk.older) && list_all (waits_for_bucket flash desk) (waiting desk.older) && list_all (needs_no_write flash desk) (in_use desk.older)

-- ---- the filler

-- these keys, each once
abbrev pub each_once : List (List ℕ) → List (List ℕ)
each_once [] = []
each_once (key ∷ keys) = key ∷ filter (λ other. not (bytes_eq other key)) (each_once keys)

-- how many reads are out behind the buckets: each is made for one key
abbrev pub reads_behind : FlashConfig → List Out → ℕ
reads_behind flash jobs = count (λ (out : Out). is_read out.order && nat_le flash.buckets (page_of out.order)) jobs

-- the keys that calls wait for, each once, but for those whose bucket is busy
abbrev pub keys_free : FlashConfig → Desk → List (List ℕ)
keys_free flash desk = filter (λ key. not (is_busy flash desk.jobs key)) (each_once (map (λ (call : Call). key_of call.op) (open_calls desk.older)))

-- nothing to look for: each key that a call waits for and whose bucket is free is being read behind the buckets, so that such
-- keys are no more than those reads
abbrev pub is_looked_up : Option FlashConfig → Desk → Bool
is_looked_up None desk = true
is_looked_up (Some flash) desk = nat_le (length (keys_free flash desk)) (reads_behind flash desk.jobs)

-- ---- reclaim

-- fewer regions are clean than there are to be
abbrev pub wants_clean : Option FlashConfig → List Note → Bool
wants_clean None older = false
wants_clean (Some flash) older = nat_lt (clean_count flash older) flash.clean

-- a region drains: nothing is filed under it, and a read of one of its pages is out
abbrev pub may_drain : FlashConfig → Desk → ℕ → Bool
may_drain flash desk region = (count (λ (filing : Filing). filing.region == region) (filed flash desk.older) == 0) && is_being_read flash desk.jobs region

-- nothing to give up: enough regions are clean, or each flushed one drains
abbrev pub is_clean_enough : Option FlashConfig → Desk → Bool
is_clean_enough None desk = true
is_clean_enough (Some flash) desk = not (wants_clean (Some flash) desk.older) || list_all (may_drain flash desk) (flushed desk.older)
