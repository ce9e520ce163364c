-- What the invariant says of flash, as tests that compute over the keys and numbers that a history names.
use Rattle.std.specs.Prelude.{ℕ, ◌+◌, ◌==◌, nat_lt, nat_le, Bool, true, false, not, ◌&&◌, ◌||◌, List, [], ◌∷◌, ◌++◌, length, map, reverse, take, drop, Option, Some, None, is_some, if◌then◌else◌}
use Rattle.std.specs.List.{list_any, list_all}
use Rattle.std.specs.Str.{bytes_eq}
use Rattle.hc_types.specs.declared.config.FlashConfig.{FlashConfig}
use Rattle.hc_types.specs.Tally.{count}
use Rattle.hc_types.specs.Places.{kept_of, bucket_at, is_small_by}
use Rattle.hc_types.specs.FlashEntry.{FlashEntry}
use Rattle.hc_bucket.specs.Page.{page_bytes}
use Rattle.hc_engines.specs.Engine.{Pages, Op, Put, Get, Delete, Order}
use Rattle.hc_engines.specs.small.Bloom.{word_of}
use Rattle.hc_engines.specs.small.Entries.{without, page_put}
use Rattle.hc_engines.specs.small.BigHash as bighash
use Rattle.hc_engines.specs.small.Held as small
use Rattle.hc_engines.specs.large.Region.{Status, Open, Flushing, Region, Appended, is_clean, is_draining, filled_to, next_page, region_at, page_no, region_len, is_sealed}
use Rattle.hc_types.specs.FlashEntry.{FlashEntry}
use Rattle.hc_engines.specs.large.Entries.{entry_in}
use Rattle.hc_engines.specs.large.Index.{Indexed, place_at, is_place}
use Rattle.hc_engines.specs.large.Held as large
use Rattle.hc_engines.specs.large.Steps.{first_page}
use Rattle.hc_engines.specs.large.Block as block
use Rattle.hc_engines.specs.large.Block.{Block}
use Rattle.hc_engines.specs.large.Index.{region_in}
use Rattle.hc_engines.specs.large.Sound.{is_live, is_stored, is_out, is_listed, readers, writers, is_filling, is_waiting}
use Rattle.hc_memory.specs.Item.{charge_by}
use Rattle.hc_memory.specs.Charges.{is_open}
use Rattle.hc_memory.specs.Memory.{Memory, linked_at}
use Rattle.hc_history.specs.Note.{Note}
use Rattle.hc_history.specs.Books.{waiting, writing, buried, is_among}
use Rattle.hc_history.specs.Pages.{bytes_at, bucket_entries}
use Rattle.hc_history.specs.Regions.{in_use, is_one_of, flushed, open_region, filling, filed}
use Rattle.hc_machine.specs.Nvm.{Nvm, Wish, ToFind, ToAdd, Waiter, Fill, Task, Putting, Deleting, Filling, Flushing, Job, put_at, is_buried, is_put_of, is_stone_of, puts, is_written_now, is_job, job_at, is_fill_of, is_number_in, adds}
use Rattle.hc_machine.specs.Leaving.{is_too_large}
use Rattle.hc_invariant.specs.Standing.{put_in, written_by}
use Rattle.hc_invariant.specs.Tells.{keys_of, waiters_of, files}
use Rattle.hc_invariant.specs.Jobs.{is_taken, small_order, large_order, small_job, large_work}
use Rattle.hc_invariant.specs.Alike.{is_same, all_same, is_number, both, same_entry, same_order, below, implies}
use Rattle.hc_history.specs.Regions.{is_put_of as put_is_of, put_under_way}
use Rattle.hc_invariant.specs.Fresh.{changed_since}
use Rattle.hc_invariant.specs.Structure.{is_get_of}

-- ---- puts and tombstones

abbrev pub waits_tell : List (List ℕ) → List Note → Nvm → Bool
waits_tell keys older nvm =
    all_same bytes_eq (keys_of nvm.queue) (reverse (waiting older))
    && (count (is_too_large nvm.pair.small.flash) nvm.queue == 0)
    && list_all (λ key. nat_le (count (is_put_of key) nvm.queue) 1
    && (both (is_among key (buried older)) (is_buried nvm key)
    && (nat_le (count (is_stone_of key) nvm.tombstones) 1
    && (both (is_among key (writing older)) (is_written_now nvm key)
    && nat_le (count (λ (job : Job). puts key job.task) nvm.jobs) 1)))) keys

-- ---- regions

abbrev pub same_region : Option ℕ → Option ℕ → Bool
same_region a b = is_same is_number a b

abbrev pub if_current : Option ℕ → (ℕ → Bool) → Bool
if_current None test = true
if_current (Some r) test = test r

abbrev pub hashes_of : FlashConfig → List (List ℕ) → List ℕ
hashes_of flash keys = map (kept_of flash.bits) keys

abbrev pub regions_tell : List ℕ → FlashConfig → List Note → Block → Bool
regions_tell hashes flash older s =
    (length s.regions == flash.regions)
    && (list_all (λ r. both (is_one_of r (in_use older)) (not (is_clean (region_at r s.regions).status))) (below (flash.regions + 1))
    && ((length (in_use older) == count (λ (region : Region). not (is_clean region.status)) s.regions)
    && (all_same is_number s.flushed (reverse (flushed older))
    && (list_all (λ hash. list_all (λ r. count (files hash r) (filed flash older) == (if is_number_in r (region_in (place_at hash s.index)) then 1 else 0)) (below (flash.regions + 1))) hashes
    && (same_region (open_region flash older) s.current
    && if_current s.current (λ r. filling flash older == filled_to flash (region_at r s.regions)))))))

-- ---- the engines

abbrev pub page_fits : FlashConfig → ℕ → Option ℕ → Option (List ℕ) → Bool
page_fits flash bucket None page = true
page_fits flash bucket (Some word) None = false
page_fits flash bucket (Some word) (Some bytes) =
    let es = small.entries_in flash.page (Some bytes) in
    bytes_eq bytes (page_bytes flash.page es) && ((word == word_of es) && list_all (λ (e : FlashEntry). is_small_by flash e.key (length e.value) && (bucket_at flash e.key == bucket)) es)

abbrev pub work_fits : ℕ → Op → bighash.Phase → Option ℕ → List FlashEntry → Bool
work_fits size op bighash.Reading word es = is_some word
work_fits size (Put e) (bighash.Writing page losses) word es = all_same same_entry page (page_put size e es)
work_fits size (Delete key) (bighash.Writing page losses) word es = all_same same_entry page (without key es)
work_fits size op (bighash.Writing page losses) word es = false

abbrev pub small_fits : bighash.BigHash → Pages → Bool
small_fits s pages =
    (length s.words == s.flash.buckets)
    && (list_all (λ bucket. page_fits s.flash bucket (bighash.word_at s bucket) (pages bucket)) (below s.flash.buckets)
    && list_all (λ (job : bighash.Job).
    bighash.is_ours s.flash job.op && ((job.bucket == bucket_at s.flash (bighash.key_of job.op))
    && ((count (λ (other : bighash.Job). other.bucket == job.bucket) s.jobs == 1)
    && work_fits s.flash.page job.op job.phase (bighash.word_at s job.bucket) (small.bucket_entries s pages job.bucket)))) s.jobs)

abbrev pub is_rising : ℕ → List Appended → ℕ → Bool
is_rising from [] to = nat_le from to
is_rising from (x ∷ xs) to = nat_le from x.offset && is_rising (x.offset + 1) xs to

abbrev pub region_holds : FlashConfig → ℕ → ℕ → Region → Bool
region_holds flash reads writes region =
    implies (is_clean region.status) ((region.written == 0) && ((length region.buffer == 0) && ((region.pins == 0) && not region.early)))
    && (implies (not (is_live region.status)) (length region.appended == 0)
    && ((region.pins == reads)
    && (implies (is_draining region.status) (nat_lt 0 region.pins)
    && ((writes == (if is_out region then 1 else 0))
    && (implies (is_filling region.status) (nat_lt region.written flash.region_pages)
    && (implies region.early (is_waiting region.status && (nat_le flash.page (length region.buffer) && nat_lt (region.written + 1) flash.region_pages))
    && (is_rising 0 region.appended (filled_to flash region)
    && (nat_le (filled_to flash region) (region_len flash) && nat_le region.written flash.region_pages))))))))

abbrev pub work_holds : FlashConfig → List Region → block.Work → Bool
work_holds flash regions (block.Writing r bytes) = bytes_eq bytes (next_page flash (region_at r regions))
work_holds flash regions (block.Getting reading) = nat_lt reading.next reading.until && nat_le reading.until (region_at reading.place.region regions).written

abbrev pub is_open_status : Status → Bool
is_open_status Open = true
is_open_status status = false

abbrev pub large_sound : FlashConfig → Block → Bool
large_sound flash s =
    if_current s.current (λ r. is_open_status (region_at r s.regions).status)
    && (list_all (λ r. is_sealed (region_at r s.regions).status) s.sealed
    && (list_all (λ r. is_stored (region_at r s.regions).status) s.flushed
    && (list_all (λ (x : Indexed). is_listed x.hash x.place.offset (region_at x.place.region s.regions).appended) s.index
    && (list_all (λ r. region_holds flash (readers r s.jobs) (writers r s.jobs) (region_at r s.regions)) (below flash.regions)
    && (list_all (λ (job : block.Job). work_holds flash s.regions job.work && (count (λ (other : block.Job). other.number == job.number) s.jobs == 1)) s.jobs)))))

abbrev pub own_entry : FlashConfig → ℕ → Option FlashEntry → Bool
own_entry flash hash None = false
own_entry flash hash (Some e) = (kept_of flash.bits e.key == hash) && not (is_small_by flash e.key (length e.value))

abbrev pub large_fits : FlashConfig → Pages → Block → Bool
large_fits flash pages s =
    list_all (λ r. is_clean (region_at r s.regions).status || list_all (λ i. length (large.bytes_or_none (pages (page_no flash r i))) == flash.page) (below (region_at r s.regions).written)) (below flash.regions)
    && list_all (λ (x : Indexed). own_entry flash x.hash (entry_in (large.bytes_at flash pages s x.place)) && nat_le (x.place.offset + x.place.length) (length (large.bytes_of flash pages s x.place.region))) s.index

abbrev pub read_holds : FlashConfig → Pages → Block → block.Work → Bool
read_holds flash pages s (block.Writing r bytes) = true
read_holds flash pages s (block.Getting reading) =
    bytes_eq (large.first_pages flash pages reading.place.region (first_page flash reading.place) ++ reading.got) (large.first_pages flash pages reading.place.region reading.next)
    && (nat_le (first_page flash reading.place) reading.next
    && implies (is_live (region_at reading.place.region s.regions).status)
    (bytes_eq (take reading.place.length (drop reading.place.offset (large.first_pages flash pages reading.place.region reading.until) ++ reading.rest)) (large.bytes_at flash pages s reading.place)))

abbrev pub buckets_tell : FlashConfig → List Note → Nvm → Bool
buckets_tell flash older nvm = list_all (λ bucket. all_same same_entry (bucket_entries flash older bucket) (small.bucket_entries nvm.pair.small (bytes_at older) bucket)) (below flash.buckets)

-- ---- jobs

abbrev pub is_get : Op → Bool
is_get (Get key) = true
is_get op = false

abbrev pub is_delete : List ℕ → Op → Bool
is_delete key (Delete k) = bytes_eq k key
is_delete key op = false

abbrev pub runs_as : Nvm → Task → Order → Option bighash.Job → Option block.Work → Bool
runs_as nvm (Putting key) order (Some job) None = is_some (put_in key job.op) && same_order order (small_order nvm.pair job)
runs_as nvm (Deleting key) order (Some job) None = is_delete key job.op && (is_taken key nvm.tombstones && same_order order (small_order nvm.pair job))
runs_as nvm Filling order (Some job) None = is_get job.op && same_order order (small_order nvm.pair job)
runs_as nvm Filling order None (Some (block.Getting reading)) = same_order order (large_order nvm.pair (block.Getting reading))
runs_as nvm Flushing order None (Some (block.Writing r bytes)) = same_order order (large_order nvm.pair (block.Writing r bytes))
runs_as nvm task order job work = false

abbrev pub jobs_run : Nvm → Bool
jobs_run nvm =
    list_all (λ (job : Job). runs_as nvm job.task job.order (small_job nvm job.number) (large_work nvm job.number)
    && ((count (is_job job.number) nvm.jobs == 1) && nat_le job.number nvm.made)) nvm.jobs
    && list_all (λ n. is_some (job_at n nvm.jobs) || (not (is_some (small_job nvm n)) && not (is_some (large_work nvm n)))) (below (nvm.made + 2))

-- ---- fills

abbrev pub wish_holds : Memory → List ℕ → Wish → Bool
wish_holds memory key ToFind = true
wish_holds memory key (ToAdd handle) = bytes_eq handle.key key && (is_open (charge_by handle) memory.charges && nat_lt handle.pool (length memory.pools))

abbrev pub brings : Pages → Nvm → List ℕ → Option bighash.Job → Option block.Work → Bool
brings pages nvm key (Some job) None = is_get_of key job.op
brings pages nvm key None (Some (block.Getting reading)) = bytes_eq reading.key key && (not (is_some (written_by key nvm.pair.small.jobs)) && (not (is_some (small.held nvm.pair.small pages key))
    && (is_place (place_at (kept_of nvm.pair.small.flash.bits key) nvm.pair.large.index) reading.place || not (is_some (large.held nvm.pair.small.flash pages nvm.pair.large key)))))
brings pages nvm key job work = false

abbrev pub brings_if : Pages → Nvm → List ℕ → Option ℕ → Bool
brings_if pages nvm key None = true
brings_if pages nvm key (Some number) = brings pages nvm key (small_job nvm number) (large_work nvm number)

abbrev pub fill_holds : Pages → Memory → Nvm → Fill → Bool
fill_holds pages memory nvm fill =
    not (is_some (linked_at fill.key memory.pools))
    && (not (is_some (put_at fill.key nvm.queue))
    && (not (is_buried nvm fill.key)
    && (list_all (λ (waiter : Waiter). wish_holds memory fill.key waiter.wish) fill.waiters
    && (brings_if pages nvm fill.key fill.job
    && (count (is_fill_of fill.key) nvm.fills == 1)))))

abbrev pub fills_hold : Pages → Memory → Nvm → Bool
fills_hold pages memory nvm =
    list_all (fill_holds pages memory nvm) nvm.fills
    && (list_all (λ n. nat_le (count (λ (fill : Fill). is_number_in n fill.job) nvm.fills) 1) (below (nvm.made + 1))
    && list_all (λ n. nat_le (count (adds n) (waiters_of nvm.fills)) 1) (below (memory.made + 1)))

-- ---- what the last notes tell

-- no region stands twice among those that were flushed
abbrev pub one_flush : List Note → Bool
one_flush older = list_all (λ r. count (λ (x : ℕ). x == r) (flushed older) == 1) (flushed older)

-- a large put that the last notes tell is of no key that has a fill
abbrev pub rested : FlashConfig → List Note → Nvm → Bool
rested flash older nvm = not (list_any (λ (fill : Fill). put_is_of fill.key (put_under_way flash older)) nvm.fills)

-- no fill's key was inserted or removed since the first of its calls began
abbrev pub is_fresh : List Note → List ℕ → List Waiter → Bool
is_fresh older key [] = false
is_fresh older key (waiter ∷ waiters) = not (changed_since older waiter.call key)

abbrev pub fills_fresh : List Note → Nvm → Bool
fills_fresh older nvm = list_all (λ (fill : Fill). is_fresh older fill.key fill.waiters) nvm.fills
