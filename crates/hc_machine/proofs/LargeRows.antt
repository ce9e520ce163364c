-- Worked runs of large items: regions are opened, written, read and reclaimed, and keys of one kept hash collide.
use Rattle.std.proofs.Common.{◌≡◌, ℕ, true, false, List, [], ◌∷◌, ◌++◌, take, drop, Some, None, refl, replicate}
use Rattle.hc_types.specs.Config.{Config}
use Rattle.hc_types.specs.Loss as loss
use Rattle.hc_types.specs.Loss.{Reclaimed as WasReclaimed, NoCleanRegion, Collision, Fault}
use Rattle.hc_bucket.specs.Reading.{page_at, entries_at, entry_at, body_at, content_at, whole_at}
use Rattle.hc_engines.specs.Engine as engine
use Rattle.hc_engines.specs.large.Entries.{entry_bytes}
use Rattle.hc_engines.specs.small.Bloom.{bits_of}
use Rattle.hc_history.specs.Note.{Hit, Miss, Did, Lose, Freed, Unqueued, Read, Wrote, Opened, Flushed, Cleared}
use Rattle.hc_history.specs.Stats.{counts_of}
use Rattle.hc_legal.specs.Judge.{is_legal}
use Rattle.hc_legal.proofs.Logs.{a, b, c, d, e, aa, bH, item, queues, large, region_page}
use Rattle.hc_machine.specs.Cache.{Reclaimed}
use Rattle.hc_machine.specs.World as w
use Rattle.hc_machine.proofs.Tables.{Turn, log_of, Runs, stats, flash, on_flash, brings, set, set_anew, get_hits, get_misses, get_waits, del_absent, reply, answered, works, finishes, io_reads, io_writes, io_fails, fills}

-- one item of up to 2000 bytes in memory, and regions of one page
abbrev pub one_page : Config
one_page = on_flash 2000 1 (flash 1 1 100 8 0 2000)

-- the page of region 0, with a: 300 times x
abbrev a_page : List ℕ
a_page = region_page (item 0 a (large 300 120))

-- a, b and c are set: a is in region 0, which is flushed, b in region 1, which is open, and c in memory
abbrev two_regions : List Turn
two_regions =
    set 1 1 a (large 300 120) [] ∷ set 2 2 b (large 300 121) (queues 1 a) ∷ finishes w.Writer (Unqueued a ∷ Opened 0 ∷ [])
    ∷ set 3 3 c (large 300 122) (queues 2 b) ∷ finishes w.Writer (Unqueued b ∷ Opened 1 ∷ [])
    ∷ works w.Writer 1 (engine.Write 1 a_page) [] ∷ io_writes 1 ∷ finishes (w.Done 1) (Wrote 1 a_page true ∷ Flushed 0 ∷ []) ∷ []

-- ---- a large key is set anew while its fill is out

abbrev pub large_set_anew : List Turn
large_set_anew =
    two_regions ++ get_waits 4 a ∷ works w.Filler 2 (engine.Read 1) [] ∷ io_reads 2 a_page
    ∷ set_anew 4 5 a (large 300 110) (queues 3 c) (Lose (loss.Hash 140 (Some a)) (Collision a) ∷ []) (Did 4 (Hit (large 300 110)) ∷ [])
    ∷ del_absent 6 c (Unqueued c ∷ []) [] ∷ set 5 7 d (large 300 119) (queues 4 a) ∷ finishes w.Writer (Unqueued a ∷ Opened 2 ∷ [])
    ∷ finishes (w.Done 2) (Read 1 (Some a_page) ∷ []) ∷ reply 4 (Hit (large 300 110)) ∷ get_waits 8 a
    ∷ finishes w.Filler (queues 5 d ++ brings 0 6 8 a (large 300 110)) ∷ reply 8 (Hit (large 300 110)) ∷ []

pub large_set_anew-runs : Runs one_page large_set_anew
unfolding page_at entries_at entry_at body_at content_at whole_at bits_of
large_set_anew-runs = refl

pub large_set_anew-legal : is_legal one_page (log_of large_set_anew) ≡ true
unfolding page_at entries_at entry_at body_at content_at whole_at bits_of
large_set_anew-legal = refl

pub large_set_anew-counts : counts_of (log_of large_set_anew) ≡ stats 5 2 0 1 1 1 1
large_set_anew-counts = refl

-- ---- a page that goes out is read from the buffer until it is written

abbrev pub read_as_it_goes_out : List Turn
read_as_it_goes_out =
    set 1 1 a (large 300 120) [] ∷ set 2 2 b (large 300 121) (queues 1 a) ∷ finishes w.Writer (Unqueued a ∷ Opened 0 ∷ [])
    ∷ set 3 3 c (large 300 122) (queues 2 b) ∷ finishes w.Writer (Unqueued b ∷ Opened 1 ∷ [])
    ∷ works w.Writer 1 (engine.Write 1 a_page) [] ∷ get_waits 4 a ∷ finishes w.Filler (queues 3 c ++ brings 0 4 4 a (large 300 120)) ∷ reply 4 (Hit (large 300 120))
    ∷ io_writes 1 ∷ finishes (w.Done 1) (Wrote 1 a_page true ∷ Flushed 0 ∷ []) ∷ []

pub read_as_it_goes_out-runs : Runs one_page read_as_it_goes_out
unfolding page_at entries_at entry_at body_at content_at whole_at bits_of
read_as_it_goes_out-runs = refl

pub read_as_it_goes_out-legal : is_legal one_page (log_of read_as_it_goes_out) ≡ true
unfolding page_at entries_at entry_at body_at content_at whole_at bits_of
read_as_it_goes_out-legal = refl

-- ---- a region is reclaimed while it is read, and none is clean until then

-- two regions are to be clean
abbrev pub two_clean : Config
two_clean = on_flash 2000 1 (flash 1 2 100 8 0 2000)

abbrev pub reclaimed_while_read : List Turn
reclaimed_while_read =
    two_regions ++ get_waits 4 a ∷ works w.Filler 2 (engine.Read 1) []
    ∷ answered w.Reclaim (Reclaimed (Some 0)) (Lose (loss.Hash 140 None) (WasReclaimed 0) ∷ [])
    ∷ set 4 5 d (large 300 119) (queues 3 c) ∷ finishes w.Writer (Unqueued c ∷ Opened 2 ∷ []) ∷ set 5 6 e (large 300 118) (queues 4 d)
    ∷ works w.Writer 3 (engine.Write 2 (region_page (item 0 b (large 300 121)))) []
    ∷ finishes w.Writer (Unqueued d ∷ Lose (loss.Key d) NoCleanRegion ∷ [])
    ∷ io_reads 2 a_page ∷ finishes (w.Done 2) (Read 1 (Some a_page) ∷ Cleared 0 ∷ Did 4 Miss ∷ []) ∷ reply 4 Miss
    ∷ get_waits 7 c ∷ finishes w.Filler (queues 5 e ++ brings 0 6 7 c (large 300 122)) ∷ reply 7 (Hit (large 300 122))
    ∷ finishes w.Writer (Unqueued e ∷ Opened 0 ∷ []) ∷ []

pub reclaimed_while_read-runs : Runs two_clean reclaimed_while_read
unfolding page_at entries_at entry_at body_at content_at whole_at bits_of
reclaimed_while_read-runs = refl

pub reclaimed_while_read-legal : is_legal two_clean (log_of reclaimed_while_read) ≡ true
unfolding page_at entries_at entry_at body_at content_at whole_at bits_of
reclaimed_while_read-legal = refl

pub reclaimed_while_read-counts : counts_of (log_of reclaimed_while_read) ≡ stats 5 1 1 0 2 1 1
reclaimed_while_read-counts = refl

-- ---- two keys of one kept hash

abbrev pub one_hash : List Turn
one_hash =
    set 1 1 aa (large 200 120) [] ∷ set 2 2 bH (large 200 121) (queues 1 aa) ∷ finishes w.Writer (Unqueued aa ∷ Opened 0 ∷ [])
    ∷ set 3 3 c (large 200 122) (queues 2 bH) ∷ finishes w.Writer (Unqueued bH ∷ Lose (loss.Hash 183 (Some bH)) (Collision bH) ∷ [])
    ∷ get_waits 4 aa ∷ finishes w.Filler (Did 4 Miss ∷ []) ∷ reply 4 Miss
    ∷ del_absent 5 aa (Lose (loss.Hash 183 (Some aa)) (Collision aa) ∷ []) [] ∷ get_misses 6 bH ∷ []

pub one_hash-runs : Runs one_page one_hash
unfolding page_at entries_at entry_at body_at content_at whole_at bits_of
one_hash-runs = refl

pub one_hash-legal : is_legal one_page (log_of one_hash) ≡ true
unfolding page_at entries_at entry_at body_at content_at whole_at bits_of
one_hash-legal = refl

pub one_hash-counts : counts_of (log_of one_hash) ≡ stats 3 0 2 1 2 0 0
one_hash-counts = refl

-- ---- an open region goes out page by page

-- regions of two pages
abbrev pub two_pages : Config
two_pages = on_flash 2000 1 (flash 2 1 100 8 0 2000)

-- the bytes of a: 600 times x, and of b: 600 times y
abbrev a_bytes : List ℕ
a_bytes = entry_bytes (record { key = a; value = large 600 120; pool = 0; expiry = 0 })

abbrev b_bytes : List ℕ
b_bytes = entry_bytes (record { key = b; value = large 600 121; pool = 0; expiry = 0 })

-- the second page of region 0: 103 bytes are left of a
abbrev second_page : List ℕ
second_page = drop 512 a_bytes ++ replicate 409 0

abbrev pub page_by_page : List Turn
page_by_page =
    set 1 1 a (large 600 120) [] ∷ set 2 2 b (large 600 121) (queues 1 a) ∷ finishes w.Writer (Unqueued a ∷ Opened 0 ∷ [])
    ∷ works w.Writer 1 (engine.Write 1 (take 512 a_bytes)) [] ∷ io_writes 1 ∷ finishes (w.Done 1) (Wrote 1 (take 512 a_bytes) true ∷ [])
    ∷ get_waits 3 a ∷ fills 2 1 (take 512 a_bytes) (queues 2 b ++ brings 0 3 3 a (large 600 120)) ++ reply 3 (Hit (large 600 120))
    ∷ finishes w.Writer (Unqueued b ∷ Opened 1 ∷ [])
    ∷ works w.Writer 3 (engine.Write 2 second_page) [] ∷ io_writes 3 ∷ finishes (w.Done 3) (Wrote 2 second_page true ∷ Flushed 0 ∷ [])
    ∷ get_waits 4 b ∷ finishes w.Filler (Freed 3 ∷ brings 0 4 4 b (large 600 121)) ∷ reply 4 (Hit (large 600 121))
    ∷ works w.Writer 4 (engine.Write 3 (take 512 b_bytes)) [] ∷ io_fails 4
    ∷ finishes (w.Done 4) (Wrote 3 (take 512 b_bytes) false ∷ Lose (loss.Hash 165 None) Fault ∷ Cleared 1 ∷ []) ∷ get_hits 5 b (large 600 121) ∷ []

pub page_by_page-runs : Runs two_pages page_by_page
unfolding page_at entries_at entry_at body_at content_at whole_at bits_of
page_by_page-runs = refl

pub page_by_page-legal : is_legal two_pages (log_of page_by_page) ≡ true
unfolding page_at entries_at entry_at body_at content_at whole_at bits_of
page_by_page-legal = refl

pub page_by_page-counts : counts_of (log_of page_by_page) ≡ stats 2 3 0 0 1 1 3
page_by_page-counts = refl
