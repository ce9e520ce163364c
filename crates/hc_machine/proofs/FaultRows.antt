-- Worked runs of a device that fails: buckets are given up, with what is remembered of them.
use Rattle.std.proofs.Common.{◌≡◌, true, false, List, [], ◌∷◌, ◌++◌, Some, None, refl, codes}
use Rattle.hc_types.specs.Loss as loss
use Rattle.hc_types.specs.Loss.{Fault}
use Rattle.hc_bucket.specs.Reading.{page_at, entries_at, entry_at, body_at, content_at, whole_at}
use Rattle.hc_engines.specs.Engine as engine
use Rattle.hc_engines.specs.small.Bloom.{bits_of}
use Rattle.hc_history.specs.Note.{Hit, Lose, Unqueued, Writing, Written, Buried, Raised, Read, Wrote}
use Rattle.hc_history.specs.Stats.{counts_of}
use Rattle.hc_legal.specs.Judge.{is_legal}
use Rattle.hc_legal.proofs.Logs.{two_pools, a, b, c, d, e, one, two, three, four, page, queues, in_1, a_one, b_two}
use Rattle.hc_machine.specs.Takes.{Idle}
use Rattle.hc_machine.specs.Cache.{Took}
use Rattle.hc_machine.specs.World as w
use Rattle.hc_machine.proofs.Tables.{Turn, log_of, Runs, stats, brings, set_in, set, get_hits, get_misses, get_waits, del_absent, reply, answered, works, finishes, io_reads, io_fails, writes_first, writes_over, fills}
use Rattle.hc_machine.proofs.SmallRows.{one_item}

-- ---- a write fails, and an item in memory has no copy any longer

abbrev pub bucket_given_up : List Turn
bucket_given_up =
    set_in 1 1 1 a one [] ∷ set_in 1 2 2 b two (queues 1 a) ∷ writes_first 1 a (in_1 a one ∷ [])
    ++ set_in 1 3 3 c three (queues 2 b) ∷ writes_over 2 b (in_1 a one ∷ []) (in_1 a one ∷ in_1 b two ∷ []) []
    ++ set_in 1 4 4 d four (queues 3 c) ∷ writes_over 3 c (in_1 a one ∷ in_1 b two ∷ []) (in_1 a one ∷ in_1 b two ∷ in_1 c three ∷ []) []
    ++ get_waits 5 a ∷ fills 4 0 (page (in_1 a one ∷ in_1 b two ∷ in_1 c three ∷ [])) (queues 4 d ++ brings 1 5 5 a one) ++ reply 5 (Hit one)
    ∷ works w.Writer 5 (engine.Read 0) (Unqueued d ∷ Writing d ∷ []) ∷ io_reads 5 (page (in_1 a one ∷ in_1 b two ∷ in_1 c three ∷ []))
    ∷ works (w.Done 5) 5 (engine.Write 0 (page (in_1 a one ∷ in_1 b two ∷ in_1 c three ∷ in_1 d four ∷ []))) (Read 0 (Some (page (in_1 a one ∷ in_1 b two ∷ in_1 c three ∷ []))) ∷ [])
    ∷ io_fails 5
    ∷ finishes (w.Done 5) (Wrote 0 (page (in_1 a one ∷ in_1 b two ∷ in_1 c three ∷ in_1 d four ∷ [])) false ∷ Lose (loss.Bucket 0) Fault ∷ Written d ∷ [])
    ∷ get_misses 6 b ∷ get_misses 7 d ∷ get_hits 8 a one ∷ set_in 1 6 9 e [] (queues 5 a) ∷ writes_first 6 a (in_1 a one ∷ [])

pub bucket_given_up-runs : Runs two_pools bucket_given_up
unfolding page_at entries_at entry_at body_at content_at whole_at bits_of
bucket_given_up-runs = refl

pub bucket_given_up-legal : is_legal two_pools (log_of bucket_given_up) ≡ true
unfolding page_at entries_at entry_at body_at content_at whole_at bits_of
bucket_given_up-legal = refl

pub bucket_given_up-counts : counts_of (log_of bucket_given_up) ≡ stats 5 2 2 0 1 4 5
bucket_given_up-counts = refl

-- ---- a read fails as a put is written

-- a is on flash, and b waits
abbrev b_waits : List Turn
b_waits = set 1 1 a one [] ∷ set 2 2 b two (queues 1 a) ∷ writes_first 1 a (a_one ∷ []) ++ set 3 3 c three (queues 2 b) ∷ works w.Writer 2 (engine.Read 0) (Unqueued b ∷ Writing b ∷ []) ∷ []

abbrev pub read_fails : List Turn
read_fails =
    b_waits ++ io_fails 2 ∷ finishes (w.Done 2) (Read 0 None ∷ Lose (loss.Bucket 0) Fault ∷ Written b ∷ [])
    ∷ get_misses 4 a ∷ get_misses 5 b ∷ get_hits 6 c three ∷ []

pub read_fails-runs : Runs one_item read_fails
unfolding page_at entries_at entry_at body_at content_at whole_at bits_of
read_fails-runs = refl

pub read_fails-legal : is_legal one_item (log_of read_fails) ≡ true
unfolding page_at entries_at entry_at body_at content_at whole_at bits_of
read_fails-legal = refl

pub read_fails-counts : counts_of (log_of read_fails) ≡ stats 3 1 2 0 1 1 1
read_fails-counts = refl

-- ---- a key is removed between the read and the write that fails

abbrev pub rewrite_fails : List Turn
rewrite_fails =
    b_waits ++ io_reads 2 (page (a_one ∷ [])) ∷ works (w.Done 2) 2 (engine.Write 0 (page (a_one ∷ b_two ∷ []))) (Read 0 (Some (page (a_one ∷ []))) ∷ [])
    ∷ del_absent 4 a (Buried a ∷ []) [] ∷ io_fails 2
    ∷ finishes (w.Done 2) (Wrote 0 (page (a_one ∷ b_two ∷ [])) false ∷ Lose (loss.Bucket 0) Fault ∷ Raised a ∷ Written b ∷ [])
    ∷ answered w.Writer (Took Idle) [] ∷ get_misses 5 a ∷ set 4 6 a (codes "x") (queues 3 c) ∷ get_hits 7 a (codes "x") ∷ []

pub rewrite_fails-runs : Runs one_item rewrite_fails
unfolding page_at entries_at entry_at body_at content_at whole_at bits_of
rewrite_fails-runs = refl

pub rewrite_fails-legal : is_legal one_item (log_of rewrite_fails) ≡ true
unfolding page_at entries_at entry_at body_at content_at whole_at bits_of
rewrite_fails-legal = refl

pub rewrite_fails-counts : counts_of (log_of rewrite_fails) ≡ stats 4 1 1 1 1 1 2
rewrite_fails-counts = refl
