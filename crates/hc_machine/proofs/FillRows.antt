-- Worked runs of calls that wait for flash: keys change and expire while a fill is out, and adds wait beside finds.
use Rattle.std.proofs.Common.{◌≡◌, true, List, [], ◌∷◌, ◌++◌, Some, refl, codes}
use Rattle.hc_types.specs.Config.{Config}
use Rattle.hc_types.specs.Loss as loss
use Rattle.hc_types.specs.Loss.{Expired}
use Rattle.hc_types.specs.FlashEntry.{FlashEntry}
use Rattle.hc_bucket.specs.Reading.{page_at, entries_at, entry_at, body_at, content_at, whole_at}
use Rattle.hc_engines.specs.Engine as engine
use Rattle.hc_engines.specs.small.Bloom.{bits_of}
use Rattle.hc_history.specs.Note.{Stored, Exists, Hit, Miss, Did, Lose, Charged, Linked, Freed, Buried, Read, Now}
use Rattle.hc_history.specs.Stats.{counts_of}
use Rattle.hc_legal.specs.Judge.{is_legal}
use Rattle.hc_legal.proofs.Logs.{a, b, c, d, one, two, three, anew, page, queues, a_one}
use Rattle.hc_machine.specs.Takes.{Idle}
use Rattle.hc_machine.specs.Cache.{Moment, Took}
use Rattle.hc_machine.specs.World as w
use Rattle.hc_machine.proofs.Tables.{Turn, log_of, Runs, stats, flash, on_flash, set, set_anew, set_for, add, add_waits, get_hits, get_misses, get_waits, del_found, del_absent, reply, answered, works, finishes, io_reads, writes_first, deletes, fills}
use Rattle.hc_machine.proofs.SmallRows.{one_item}

-- ---- a key is set anew while its fill is out

abbrev pub small_set_anew : List Turn
small_set_anew =
    set 1 1 a one [] ∷ set 2 2 b two (queues 1 a) ∷ writes_first 1 a (a_one ∷ [])
    ++ get_waits 3 a ∷ works w.Filler 2 (engine.Read 0) [] ∷ io_reads 2 (page (a_one ∷ []))
    ∷ set_anew 3 4 a anew (queues 2 b) (Buried a ∷ []) (Did 3 (Hit anew) ∷ []) ∷ reply 3 (Hit anew)
    ∷ finishes (w.Done 2) (Read 0 (Some (page (a_one ∷ []))) ∷ []) ∷ get_hits 5 a anew
    ∷ deletes 3 a (a_one ∷ []) []

pub small_set_anew-runs : Runs one_item small_set_anew
unfolding page_at entries_at entry_at body_at content_at whole_at bits_of
small_set_anew-runs = refl

pub small_set_anew-legal : is_legal one_item (log_of small_set_anew) ≡ true
unfolding page_at entries_at entry_at body_at content_at whole_at bits_of
small_set_anew-legal = refl

pub small_set_anew-counts : counts_of (log_of small_set_anew) ≡ stats 3 2 0 0 0 2 2
small_set_anew-counts = refl

-- ---- values expire in memory, and on their way back from flash

-- a, which expires at second 15
abbrev a_until_15 : FlashEntry
a_until_15 = record { key = a; value = one; pool = 0; expiry = 15 }

abbrev pub values_expire : List Turn
values_expire =
    answered (w.At 5) (Moment 5) (Now 5 ∷ []) ∷ set_for 10 15 1 1 a one [] ∷ answered (w.At 14) (Moment 14) (Now 14 ∷ [])
    ∷ get_hits 2 a one ∷ set 2 3 b two (queues 1 a) ∷ writes_first 1 a (a_until_15 ∷ [])
    ++ get_waits 4 a ∷ works w.Filler 2 (engine.Read 0) [] ∷ io_reads 2 (page (a_until_15 ∷ [])) ∷ answered (w.At 15) (Moment 15) (Now 15 ∷ [])
    ∷ finishes (w.Done 2) (Read 0 (Some (page (a_until_15 ∷ []))) ∷ Did 4 Miss ∷ []) ∷ reply 4 Miss
    ∷ answered (w.At 3) (Moment 15) [] ∷ get_hits 5 b two ∷ set_for 1 16 3 6 c (codes "x") (queues 2 b)
    ∷ answered (w.At 16) (Moment 16) (Now 16 ∷ []) ∷ get_misses 7 c ∷ set 4 8 d [] (Freed 3 ∷ Lose (loss.Key c) Expired ∷ []) ∷ []

pub values_expire-runs : Runs one_item values_expire
unfolding page_at entries_at entry_at body_at content_at whole_at bits_of
values_expire-runs = refl

pub values_expire-legal : is_legal one_item (log_of values_expire) ≡ true
unfolding page_at entries_at entry_at body_at content_at whole_at bits_of
values_expire-legal = refl

pub values_expire-counts : counts_of (log_of values_expire) ≡ stats 4 2 2 0 1 1 1
values_expire-counts = refl

-- ---- an add waits, and finds a value

-- two items in memory
abbrev pub two_items : Config
two_items = on_flash 1000 2 (flash 1 1 100 8 0 2000)

-- a is on flash, and an add and a find wait for it
abbrev pub both_wait : List Turn
both_wait =
    set 1 1 a one [] ∷ set 2 2 b two [] ∷ set 3 3 c three (queues 1 a) ∷ writes_first 1 a (a_one ∷ [])
    ++ add_waits 4 4 a anew (queues 2 b) ∷ get_waits 5 a ∷ []

abbrev pub add_finds_a_value : List Turn
add_finds_a_value =
    both_wait
    ++ fills 2 0 (page (a_one ∷ [])) (queues 3 c ++ Charged 5 a 0 36 ∷ Linked 5 ∷ Freed 4 ∷ Did 4 Exists ∷ Did 5 (Hit one) ∷ [])
    ++ reply 4 Exists ∷ reply 5 (Hit one) ∷ del_found 6 a (Freed 5 ∷ Buried a ∷ []) ∷ add 6 7 a anew [] [] ∷ get_hits 8 a anew ∷ []

pub add_finds_a_value-runs : Runs two_items add_finds_a_value
unfolding page_at entries_at entry_at body_at content_at whole_at bits_of
add_finds_a_value-runs = refl

pub add_finds_a_value-legal : is_legal two_items (log_of add_finds_a_value) ≡ true
unfolding page_at entries_at entry_at body_at content_at whole_at bits_of
add_finds_a_value-legal = refl

pub add_finds_a_value-counts : counts_of (log_of add_finds_a_value) ≡ stats 4 2 0 1 0 1 1
add_finds_a_value-counts = refl

-- ---- the key is removed, and the add that waits stores

abbrev pub add_stores : List Turn
add_stores =
    both_wait
    ++ del_absent 6 a (Buried a ∷ []) (Linked 4 ∷ Did 4 Stored ∷ Did 5 (Hit anew) ∷ [])
    ∷ reply 4 Stored ∷ reply 5 (Hit anew) ∷ answered w.Filler (Took Idle) [] ∷ get_hits 7 a anew ∷ []

pub add_stores-runs : Runs two_items add_stores
unfolding page_at entries_at entry_at body_at content_at whole_at bits_of
add_stores-runs = refl

pub add_stores-legal : is_legal two_items (log_of add_stores) ≡ true
unfolding page_at entries_at entry_at body_at content_at whole_at bits_of
add_stores-legal = refl

pub add_stores-counts : counts_of (log_of add_stores) ≡ stats 4 2 0 1 0 0 1
add_stores-counts = refl
