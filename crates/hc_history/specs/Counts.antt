-- The text of the seven counts, and of the losses by their reasons.
use Rattle.std.specs.Prelude.{ℕ, List, ◌++◌, codes}
use Rattle.std.specs.Fmt.{decimal}
use Rattle.hc_history.specs.declared.losses.Losses.{Losses}
use Rattle.hc_history.specs.declared.stats.Stats.{Stats}

-- a word and its count
abbrev pub count_text : List ℕ → ℕ → List ℕ
count_text word count = word ++ decimal count

-- the counts of finds
abbrev pub finds_text : Stats → List ℕ
finds_text counts = count_text (codes " hits ") counts.hits ++ count_text (codes " misses ") counts.misses

-- the counts of calls
abbrev pub calls_text : Stats → List ℕ
calls_text counts = count_text (codes "stored ") counts.stored ++ finds_text counts ++ count_text (codes " removes ") counts.removes

-- the counts of what is forgotten, and of pages
abbrev pub others_text : Stats → List ℕ
others_text counts =
    count_text (codes " losses ") counts.losses ++ count_text (codes " reads ") counts.reads
    ++ count_text (codes " writes ") counts.writes

abbrev pub counts_text : Stats → List ℕ
counts_text counts = calls_text counts ++ others_text counts

-- the first losses of evicted items
abbrev pub first_text : Losses → List ℕ
first_text losses =
    count_text (codes "noflash ") losses.no_flash ++ count_text (codes " tombstone ") losses.tombstone
    ++ count_text (codes " notadmitted ") losses.not_admitted

-- and the others
abbrev pub later_text : Losses → List ℕ
later_text losses =
    count_text (codes " toolarge ") losses.too_large ++ count_text (codes " queuefull ") losses.queue_full
    ++ count_text (codes " expired ") losses.expired

-- the losses of items that were evicted
abbrev pub evicted_text : Losses → List ℕ
evicted_text losses = first_text losses ++ later_text losses

-- the losses of what stood on flash, or was to
abbrev pub flash_text : Losses → List ℕ
flash_text losses =
    count_text (codes "fault ") losses.fault ++ count_text (codes " bucketfull ") losses.bucket_full
    ++ count_text (codes " reclaimed ") losses.reclaimed ++ count_text (codes " nocleanregion ") losses.no_clean_region
    ++ count_text (codes " collision ") losses.collision

abbrev pub losses_text : Losses → List ℕ
losses_text losses = evicted_text losses ++ codes " " ++ flash_text losses
