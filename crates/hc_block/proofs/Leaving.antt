-- What the engine keeps where a read begins, goes on and ends, and that its fields then hold the machine's state.
use Rattle.std.proofs.Common.{◌≡◌, ℕ, ◌+◌, ◌-◌, ◌<◌, ◌≤◌, Bool, true, false, List, [], ◌∷◌, length, set, Option, Some, None, refl, sym, ap, arith, ◌∙◌, subst}
use Rattle.std.proofs.lemmas.List.{length-set}
use Rattle.std.proofs.lemmas.Bool.{ltb-true}
use Rattle.std.proofs.Math.Nat.{min-le_left}
use Rattle.std.specs.Prelude.{◌++◌, if◌then◌else◌, is_some, nat_lt, IfSome}
use Rattle.hc_types.specs.declared.config.FlashConfig.{FlashConfig}
use Rattle.hc_types.specs.Places.{kept_of}
use Rattle.hc_types.specs.FlashEntry.{FlashEntry}
use Rattle.hc_engines.specs.large.Entries.{entry_in}
use Rattle.hc_engines.specs.large.Region.{Region, clean_region, region_len, filled_to, region_at, page_no}
use Rattle.hc_engines.specs.large.Index.{Place, Indexed, place_at, is_place}
use Rattle.hc_engines.specs.large.Block.{Block, Job, Reading, Moved, Getting, finished, without_job, job_added, end_job, with_region}
use Rattle.hc_engines.specs.Engine.{Read, Answer, Absent, Loss, Outcome, nothing}
use Rattle.hc_engines.specs.large.Numbers.{minus}
use Rattle.hc_engines.specs.large.Steps.{end_page, reading_of, read_bytes, answered, answer_of, absent, unreadable, failed_read, got_page, read_next, pinned, let_go}
use Rattle.hc_engines.specs.large.Sound.{reads, readers, Sound}
use Rattle.hc_block.specs.Large.{Kept}
use Rattle.hc_block.specs.Ends.{flushed_left}
use Rattle.hc_block.specs.Endings.{Rest, Ending, index_without, without_lost, lost_at, read_left, IsReadEnding}
use Rattle.hc_block.specs.Works.{reading_at, IsReading}
use Rattle.hc_engines.specs.large.Unread.{read_on}
use Rattle.hc_block.specs.Reads.{came_in, came_by, came_failed, came_to, index_left, answer_at, losses_at, next_of, CanReadOn, CanRead}
use Rattle.hc_region.specs.CleanNumbers.{clean_from, now_clean}
use Rattle.hc_region.specs.Pins.{is_last, released, released_by}
use Rattle.hc_engines.proofs.large.Lists.{in_range}
use Rattle.hc_engines.proofs.large.Within.{set_within, no_fuller}
use Rattle.hc_engines.proofs.large.Jobs.{work_holds}
use Rattle.hc_engines.proofs.large.GetStays.{indexed_live, take_sound}
use Rattle.hc_engines.proofs.large.Flushes.{live_unclean}
use Rattle.hc_engines.proofs.large.Gets.{pinned_by}
use Rattle.hc_engines.proofs.large.GetsSound.{begins_sound, on_sound, let_go_sound}
use Rattle.hc_engines.specs.large.Laws.{IsFree}
use Rattle.hc_block.proofs.Going.{written_small}
use Rattle.hc_block.proofs.Waiting.{flushed_left_once}

-- ---- what a read came to

pub answered_is : (flash : FlashConfig) (reading : Reading) (s : Block) → answered flash reading s ≡ came_to (kept_of flash.bits reading.key) s (came_by flash reading.key reading.place reading.got reading.rest s.index)
answered_is flash reading s = go (is_place (place_at hash s.index) reading.place)
  where
    hash : ℕ
    hash = kept_of flash.bits reading.key

    of_entry : (o : Option FlashEntry) → answer_of hash reading.key s o ≡ came_to hash s (came_in reading.key o)
    of_entry None = refl
    of_entry (Some entry) = refl

    go : (t : Bool) → (if t then answer_of hash reading.key s (entry_in (read_bytes flash reading)) else absent s) ≡ came_to hash s (if t then came_in reading.key (entry_in (read_bytes flash reading)) else Some Absent)
    go true = of_entry (entry_in (read_bytes flash reading))
    go false = refl

pub failed_is : (flash : FlashConfig) (reading : Reading) (s : Block) → failed_read flash reading s ≡ came_to (kept_of flash.bits reading.key) s (came_failed flash reading.key reading.place s.index)
failed_is flash reading s = go (is_place (place_at (kept_of flash.bits reading.key) s.index) reading.place)
  where
    go : (t : Bool) → (if t then unreadable (kept_of flash.bits reading.key) s else absent s) ≡ came_to (kept_of flash.bits reading.key) s (if t then None else Some Absent)
    go true = refl
    go false = refl

pub came_is : (hash : ℕ) (s : Block) (came : Option Answer) → came_to hash s came ≡ finished (record s { index = index_left came hash s.index }) (record nothing { answer = answer_at came; losses = losses_at came hash })
came_is hash s None = refl
came_is hash s (Some answer) = refl

-- ---- a region is let go

-- the state that a read leaves
abbrev pub left_behind : ℕ → ℕ → Block → Block
left_behind number r s = record (end_job number s) { regions = set s.regions r (released (region_at r s.regions)); flushed = flushed_left (released_by (region_at r s.regions) r) r s.flushed }

pub let_go_is : (r hash number : ℕ) (s : Block) (came : Option Answer)
    → let_go r (came_to hash (end_job number s) came) ≡ finished (left_behind number r (record s { index = index_left came hash s.index })) (record nothing { answer = answer_at came; losses = losses_at came hash; cleared = released_by (region_at r s.regions) r })
let_go_is r hash number s came = ap (let_go r) (came_is hash (end_job number s) came) ∙ go (is_last (region_at r s.regions))
  where
    region : Region
    region = region_at r s.regions

    t : Block
    t = record (end_job number s) { index = index_left came hash s.index }

    o : Outcome
    o = record nothing { answer = answer_at came; losses = losses_at came hash }

    go : (b : Bool) → (if b
        then record { state = record (with_region r clean_region t) { flushed = minus r s.flushed }; outcome = record o { cleared = Some r }; order = None }
        else record { state = with_region r (record region { pins = region.pins - 1 }) t; outcome = o; order = None })
        ≡ finished (record t { regions = set s.regions r (if b then clean_region else record region { pins = region.pins - 1 }); flushed = flushed_left (if b then Some r else None) r s.flushed }) (record o { cleared = if b then Some r else None })
    go true = refl
    go false = refl

pub take_kept : (flash : FlashConfig) (hash : ℕ) (came : Option Answer) (s : Block) → Kept flash s → Kept flash (record s { index = index_left came hash s.index })
take_kept flash hash (Some answer) s k = k
take_kept flash hash None s k = record { limits = k.limits; count = k.count; filled = k.filled; sound = take_sound flash hash s k.sound; sealed_once = k.sealed_once; flushed_once = k.flushed_once }

-- ---- a read that is under way

pub read_small : (flash : FlashConfig) (number : ℕ) (s : Block) → Kept flash s → IsReading number s.jobs → (reading_at number s.jobs).next < 65536
read_small flash number s k h =
    let holds = work_holds flash s.regions number (Getting (reading_at number s.jobs)) s.jobs k.sound.works h in
    omega (arith, holds.0, holds.1, written_small flash s (reading_at number s.jobs).place.region k)

next_more : (flash : FlashConfig) (reading : Reading) (page : ℕ) → next_of flash reading ≡ Some page → reading.next + 1 < reading.until
next_more flash reading page e = go (nat_lt (reading.next + 1) reading.until) refl e
  where
    go : (t : Bool) → nat_lt (reading.next + 1) reading.until ≡ t → (if t then Some (page_no flash reading.place.region (reading.next + 1)) else None) ≡ Some page → reading.next + 1 < reading.until
    go true t e = ltb-true (reading.next + 1) reading.until t
    go false t e = absurd (cc)

pub all_can_read_on : (flash : FlashConfig) (number : ℕ) (s : Block) (o : Option ℕ) → Kept flash s → IsReading number s.jobs → next_of flash (reading_at number s.jobs) ≡ o → IfSome o (λ page. CanReadOn flash number s)
all_can_read_on flash number s None k h e = tt
all_can_read_on flash number s (Some page) k h e = record {
  read = h;
  small = read_small flash number s k h;
  kept = λ bytes. record { limits = k.limits; count = k.count; filled = k.filled; sound = on_sound flash number (reading_at number s.jobs) bytes s k.sound h (next_more flash (reading_at number s.jobs) page e); sealed_once = k.sealed_once; flushed_once = k.flushed_once };
}

-- ---- what the fields hold then

pub on_is : (flash : FlashConfig) (number : ℕ) (s : Block) (bytes : List ℕ) (jobs : List Job) → jobs ≡ job_added number (Getting (read_on (reading_at number s.jobs) bytes)) (without_job number s.jobs)
    → (read_next flash number (read_on (reading_at number s.jobs) bytes) (end_job number s)).state ≡ record s { jobs = jobs }
on_is flash number s bytes jobs js = rw js refl

pub read_there : (flash : FlashConfig) (number : ℕ) (s : Block) → Kept flash s → IsReading number s.jobs → (reading_at number s.jobs).place.region < length s.regions
read_there flash number s k h = in_range s.regions (reading_at number s.jobs).place.region (pinned_by flash number (reading_at number s.jobs) s k.sound h).unclean

pub leave_kept : (flash : FlashConfig) (number hash : ℕ) (came : Option Answer) (s : Block) → Kept flash s → IsReading number s.jobs → Kept flash (let_go (reading_at number s.jobs).place.region (came_to hash (end_job number s) came)).state
leave_kept flash number hash came s k h = subst (λ (m : Moved). Kept flash m.state) (sym (let_go_is r hash number s came)) (record {
  limits = k.limits;
  count = length-set s.regions r (released region) ∙ k.count;
  filled = set_within flash s.regions r (released region) (released_filled (is_last region)) k.filled;
  sound = subst (λ (m : Moved). Sound flash m.state) (let_go_is r hash number s came) (subst (λ (m : Moved). Sound flash (let_go r m).state) (sym (came_is hash (end_job number s) came)) gone);
  sealed_once = k.sealed_once;
  flushed_once = flushed_left_once (released_by region r) r s.flushed k.flushed_once;
})
  where
    r : ℕ
    r = (reading_at number s.jobs).place.region

    region : Region
    region = region_at r s.regions

    t : Block
    t = record s { index = index_left came hash s.index }

    gone : Sound flash (let_go r (finished (end_job number t) (record nothing { answer = answer_at came; losses = losses_at came hash }))).state
    gone = let_go_sound flash number (reading_at number s.jobs) t (record nothing { answer = answer_at came; losses = losses_at came hash }) (take_kept flash hash came s k).sound h

    released_filled : (b : Bool) → filled_to flash (if b then clean_region else record region { pins = region.pins - 1 }) ≤ region_len flash
    released_filled true = omega arith
    released_filled false = k.filled r

-- ---- the end of a read, in two

index-lost : (came : Option Answer) (hash : ℕ) (index : List Indexed) → index_left came hash index ≡ index_without (lost_at came hash) index
index-lost None hash index = refl
index-lost (Some answer) hash index = refl

-- what the question makes is how the read is over
pub read_ends : (flash : FlashConfig) (number r hash : ℕ) (s : Block) (came : Option Answer) (rest : Rest) (outcome : Outcome) (answer : Answer) (losses : List Loss) (cleared : Option ℕ) → IsReading number s.jobs
    → r ≡ (reading_at number s.jobs).place.region → hash ≡ kept_of flash.bits (reading_at number s.jobs).key → rest.lost ≡ lost_at came hash → now_clean rest.clean (clean_from 0 s.regions) ≡ clean_from 0 (set s.regions r (released (region_at r s.regions)))
    → answer ≡ answer_at came → losses ≡ losses_at came hash → cleared ≡ released_by (region_at r s.regions) r → outcome ≡ record nothing { answer = answer; losses = losses; cleared = cleared }
    → IsReadEnding flash number s came (record { outcome = outcome; rest = rest })
read_ends flash number r hash s came rest outcome answer losses cleared reads re he lost clean a l cl out = record {
  can = record { reads = reads; clean = subst (λ (q : ℕ). now_clean rest.clean (clean_from 0 s.regions) ≡ clean_from 0 (set s.regions q (released (region_at q s.regions)))) re clean };
  moved = (λ i. let_go (sym re i) (came_to (sym he i) (end_job number s) came)) ∙ let_go_is r hash number s came
      ∙ (λ i. finished (record (end_job number s) { regions = set s.regions (re i) (released (region_at (re i) s.regions)); flushed = flushed_left (released_by (region_at (re i) s.regions) (re i)) (re i) s.flushed; index = index i }) (made i));
}
  where
    index : index_left came hash s.index ≡ index_without rest.lost s.index
    index = index-lost came hash s.index ∙ ap (λ (o : Option ℕ). index_without o s.index) (sym lost)

    made : record nothing { answer = answer_at came; losses = losses_at came hash; cleared = released_by (region_at r s.regions) r } ≡ outcome
    made = sym (out ∙ (λ i. record nothing { answer = a i; losses = l i; cleared = cl i }))

-- the last page of a read
pub page_ends : (flash : FlashConfig) (number : ℕ) (s : Block) (page : List ℕ) (came : Option Answer) (ending : Ending) → is_some (next_of flash (reading_at number s.jobs)) ≡ false
    → came ≡ came_by flash (reading_at number s.jobs).key (reading_at number s.jobs).place ((reading_at number s.jobs).got ++ page) (reading_at number s.jobs).rest s.index → IsReadEnding flash number s came ending
    → got_page flash number (reading_at number s.jobs) page (end_job number s) ≡ finished (read_left number ending.rest s) ending.outcome
page_ends flash number s page came ending last is ends = by (nat_lt (reading.next + 1) reading.until) last
  where
    reading : Reading
    reading = reading_at number s.jobs

    more : Reading
    more = record reading { got = reading.got ++ page; next = reading.next + 1 }

    by : (t : Bool) → is_some (if t then Some (page_no flash reading.place.region (reading.next + 1)) else None) ≡ false
        → (if t then read_next flash number more (end_job number s) else let_go reading.place.region (answered flash more (end_job number s))) ≡ finished (read_left number ending.rest s) ending.outcome
    by true h = absurd cc
    by false h = ap (let_go reading.place.region) (answered_is flash more (end_job number s) ∙ ap (came_to (kept_of flash.bits reading.key) (end_job number s)) (sym is)) ∙ ends.moved

-- a page that wasn't read
pub failed_ends : (flash : FlashConfig) (number : ℕ) (s : Block) (came : Option Answer) (ending : Ending) → came ≡ came_failed flash (reading_at number s.jobs).key (reading_at number s.jobs).place s.index → IsReadEnding flash number s came ending
    → let_go (reading_at number s.jobs).place.region (failed_read flash (reading_at number s.jobs) (end_job number s)) ≡ finished (read_left number ending.rest s) ending.outcome
failed_ends flash number s came ending is ends =
    ap (let_go (reading_at number s.jobs).place.region) (failed_is flash (reading_at number s.jobs) (end_job number s) ∙ ap (came_to (kept_of flash.bits (reading_at number s.jobs).key) (end_job number s)) (sym is)) ∙ ends.moved

pub lost_kept : (flash : FlashConfig) (lost : Option ℕ) (s : Block) → Kept flash s → Kept flash (without_lost lost s)
lost_kept flash None s k = k
lost_kept flash (Some hash) s k = take_kept flash hash None s k

read-left-kept : (flash : FlashConfig) (number : ℕ) (rest : Rest) (s : Block) → Kept flash s → IsReading number s.jobs → Kept flash (read_left number rest s)
read-left-kept flash number rest s k h = by rest.lost
  where
    r : ℕ
    r = (reading_at number s.jobs).place.region

    by : (lost : Option ℕ) → Kept flash (record (end_job number s) { regions = set s.regions r (released (region_at r s.regions)); flushed = flushed_left (released_by (region_at r s.regions) r) r s.flushed; index = index_without lost s.index })
    by None = subst (λ (m : Moved). Kept flash m.state) (let_go_is r 0 number s (Some Absent)) (leave_kept flash number 0 (Some Absent) s k h)
    by (Some hash) = subst (λ (m : Moved). Kept flash m.state) (let_go_is r hash number s None) (leave_kept flash number hash None s k h)

-- what the fields hold once a read is over is what the engine keeps
pub end_kept : (flash : FlashConfig) (number r : ℕ) (rest : Rest) (s : Block) (cleared : Option ℕ) (index : List Indexed) (regions : List Region) (flushed : List ℕ) (jobs : List Job) → Kept flash s → IsReading number s.jobs
    → r ≡ (reading_at number s.jobs).place.region → index ≡ index_without rest.lost s.index → regions ≡ set s.regions r (released (region_at r s.regions)) → cleared ≡ released_by (region_at r s.regions) r → flushed ≡ flushed_left cleared r s.flushed
    → jobs ≡ without_job number s.jobs → Kept flash (record s { regions = regions; flushed = flushed; index = index; jobs = jobs })
end_kept flash number r rest s cleared index regions flushed jobs k h re ix rs cl fl js = subst (λ (t : Block). Kept flash t) ((λ i. record (end_job number s) {
  regions = set s.regions (sym re i) (released (region_at (sym re i) s.regions));
  flushed = flushed_left (released_by (region_at (sym re i) s.regions) (sym re i)) (sym re i) s.flushed;
  index = index_without rest.lost s.index;
}) ∙ now) (read-left-kept flash number rest s k h)
  where
    went : flushed_left (released_by (region_at r s.regions) r) r s.flushed ≡ flushed
    went = sym (fl ∙ ap (λ (o : Option ℕ). flushed_left o r s.flushed) cl)

    now : record (end_job number s) { regions = set s.regions r (released (region_at r s.regions)); flushed = flushed_left (released_by (region_at r s.regions) r) r s.flushed; index = index_without rest.lost s.index } ≡ record s { regions = regions; flushed = flushed; index = index; jobs = jobs }
    now = λ i. record s { regions = sym rs i; flushed = went i; index = sym ix i; jobs = sym js i }

-- ---- a read begins

some_readers : (r : ℕ) (jobs : List Job) → readers r jobs ≤ length jobs
some_readers r [] = omega arith
some_readers r (job ∷ jobs) = go (reads r job.work) (some_readers r jobs)
  where
    go : (t : Bool) → readers r jobs ≤ length jobs → (if t then 1 else 0) + readers r jobs ≤ length (job ∷ jobs)
    go true h = omega (arith, h)
    go false h = omega (arith, h)

pub place_there : (flash : FlashConfig) (s : Block) (hash : ℕ) (place : Place) → Kept flash s → place_at hash s.index ≡ Some place → place.region < length s.regions
place_there flash s hash place k e = in_range s.regions place.region (live_unclean (region_at place.region s.regions).status (indexed_live flash s hash place k.sound e))

pub can_read : (flash : FlashConfig) (number hash : ℕ) (key : List ℕ) (place : Place) (s : Block) → Kept flash s → place_at hash s.index ≡ Some place → (reading_of flash key place s).next < (reading_of flash key place s).until → IsFree number s
    → CanRead flash number (reading_of flash key place s) s
can_read flash number hash key place s k e below free = record {
  free = free;
  there = place_there flash s hash place k e;
  pins = omega (arith, (k.sound.regions place.region).pinned, some_readers place.region s.jobs);
  next = omega (arith, below, within, written_small flash s place.region k);
  kept = record {
    limits = k.limits;
    count = length-set s.regions place.region x ∙ k.count;
    filled = no_fuller flash s.regions place.region x (omega arith) k.filled;
    sound = begins_sound flash number (reading_of flash key place s) s k.sound free (live_unclean (region_at place.region s.regions).status (indexed_live flash s hash place k.sound e)) below within;
    sealed_once = k.sealed_once;
    flushed_once = k.flushed_once;
  };
}
  where
    x : Region
    x = record (region_at place.region s.regions) { pins = (region_at place.region s.regions).pins + 1 }

    within : (reading_of flash key place s).until ≤ (region_at place.region s.regions).written
    within = min-le_left (region_at place.region s.regions).written (end_page flash place)

-- what the fields hold where a read began is the machine's state
pub began_is : (flash : FlashConfig) (number : ℕ) (reading : Reading) (s : Block) (regions : List Region) (jobs : List Job) (page : ℕ) → regions ≡ set s.regions reading.place.region (record (region_at reading.place.region s.regions) { pins = (region_at reading.place.region s.regions).pins + 1 })
    → jobs ≡ job_added number (Getting reading) s.jobs → page ≡ page_no flash reading.place.region reading.next
    → read_next flash number reading (pinned reading.place.region s) ≡ record { state = record s { regions = regions; jobs = jobs }; outcome = nothing; order = Some (Read page) }
began_is flash number reading s regions jobs page rs js p = rw (rs, js, p) refl
